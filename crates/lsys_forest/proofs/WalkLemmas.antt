-- Walks along a level: from child to child, and where a parent has no more from its level's next node that has some.
use Rattle.std.proofs.Common.{◌≡◌, ◌+◌, ◌-◌, ◌<◌, ℕ, zero, suc, List, [], ◌∷◌, ◌++◌, length, slice_get, Option, Some, None, refl, sym, ap, ◌∙◌, arith, inl, inr, subst, append_assoc}
use Rattle.std.proofs.lemmas.List.{append-nil, length_push}
use Rattle.std.proofs.lemmas.Option.{none-some, same_Some}
use Rattle.lsys_forest.specs.declared.walk.Way.{Way}
use Rattle.lsys_forest.specs.declared.walk.Way.TheVariants as ways
use Rattle.lsys_forest.specs.Nodes.{Node, Nodes}
use Rattle.lsys_forest.specs.Changes.{Change}
use Rattle.lsys_forest.specs.Groves.{IsRooted}
use Rattle.lsys_forest.specs.declared.node.Footing.{Footing}
use Rattle.lsys_forest.specs.Slots.{rank_at}
use Rattle.lsys_forest.specs.Ranks.{AreRanked}
use Rattle.lsys_forest.specs.Rows.{index_in, oriented, kids_in, kids_that_way, kids_below, level_nodes}
use Rattle.lsys_forest.proofs.RowLemmas.{In_right, In_split, same_sides, index_of, oriented_In, oriented_In_back, oriented_apart, oriented_flat, flat_around, child, level_apart, level_depth, parent_level, parent_root}
use Rattle.std.specs.Prelude.{IsSome, IfSome, option_map}
use Rattle.std.proofs.Common.{ℤ}
use Rattle.lsys_spec.specs.Rows.{In, AreApart, first_in, last_in, mirrored, flat}
use Rattle.lsys_forest.specs.declared.node.Stored.{Stored}
use Rattle.lsys_forest.specs.Stocks.{row_at, node_of}
use Rattle.lsys_forest.proofs.StockLemmas.{shown_nodes, lives_stored}

-- 1. among children

pub get_In : (xs : List ℕ) (i k : ℕ) → slice_get xs i ≡ Some k → In k xs
get_In [] i k e = absurd (none-some k e)
get_In (x ∷ xs) zero k e = inl (sym (same_Some x k e))
get_In (x ∷ xs) (suc i) k e = inr (get_In xs i k e)

-- where a member stands
place_is : (k : ℕ) (b a : List ℕ) (i : ℕ) → AreApart (b ++ k ∷ a) → slice_get (b ++ k ∷ a) i ≡ Some k → i ≡ length b
place_is k [] a zero apart e = refl
place_is k [] a (suc i) apart e = absurd (apart.0 (get_In a i k e))
place_is k (x ∷ b) a zero apart e = absurd (apart.0 (subst (λ j. In j (b ++ k ∷ a)) (sym (same_Some x k e)) (In_right k b (k ∷ a) (inl refl))))
place_is k (x ∷ b) a (suc i) apart e = ap suc (place_is k b a i apart.1 e)

right_after : (b : List ℕ) (k : ℕ) (a : List ℕ) → slice_get (b ++ k ∷ a) (suc (length b)) ≡ first_in a
right_after [] k [] = refl
right_after [] k (x ∷ a) = refl
right_after (x ∷ b) k a = right_after b k a

pub next_right : (xs : List ℕ) (k i : ℕ) → AreApart xs → slice_get xs i ≡ Some k → (b a : List ℕ) → xs ≡ b ++ k ∷ a → slice_get xs (i + 1) ≡ first_in a
next_right xs k i apart here b a whole =
    let at = place_is k b a i (subst AreApart whole apart) (subst (λ (l : List ℕ). slice_get l i ≡ Some k) whole here) in
    ap (λ (l : List ℕ). slice_get l (i + 1)) whole ∙ (let next : i + 1 ≡ suc (length b) = omega (arith, at) in ap (slice_get (b ++ k ∷ a)) next) ∙ right_after b k a

pub mirrored_push : (xs : List ℕ) (x : ℕ) → mirrored (xs ++ x ∷ []) ≡ x ∷ mirrored xs
mirrored_push [] x = refl
mirrored_push (y ∷ xs) x = ap (λ (l : List ℕ). l ++ y ∷ []) (mirrored_push xs x)

pub mirrored_twice : (xs : List ℕ) → mirrored (mirrored xs) ≡ xs
mirrored_twice [] = refl
mirrored_twice (x ∷ xs) = mirrored_push (mirrored xs) x ∙ ap (λ (l : List ℕ). x ∷ l) (mirrored_twice xs)

pub mirrored_around : (b : List ℕ) (k : ℕ) (a : List ℕ) → mirrored (b ++ k ∷ a) ≡ mirrored a ++ k ∷ mirrored b
mirrored_around [] k a = refl
mirrored_around (x ∷ b) k a = ap (λ (l : List ℕ). l ++ x ∷ []) (mirrored_around b k a) ∙ append_assoc (mirrored a) (k ∷ mirrored b) (x ∷ [])

mirrored_long : (xs : List ℕ) → length (mirrored xs) ≡ length xs
mirrored_long [] = refl
mirrored_long (x ∷ xs) = omega (arith, length_push (mirrored xs) x, mirrored_long xs)

before_first : (a : List ℕ) (k : ℕ) (b : List ℕ) (i : ℕ) → i + 1 ≡ length (mirrored a) → slice_get (mirrored a ++ k ∷ b) i ≡ first_in a
before_first [] k b i e = absurd (omega (arith, e))
before_first (y ∷ a) k b i e =
    let at : i ≡ length (mirrored a) = omega (arith, e, length_push (mirrored a) y) in
    ap (slice_get ((mirrored a ++ y ∷ []) ++ k ∷ b)) at ∙ ap (λ (l : List ℕ). slice_get l (length (mirrored a))) (append_assoc (mirrored a) (y ∷ []) (k ∷ b)) ∙ there (mirrored a) y (k ∷ b)
  where
    there : (xs : List ℕ) (x : ℕ) (ys : List ℕ) → slice_get (xs ++ x ∷ ys) (length xs) ≡ Some x
    there [] x ys = refl
    there (z ∷ xs) x ys = there xs x ys

left_at : (xs : List ℕ) (k i : ℕ) → AreApart xs → slice_get xs i ≡ Some k → (b a : List ℕ) → mirrored xs ≡ b ++ k ∷ a → (xs ≡ mirrored a ++ k ∷ mirrored b) × (i ≡ length (mirrored a))
left_at xs k i apart here b a whole =
    let e : xs ≡ mirrored a ++ k ∷ mirrored b = sym (mirrored_twice xs) ∙ ap mirrored whole ∙ mirrored_around b k a in
    (e, place_is k (mirrored a) (mirrored b) i (subst AreApart e apart) (subst (λ (l : List ℕ). slice_get l i ≡ Some k) e here))

pub next_left : (xs : List ℕ) (k i j : ℕ) → AreApart xs → slice_get xs i ≡ Some k → j + 1 ≡ i → (b a : List ℕ) → mirrored xs ≡ b ++ k ∷ a → slice_get xs j ≡ first_in a
next_left xs k i j apart here less b a whole =
    let at = left_at xs k i apart here b a whole in
    ap (λ (l : List ℕ). slice_get l j) at.0 ∙ before_first a k (mirrored b) j (less ∙ at.1)

pub none_left : (xs : List ℕ) (k : ℕ) → AreApart xs → slice_get xs 0 ≡ Some k → (b a : List ℕ) → mirrored xs ≡ b ++ k ∷ a → None ≡ first_in a
none_left xs k apart here b [] whole = refl
none_left xs k apart here b (y ∷ a) whole =
    let at = left_at xs k 0 apart here b (y ∷ a) whole in
    absurd (omega (arith, at.1, length_push (mirrored a) y))

first_more : (xs : List ℕ) (x : ℕ) → 0 < length xs → first_in (xs ++ x ∷ []) ≡ first_in xs
first_more [] x some = absurd (omega (arith, some))
first_more (y ∷ xs) x some = refl

pub last_first : (xs : List ℕ) → slice_get xs (length xs - 1) ≡ first_in (mirrored xs)
last_first [] = refl
last_first (x ∷ []) = refl
last_first (x ∷ y ∷ xs) = (let e : length (x ∷ y ∷ xs) - 1 ≡ suc (length (y ∷ xs) - 1) = omega arith in ap (slice_get (x ∷ y ∷ xs)) e) ∙ last_first (y ∷ xs) ∙ sym (first_more (mirrored (y ∷ xs)) x (omega (arith, mirrored_long (y ∷ xs))))

pub last_mirrored : (xs : List ℕ) → last_in xs ≡ first_in (mirrored xs)
last_mirrored [] = refl
last_mirrored (x ∷ []) = refl
last_mirrored (x ∷ y ∷ xs) = last_mirrored (y ∷ xs) ∙ sym (first_more (mirrored (y ∷ xs)) x (omega (arith, mirrored_long (y ∷ xs))))

pub no_first : (xs : List ℕ) → first_in xs ≡ None → xs ≡ []
no_first [] e = refl
no_first (x ∷ xs) e = absurd (none-some x (sym e))

pub first_split : (xs : List ℕ) (x : ℕ) → first_in xs ≡ Some x → (rest : List ℕ) × (xs ≡ x ∷ rest)
first_split [] x e = absurd (none-some x e)
first_split (y ∷ xs) x e = (xs, ap (λ z. z ∷ xs) (same_Some y x e))

pub first_append : (xs ys : List ℕ) (x : ℕ) → first_in xs ≡ Some x → first_in (xs ++ ys) ≡ Some x
first_append [] ys x e = absurd (none-some x e)
first_append (y ∷ xs) ys x e = e

pub In_at : (k : ℕ) (xs : List ℕ) → In k xs → (i : ℕ) × (slice_get xs i ≡ Some k)
In_at k [] h = absurd h
In_at k (x ∷ xs) (inl e) = (0, ap Some (sym e))
In_at k (x ∷ xs) (inr h) = let r = In_at k xs h in (suc r.0, r.1)

pub first_among : (xs : List ℕ) (first : Option ℕ) → first ≡ first_in xs → IfSome first (λ k. In k xs)
first_among [] first e = subst (λ (o : Option ℕ). IfSome o (λ k. ⊥)) (sym e) tt
first_among (x ∷ xs) first e = subst (λ (o : Option ℕ). IfSome o (λ k. In k (x ∷ xs))) (sym e) (inl refl)

-- how many nodes of the level are from this one on
abbrev pub left_from : List ℕ → Option ℕ → ℕ
left_from level None = 0
left_from level (Some q) = length level - index_in q level

pub long_around : (xs : List ℕ) (x : ℕ) (ys : List ℕ) → length (xs ++ x ∷ ys) ≡ length xs + 1 + length ys
long_around [] x ys = omega arith
long_around (z ∷ xs) x ys = omega (arith, long_around xs x ys)

pub left_on : (O : List ℕ) → AreApart O → (passed : List ℕ) (q : ℕ) (ahead : List ℕ) (next : Option ℕ) → O ≡ passed ++ q ∷ ahead → next ≡ first_in ahead → left_from O next < left_from O (Some q)
left_on O apart passed q [] next whole e =
    let gone : next ≡ None = e in
    let here : index_in q O ≡ length passed = ap (index_in q) whole ∙ index_of q passed [] (subst AreApart whole apart) in
    let size = ap length whole in
    let none : left_from O next ≡ 0 = ap (left_from O) gone in
    omega (arith, here, size, none, long_around passed q [])
left_on O apart passed q (r ∷ ahead) next whole e =
    let again : O ≡ (passed ++ q ∷ []) ++ r ∷ ahead = whole ∙ sym (append_assoc passed (q ∷ []) (r ∷ ahead)) in
    let here : index_in q O ≡ length passed = ap (index_in q) whole ∙ index_of q passed (r ∷ ahead) (subst AreApart whole apart) in
    let then : index_in r O ≡ length (passed ++ q ∷ []) = ap (index_in r) again ∙ index_of r (passed ++ q ∷ []) ahead (subst AreApart again apart) in
    let size = ap length whole in
    let some : left_from O next ≡ length O - index_in r O = ap (left_from O) e in
    omega (arith, here, then, size, some, long_around passed q (r ∷ ahead), length_push passed q)

module _ {A : Type 0} where
  -- a child stands where its rank says
  pub ranked_at : (k p : ℕ) (m : Nodes A) (at : List Footing) (rank : ℕ) → AreRanked m at → In k (kids_in (m p)) → rank ≡ rank_at at k → slice_get (kids_in (m p)) rank ≡ Some k
  ranked_at k p m at rank ranked among reads = go (m p) refl among
    where
      go : (o : Option (Node A)) → m p ≡ o → In k (kids_in o) → slice_get (kids_in o) rank ≡ Some k
      go None e h = absurd h
      go (Some n) e h = let i = In_at k n.kids h in ap (slice_get n.kids) (reads ∙ ranked p n i.0 k e i.1) ∙ i.1

  -- 2. along a level

  level_that_way : (way : Way) (m : Nodes A) (root t : ℕ) → oriented way (level_nodes m root (suc t)) ≡ flat (kids_that_way way m) (oriented way (level_nodes m root t))
  level_that_way way m root t = oriented_flat way (λ k. kids_in (m k)) (level_nodes m root t)

  -- What a walk along a level keeps true: of the lists that it looks through, those of the nodes from `at` on are left.
  pub record IsAlong (Left : List ℕ → Type 0) (way : Way) (m : Nodes A) (root t : ℕ) (at : Option ℕ) : Type 0 where
    pub passed : List ℕ
    pub ahead : List ℕ
    pub whole : oriented way (level_nodes m root t) ≡ passed ++ ahead
    pub at_is : at ≡ first_in ahead
    pub rest : Left (flat (kids_that_way way m) ahead)

  -- what stands after a node of the level below
  abbrev pub After : Way → Nodes A → ℕ → ℕ → ℕ → List ℕ → Type 0
  After way m root t node rest = (b a : List ℕ) → oriented way (level_nodes m root (suc t)) ≡ b ++ node ∷ a → a ≡ rest

  -- the children of the nodes from this one on
  abbrev pub Below : Way → Nodes A → ℕ → ℕ → Option ℕ → List ℕ → Type 0
  Below way m root t start rest = (b a : List ℕ) → oriented way (level_nodes m root t) ≡ b ++ a → start ≡ first_in a → flat (kids_that_way way m) a ≡ rest

  -- the parent of a node, between the others of its level, and the node among its children
  pub record IsAmid (way : Way) (m : Nodes A) (root t p node : ℕ) : Type 0 where
    pub before : List ℕ
    pub after : List ℕ
    pub level : oriented way (level_nodes m root t) ≡ before ++ p ∷ after
    pub left : List ℕ
    pub right : List ℕ
    pub kids : kids_that_way way m p ≡ left ++ node ∷ right
    pub past_it : (b a : List ℕ) → oriented way (level_nodes m root (suc t)) ≡ b ++ node ∷ a → a ≡ right ++ flat (kids_that_way way m) after

  pub amid : (way : Way) (root : ℕ) (changes : List (Change A)) (m : Nodes A) → IsRooted root changes m → (t k : ℕ) (n : Node A) → In k (level_nodes m root (suc t)) → m k ≡ Some n → IsAmid way m root t n.parent k
  amid way root changes m sound t k n h is =
      let up = parent_level root changes m sound t k n h is in
      let s = In_split n.parent (oriented way (level_nodes m root t)) (oriented_In way n.parent (level_nodes m root t) up.0) in
      let r = In_split k (kids_that_way way m n.parent) (oriented_In way k (kids_in (m n.parent)) up.1) in
      let K = kids_that_way way m in
      let e : oriented way (level_nodes m root (suc t)) ≡ (flat K s.0 ++ r.0) ++ k ∷ (r.1 ++ flat K s.1) =
      level_that_way way m root t ∙ ap (flat K) s.2 ∙ flat_around K s.0 n.parent s.1 r.0 k r.1 r.2 in
      record {
        before = s.0;
        after = s.1;
        level = s.2;
        left = r.0;
        right = r.1;
        kids = r.2;
        past_it = λ b a whole. (
            let apart = subst AreApart e (oriented_apart way (level_nodes m root (suc t)) (level_apart root changes m sound (suc t))) in
            sym (same_sides k (flat K s.0 ++ r.0) (r.1 ++ flat K s.1) b a apart (sym e ∙ whole)).1
            );
      }

  -- the next child of the same parent
  pub next_same : (way : Way) (m : Nodes A) (root t p node : ℕ) → (am : IsAmid way m root t p node) → (next : ℕ) → Some next ≡ first_in am.right → (b a : List ℕ) → oriented way (level_nodes m root (suc t)) ≡ b ++ node ∷ a → Some next ≡ first_in a
  next_same way m root t p node am next e b a whole = sym (ap first_in (am.past_it b a whole) ∙ first_append am.right (flat (kids_that_way way m) am.after) next (sym e))

  pub after_start : (way : Way) (m : Nodes A) (root t p node : ℕ) (at : Option ℕ) → (am : IsAmid way m root t p node) → first_in am.right ≡ None → at ≡ first_in am.after → IsAlong (After way m root t node) way m root t at
  after_start way m root t p node at am none is = record {
    passed = am.before ++ p ∷ [];
    ahead = am.after;
    whole = am.level ∙ sym (append_assoc am.before (p ∷ []) am.after);
    at_is = is;
    rest = λ b a whole. am.past_it b a whole ∙ ap (λ (l : List ℕ). l ++ flat (kids_that_way way m) am.after) (no_first am.right none);
  }

  pub below_start : (way : Way) (root : ℕ) (changes : List (Change A)) (m : Nodes A) → IsRooted root changes m → (t : ℕ) (start : Option ℕ) → IfSome start (λ k. In k (level_nodes m root t)) → IsAlong (Below way m root t start) way m root t start
  below_start way root changes m sound t None among = record {
    passed = oriented way (level_nodes m root t);
    ahead = [];
    whole = sym (append-nil (oriented way (level_nodes m root t)));
    at_is = refl;
    rest = λ b a whole e. ap (flat (kids_that_way way m)) (no_first a (sym e));
  }
  below_start way root changes m sound t (Some k) among =
      let O = oriented way (level_nodes m root t) in
      let s = In_split k O (oriented_In way k (level_nodes m root t) among) in
      record {
        passed = s.0;
        ahead = k ∷ s.1;
        whole = s.2;
        at_is = refl;
        rest = λ b a whole e. (
            let r = first_split a k (sym e) in
            let apart = subst AreApart s.2 (oriented_apart way (level_nodes m root t) (level_apart root changes m sound t)) in
            let same = same_sides k s.0 s.1 b r.0 apart (sym s.2 ∙ whole ∙ ap (λ (l : List ℕ). b ++ l) r.1) in
            ap (flat (kids_that_way way m)) (r.1 ∙ ap (λ (l : List ℕ). k ∷ l) (sym same.1))
            );
      }

  -- the node at which the walk stands
  pub record IsThere (Left : List ℕ → Type 0) (way : Way) (m : Nodes A) (root t q : ℕ) : Type 0 where
    pub passed : List ℕ
    pub ahead : List ℕ
    pub whole : oriented way (level_nodes m root t) ≡ passed ++ q ∷ ahead
    pub among : In q (level_nodes m root t)
    pub rest : Left (kids_that_way way m q ++ flat (kids_that_way way m) ahead)

  module _ (Left : List ℕ → Type 0) (way : Way) (m : Nodes A) (root t : ℕ) where
    pub there : (q : ℕ) (at : Option ℕ) → IsAlong Left way m root t at → at ≡ Some q → IsThere Left way m root t q
    there q at walk e =
        let s = first_split walk.ahead q (sym walk.at_is ∙ e) in
        let whole = walk.whole ∙ ap (λ (l : List ℕ). walk.passed ++ l) s.1 in
        record {
          passed = walk.passed;
          ahead = s.0;
          whole = whole;
          among = oriented_In_back way q (level_nodes m root t) (subst (In q) (sym whole) (In_right q walk.passed (q ∷ s.0) (inl refl)));
          rest = subst (λ (l : List ℕ). Left (flat (kids_that_way way m) l)) s.1 walk.rest;
        }

    pub walk_on : (q : ℕ) (next : Option ℕ) → (at : IsThere Left way m root t q) → first_in (kids_that_way way m q) ≡ None → next ≡ first_in at.ahead → IsAlong Left way m root t next
    walk_on q next at none is = record {
      passed = at.passed ++ q ∷ [];
      ahead = at.ahead;
      whole = at.whole ∙ sym (append_assoc at.passed (q ∷ []) at.ahead);
      at_is = is;
      rest = subst (λ (l : List ℕ). Left (l ++ flat (kids_that_way way m) at.ahead)) (no_first (kids_that_way way m q) none) at.rest;
    }

    pub walk_end : IsAlong Left way m root t None → Left []
    walk_end walk = subst (λ (l : List ℕ). Left (flat (kids_that_way way m) l)) (no_first walk.ahead (sym walk.at_is)) walk.rest

    pub found : (q kid : ℕ) → (at : IsThere Left way m root t q) → Some kid ≡ first_in (kids_that_way way m q) → Some kid ≡ first_in (kids_that_way way m q ++ flat (kids_that_way way m) at.ahead)
    found q kid at e = sym (first_append (kids_that_way way m q) (flat (kids_that_way way m) at.ahead) kid (sym e))

    pub walk_less : (changes : List (Change A)) → IsRooted root changes m → (q : ℕ) (next : Option ℕ) → (at : IsThere Left way m root t q) → next ≡ first_in at.ahead → left_from (oriented way (level_nodes m root t)) next < left_from (oriented way (level_nodes m root t)) (Some q)
    walk_less changes sound q next at is = left_on (oriented way (level_nodes m root t)) (oriented_apart way (level_nodes m root t) (level_apart root changes m sound t)) at.passed q at.ahead next at.whole is

  -- a node of a level is among the children of its parent
  pub level_parent : (root : ℕ) (changes : List (Change A)) (m : Nodes A) → IsRooted root changes m → (t k : ℕ) (n : Node A) → In k (level_nodes m root t) → m k ≡ Some n → In k (kids_in (m n.parent))
  level_parent root changes m sound zero k n h is = subst (λ j. In k (kids_in (m j))) (sym (parent_root root changes m sound k n h is)) h
  level_parent root changes m sound (suc t) k n h is = (parent_level root changes m sound t k n h is).1

  -- a node that has children lives
  pub kids_live : (root : ℕ) (changes : List (Change A)) (m : Nodes A) → IsRooted root changes m → (p k : ℕ) → In k (kids_in (m p)) → IsSome (m p)
  kids_live root changes m sound p k h = let c = child root changes m sound p k h in subst IsSome (sym c.above_is) refl

  pub level_live : (root : ℕ) (changes : List (Change A)) (m : Nodes A) → IsRooted root changes m → (t k : ℕ) → In k (level_nodes m root t) → IsSome (m k)
  level_live root changes m sound t k h = let n = level_depth root changes m sound t k h in subst IsSome (sym n.1) refl

  pub rows_are : (slots : List (Option (Stored A))) (params : List (List ℤ)) (kids : List (List ℕ)) (k : ℕ) → IsSome (shown_nodes slots params kids k) → row_at kids k ≡ kids_in (shown_nodes slots params kids k)
  rows_are slots params kids k lives =
      let s = lives_stored slots params kids k lives in
      sym (ap (λ (o : Option (Stored A)). kids_in (option_map (node_of (row_at params k) (row_at kids k)) o)) s.1)

  -- the next child of the same parent comes next on the level
  pub next_on : (way : Way) (root : ℕ) (changes : List (Change A)) (m : Nodes A) → IsRooted root changes m → (t k : ℕ) (n : Node A) (next : ℕ) → In k (level_nodes m root t) → m k ≡ Some n → ((b a : List ℕ) → oriented way (kids_in (m n.parent)) ≡ b ++ k ∷ a → Some next ≡ first_in a) → (b a : List ℕ) → oriented way (level_nodes m root t) ≡ b ++ k ∷ a → Some next ≡ first_in a
  next_on way root changes m sound zero k n next h is e b a whole = e b a (ap (λ j. oriented way (kids_in (m j))) (parent_root root changes m sound k n h is) ∙ whole)
  next_on way root changes m sound (suc t) k n next h is e b a whole =
      let am = amid way root changes m sound t k n h is in
      next_same way m root t n.parent k am next (e am.left am.right am.kids) b a whole

  -- from the last node up to a node, the first child from the right is the last one
  pub last_of : (m : Nodes A) (before : List ℕ) (k : ℕ) → first_in (flat (kids_that_way ways.Left m) (k ∷ mirrored before)) ≡ last_in (kids_below m (before ++ k ∷ []))
  last_of m before k =
      ap (λ (l : List ℕ). first_in (flat (kids_that_way ways.Left m) l)) (sym (mirrored_push before k))
      ∙ ap first_in (sym (oriented_flat ways.Left (λ j. kids_in (m j)) (before ++ k ∷ [])))
      ∙ sym (last_mirrored (kids_below m (before ++ k ∷ [])))
