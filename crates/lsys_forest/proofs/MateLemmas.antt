-- The mate of a bracket, by a walk that counts the branches inside.
use Rattle.std.proofs.Common.{ℤ, ◌≡◌, ◌+◌, ◌<◌, ◌≤◌, ℕ, zero, suc, true, List, [], ◌∷◌, ◌++◌, length, drop, slice_get, Option, Some, None, refl, sym, ap, ◌∙◌, arith, inl, subst, append_assoc}
use Rattle.std.specs.Prelude.{IsSome, option_map}
use Rattle.std.proofs.lemmas.List.{append-nil, length_push}
use Rattle.std.proofs.lemmas.Option.{none-some, same_Some}
use Rattle.lsys_spec.specs.Rows.{In, AreApart, first_in, mirrored}
use Rattle.lsys_spec.specs.Levels.{close_of, AreMates, level_balanced}
use Rattle.lsys_spec.specs.Levels as L
use Rattle.lsys_level.specs.Spots.{Seen, Push, Pop, with_lineage, named}
use Rattle.lsys_forest.specs.declared.node.NodeKind.{NodeKind}
use Rattle.lsys_forest.specs.declared.node.NodeKind.TheVariants as kinds
use Rattle.lsys_forest.specs.declared.walk.Way.{Way}
use Rattle.lsys_forest.specs.declared.walk.Way.TheVariants.{Left, Right}
use Rattle.lsys_forest.specs.Nodes.{Node, Nodes, seen_as}
use Rattle.lsys_forest.specs.Rows.{index_in, oriented, spot_in}
use Rattle.lsys_forest.specs.Mates.{nested, IsBracketThat, seen_level, IsMateThat}
use Rattle.lsys_forest.specs.declared.node.Footing.{Footing}
use Rattle.lsys_forest.specs.Slots.{footing_mate}
use Rattle.lsys_forest.specs.Pairs.{open_after, branch_opening, ends_or, branch_end, seen_at, AreMatedIn}
use Rattle.lsys_forest.proofs.RowLemmas.{In_right, In_split, oriented_In_back, index_of}
use Rattle.lsys_forest.proofs.WalkLemmas.{mirrored_around, mirrored_twice, mirrored_push}

-- 1. closing brackets and balance, whatever the lineages are

-- a bracket closes what is open
closes : (x : List L.LevelSymbol) (n j : ℕ) → level_balanced n x ≡ true → j < n → IsSome (close_of j x)
closes [] n j b less = absurd (no n b less)
  where
    no : (n : ℕ) → level_balanced n [] ≡ true → j < n → ⊥
    no zero b less = omega (arith, less)
    no (suc n) b less = grind (arith, b)
closes (L.Module l m ∷ x) n j b less = some_map (close_of j x) (closes x n j b less)
  where
    some_map : (o : Option ℕ) → IsSome o → IsSome (option_map (λ q. q + 1) o)
    some_map None h = h
    some_map (Some q) h = refl
closes (L.Push l ∷ x) n j b less = some_map (close_of (suc j) x) (closes x (suc n) (suc j) b (omega (arith, less)))
  where
    some_map : (o : Option ℕ) → IsSome o → IsSome (option_map (λ q. q + 1) o)
    some_map None h = h
    some_map (Some q) h = refl
closes (L.Pop l ∷ x) zero j b less = absurd (omega (arith, less))
closes (L.Pop l ∷ x) (suc n) zero b less = refl
closes (L.Pop l ∷ x) (suc n) (suc j) b less = some_map (close_of j x) (closes x n j b (omega (arith, less)))
  where
    some_map : (o : Option ℕ) → IsSome o → IsSome (option_map (λ q. q + 1) o)
    some_map None h = h
    some_map (Some q) h = refl

-- nothing closes what is not open
none_closes : (x : List L.LevelSymbol) (n j : ℕ) → level_balanced n x ≡ true → n ≤ j → close_of j x ≡ None
none_closes [] n j b le = refl
none_closes (L.Module l m ∷ x) n j b le = ap (option_map (λ q. q + 1)) (none_closes x n j b le)
none_closes (L.Push l ∷ x) n j b le = ap (option_map (λ q. q + 1)) (none_closes x (suc n) (suc j) b (omega (arith, le)))
none_closes (L.Pop l ∷ x) zero j b le = absurd (grind (arith, b))
none_closes (L.Pop l ∷ x) (suc n) zero b le = absurd (omega (arith, le))
none_closes (L.Pop l ∷ x) (suc n) (suc j) b le = ap (option_map (λ q. q + 1)) (none_closes x n j b (omega (arith, le)))

-- a balanced level is balanced after each front, where some branches are open
after_front : (x y : List L.LevelSymbol) (n : ℕ) → level_balanced n (x ++ y) ≡ true → (k : ℕ) × (level_balanced k y ≡ true)
after_front [] y n b = (n, b)
after_front (L.Module l m ∷ x) y n b = after_front x y n b
after_front (L.Push l ∷ x) y n b = after_front x y (suc n) b
after_front (L.Pop l ∷ x) y zero b = absurd (grind (arith, b))
after_front (L.Pop l ∷ x) y (suc n) b = after_front x y n b

one_on : (g : ℕ) (o : Option ℕ) → option_map (λ q. g + q) (option_map (λ q. q + 1) o) ≡ option_map (λ q. g + 1 + q) o
one_on g None = refl
one_on g (Some q) = let e : g + (q + 1) ≡ g + 1 + q = omega arith in ap (λ q. Some q) e

map_zero : (o : Option ℕ) → o ≡ option_map (λ q. 0 + q) o
map_zero None = refl
map_zero (Some q) = let e : q ≡ 0 + q = omega arith in ap (λ q. Some q) e

-- 2. the walk

around_size : (xs : List ℕ) (x : ℕ) (ys : List ℕ) → length (xs ++ x ∷ ys) ≡ length xs + 1 + length ys
around_size [] x ys = omega arith
around_size (z ∷ xs) x ys = omega (arith, around_size xs x ys)

mirror_size : (xs : List ℕ) → length (mirrored xs) ≡ length xs
mirror_size [] = refl
mirror_size (x ∷ xs) = omega (arith, length_push (mirrored xs) x, mirror_size xs)

-- what the walk goes along, and what lies the other way
abbrev walked : Way → List ℕ → List ℕ → List ℕ
walked Right before after = after
walked Left before after = mirrored before

abbrev other_side : Way → List ℕ → List ℕ → List ℕ
other_side Right before after = before
other_side Left before after = mirrored after

pub that_way : (way : Way) (level before after : List ℕ) (node : ℕ) → level ≡ before ++ node ∷ after → oriented way level ≡ other_side way before after ++ node ∷ walked way before after
that_way Right level before after node whole = whole
that_way Left level before after node whole = ap mirrored whole ∙ mirrored_around before node after

split_first : (xs : List ℕ) (x : ℕ) → first_in xs ≡ Some x → (rest : List ℕ) × (xs ≡ x ∷ rest)
split_first [] x e = absurd (none-some x e)
split_first (y ∷ xs) x e = (xs, ap (λ z. z ∷ xs) (same_Some y x e))

none_first : (xs : List ℕ) → first_in xs ≡ None → xs ≡ []
none_first [] e = refl
none_first (x ∷ xs) e = absurd (none-some x (sym e))

still_few : (way : Way) (kind : NodeKind) (inside still : ℕ) → nested way kind inside ≡ Some still → still ≤ inside + 1
still_few Right kinds.Push inside still e = let f = same_Some (suc inside) still e in omega (arith, f)
still_few Right kinds.Pop zero still e = absurd (none-some still e)
still_few Right kinds.Pop (suc inside) still e = let f = same_Some inside still e in omega (arith, f)
still_few Right (kinds.Module name) inside still e = let f = same_Some inside still e in omega (arith, f)
still_few Left kinds.Push zero still e = absurd (none-some still e)
still_few Left kinds.Push (suc inside) still e = let f = same_Some inside still e in omega (arith, f)
still_few Left kinds.Pop inside still e = let f = same_Some (suc inside) still e in omega (arith, f)
still_few Left (kinds.Module name) inside still e = let f = same_Some inside still e in omega (arith, f)

drop_front : (x : List L.LevelSymbol) (s : L.LevelSymbol) (y : List L.LevelSymbol) → drop (length x + 1) (x ++ s ∷ y) ≡ y
drop_front [] s y = refl
drop_front (z ∷ x) s y = let e : length (z ∷ x) + 1 ≡ suc (length x + 1) = omega arith in ap (λ k. drop k (z ∷ x ++ s ∷ y)) e ∙ drop_front x s y

get_front : (x : List L.LevelSymbol) (s : L.LevelSymbol) (y : List L.LevelSymbol) → slice_get (x ++ s ∷ y) (length x) ≡ Some s
get_front [] s y = refl
get_front (z ∷ x) s y = get_front x s y

left_right : Left ≡ Right → ⊥
left_right e = cc

some_none : (o : Option ℕ) → IsSome o → o ≡ None → ⊥
some_none o some none = grind (arith, some, none)

way_size : (way : Way) (xs : List ℕ) → length (oriented way xs) ≡ length xs
way_size Right xs = refl
way_size Left xs = mirror_size xs

turned_kind : (way : Way) (kind : NodeKind) (params : List ℤ) (n : ℕ) → open_after way (seen_as kind params) n ≡ nested way kind n
turned_kind Right kinds.Push params n = refl
turned_kind Right kinds.Pop params n = refl
turned_kind Right (kinds.Module name) params n = refl
turned_kind Left kinds.Push params n = refl
turned_kind Left kinds.Pop params n = refl
turned_kind Left (kinds.Module name) params n = refl

module _ {A : Type 0} where
  seen_append : (naming : ℕ → List ℕ) (m : Nodes A) (xs ys : List ℕ) → seen_level naming m (xs ++ ys) ≡ seen_level naming m xs ++ seen_level naming m ys
  seen_append naming m [] ys = refl
  seen_append naming m (x ∷ xs) ys = ap (λ (l : List L.LevelSymbol). named naming (spot_in x (m x)) ∷ l) (seen_append naming m xs ys)

  seen_size : (naming : ℕ → List ℕ) (m : Nodes A) (xs : List ℕ) → length (seen_level naming m xs) ≡ length xs
  seen_size naming m [] = refl
  seen_size naming m (x ∷ xs) = ap suc (seen_size naming m xs)

  -- the symbol of a node, by what it is
  head_is : (naming : ℕ → List ℕ) (m : Nodes A) (q : ℕ) (n : Node A) (seen : Seen) → m q ≡ Some n → n.seen ≡ seen → named naming (spot_in q (m q)) ≡ with_lineage (naming q) seen
  head_is naming m q n seen is e = ap (λ (o : Option (Node A)). named naming (spot_in q o)) is ∙ ap (with_lineage (naming q)) e

  -- the brackets that were counted
  abbrev Counts : Way → Nodes A → List ℕ → ℕ → ℕ → List ℕ → List ℕ → Type 0
  Counts Right m after node inside between ahead = (naming : ℕ → List ℕ) → close_of 0 (seen_level naming m after) ≡ option_map (λ q. length between + q) (close_of inside (seen_level naming m ahead))
  Counts Left m after node inside between ahead = (naming : ℕ → List ℕ) → close_of inside (seen_level naming m (mirrored between ++ node ∷ after)) ≡ Some (length between)

  -- what the walk to the mate keeps true
  pub record IsWalk (way : Way) (m : Nodes A) (level : List ℕ) (node inside : ℕ) (at : Option ℕ) : Type 0 where
    pub before : List ℕ
    pub after : List ℕ
    pub between : List ℕ
    pub ahead : List ℕ
    pub whole : level ≡ before ++ node ∷ after
    pub path : walked way before after ≡ between ++ ahead
    pub at_is : at ≡ first_in ahead
    pub few : inside ≤ length between
    pub count : Counts way m after node inside between ahead

  pub walk_start : (way : Way) (m : Nodes A) (level before after : List ℕ) (node : ℕ) (at : Option ℕ) → level ≡ before ++ node ∷ after → IsBracketThat way (m node) → at ≡ first_in (walked way before after) → IsWalk way m level node 0 at
  walk_start Right m level before after node at whole bracket is = record { before = before; after = after; between = []; ahead = after; whole = whole; path = refl; at_is = is; few = omega arith; count = λ naming. map_zero (close_of 0 (seen_level naming m after)) }
  walk_start Left m level before after node at whole bracket is = record { before = before; after = after; between = []; ahead = mirrored before; whole = whole; path = refl; at_is = is; few = omega arith; count = λ naming. go (m node) refl bracket naming }
    where
      go : (o : Option (Node A)) → m node ≡ o → IsBracketThat Left o → (naming : ℕ → List ℕ) → close_of 0 (seen_level naming m (node ∷ after)) ≡ Some 0
      go None e b naming = absurd b
      go (Some n) e b naming = ap (λ (s : L.LevelSymbol). close_of 0 (s ∷ seen_level naming m after)) (head_is naming m node n Pop e b)

  -- the node to which the walk came
  pub record IsMet (way : Way) (m : Nodes A) (level : List ℕ) (node inside q : ℕ) : Type 0 where
    pub before : List ℕ
    pub after : List ℕ
    pub between : List ℕ
    pub ahead : List ℕ
    pub whole : level ≡ before ++ node ∷ after
    pub path : walked way before after ≡ between ++ q ∷ ahead
    pub few : inside ≤ length between
    pub count : Counts way m after node inside between (q ∷ ahead)
    pub here : oriented way level ≡ (other_side way before after ++ node ∷ between) ++ q ∷ ahead

  pub met : (way : Way) (m : Nodes A) (level : List ℕ) (node inside q : ℕ) (at : Option ℕ) → IsWalk way m level node inside at → at ≡ Some q → IsMet way m level node inside q
  met way m level node inside q at w e =
      let s = split_first w.ahead q (sym w.at_is ∙ e) in
      let path = w.path ∙ ap (λ (l : List ℕ). w.between ++ l) s.1 in
      record {
        before = w.before;
        after = w.after;
        between = w.between;
        ahead = s.0;
        whole = w.whole;
        path = path;
        few = w.few;
        count = subst (Counts way m w.after node inside w.between) s.1 w.count;
        here = that_way way level w.before w.after node w.whole ∙ ap (λ (l : List ℕ). other_side way w.before w.after ++ node ∷ l) path ∙ sym (append_assoc (other_side way w.before w.after) (node ∷ w.between) (q ∷ s.0));
      }

  -- one symbol more was counted
  counted : (way : Way) (m : Nodes A) (after : List ℕ) (node inside still : ℕ) (between : List ℕ) (q : ℕ) (ahead : List ℕ) (n : Node A) (kind : NodeKind) (params : List ℤ) → m q ≡ Some n → n.seen ≡ seen_as kind params → nested way kind inside ≡ Some still → Counts way m after node inside between (q ∷ ahead) → Counts way m after node still (between ++ q ∷ []) ahead
  counted Right m after node inside still between q ahead n kinds.Push params is seen e count = λ naming.
      let long : length between + 1 ≡ length (between ++ q ∷ []) = sym (length_push between q) in
      count naming
      ∙ ap (λ (s : L.LevelSymbol). option_map (λ i. length between + i) (close_of inside (s ∷ seen_level naming m ahead))) (head_is naming m q n Push is seen)
      ∙ one_on (length between) (close_of (suc inside) (seen_level naming m ahead))
      ∙ ap (λ k. option_map (λ i. length between + 1 + i) (close_of k (seen_level naming m ahead))) (same_Some (suc inside) still e)
      ∙ ap (λ k. option_map (λ i. k + i) (close_of still (seen_level naming m ahead))) long
  counted Right m after node zero still between q ahead n kinds.Pop params is seen e count = absurd (none-some still e)
  counted Right m after node (suc inside) still between q ahead n kinds.Pop params is seen e count = λ naming.
      let long : length between + 1 ≡ length (between ++ q ∷ []) = sym (length_push between q) in
      count naming
      ∙ ap (λ (s : L.LevelSymbol). option_map (λ i. length between + i) (close_of (suc inside) (s ∷ seen_level naming m ahead))) (head_is naming m q n Pop is seen)
      ∙ one_on (length between) (close_of inside (seen_level naming m ahead))
      ∙ ap (λ k. option_map (λ i. length between + 1 + i) (close_of k (seen_level naming m ahead))) (same_Some inside still e)
      ∙ ap (λ k. option_map (λ i. k + i) (close_of still (seen_level naming m ahead))) long
  counted Right m after node inside still between q ahead n (kinds.Module name) params is seen e count = λ naming.
      let long : length between + 1 ≡ length (between ++ q ∷ []) = sym (length_push between q) in
      count naming
      ∙ ap (λ (s : L.LevelSymbol). option_map (λ i. length between + i) (close_of inside (s ∷ seen_level naming m ahead))) (head_is naming m q n (seen_as (kinds.Module name) params) is seen)
      ∙ one_on (length between) (close_of inside (seen_level naming m ahead))
      ∙ ap (λ k. option_map (λ i. length between + 1 + i) (close_of k (seen_level naming m ahead))) (same_Some inside still e)
      ∙ ap (λ k. option_map (λ i. k + i) (close_of still (seen_level naming m ahead))) long
  counted Left m after node inside still between q ahead n kinds.Pop params is seen e count = λ naming.
      let long : length between + 1 ≡ length (between ++ q ∷ []) = sym (length_push between q) in
      ap (λ (l : List ℕ). close_of still (seen_level naming m (l ++ node ∷ after))) (mirrored_push between q)
      ∙ ap (λ (s : L.LevelSymbol). close_of still (s ∷ seen_level naming m (mirrored between ++ node ∷ after))) (head_is naming m q n Pop is seen)
      ∙ ap (λ k. close_of k (L.Pop (naming q) ∷ seen_level naming m (mirrored between ++ node ∷ after))) (sym (same_Some (suc inside) still e))
      ∙ ap (option_map (λ i. i + 1)) (count naming)
      ∙ ap Some long
  counted Left m after node zero still between q ahead n kinds.Push params is seen e count = absurd (none-some still e)
  counted Left m after node (suc inside) still between q ahead n kinds.Push params is seen e count = λ naming.
      let long : length between + 1 ≡ length (between ++ q ∷ []) = sym (length_push between q) in
      ap (λ (l : List ℕ). close_of still (seen_level naming m (l ++ node ∷ after))) (mirrored_push between q)
      ∙ ap (λ (s : L.LevelSymbol). close_of still (s ∷ seen_level naming m (mirrored between ++ node ∷ after))) (head_is naming m q n Push is seen)
      ∙ ap (λ k. close_of k (L.Push (naming q) ∷ seen_level naming m (mirrored between ++ node ∷ after))) (sym (same_Some inside still e))
      ∙ ap (option_map (λ i. i + 1)) (count naming)
      ∙ ap Some long
  counted Left m after node inside still between q ahead n (kinds.Module name) params is seen e count = λ naming.
      let long : length between + 1 ≡ length (between ++ q ∷ []) = sym (length_push between q) in
      ap (λ (l : List ℕ). close_of still (seen_level naming m (l ++ node ∷ after))) (mirrored_push between q)
      ∙ ap (λ (s : L.LevelSymbol). close_of still (s ∷ seen_level naming m (mirrored between ++ node ∷ after))) (head_is naming m q n (seen_as (kinds.Module name) params) is seen)
      ∙ ap (λ k. close_of k (with_lineage (naming q) (seen_as (kinds.Module name) params) ∷ seen_level naming m (mirrored between ++ node ∷ after))) (sym (same_Some inside still e))
      ∙ ap (option_map (λ i. i + 1)) (count naming)
      ∙ ap Some long

  pub walk_on : (way : Way) (m : Nodes A) (level : List ℕ) (node inside still q : ℕ) (next : Option ℕ) (n : Node A) (kind : NodeKind) (params : List ℤ) → m q ≡ Some n → n.seen ≡ seen_as kind params → nested way kind inside ≡ Some still → (w : IsMet way m level node inside q) → next ≡ first_in w.ahead → IsWalk way m level node still next
  walk_on way m level node inside still q next n kind params is seen e w at = record {
    before = w.before;
    after = w.after;
    between = w.between ++ q ∷ [];
    ahead = w.ahead;
    whole = w.whole;
    path = w.path ∙ sym (append_assoc w.between (q ∷ []) w.ahead);
    at_is = at;
    few = omega (arith, w.few, still_few way kind inside still e, length_push w.between q);
    count = counted way m w.after node inside still w.between q w.ahead n kind params is seen e w.count;
  }

  -- a bracket that begins a branch, and what closes it after
  mates_by : (naming : ℕ → List ℕ) (m : Nodes A) (level before after : List ℕ) (o : ℕ) (n : Node A) (gap : ℕ) (p q : ℕ) → level ≡ before ++ o ∷ after → m o ≡ Some n → n.seen ≡ Push → close_of 0 (seen_level naming m after) ≡ Some gap → p ≡ length before → q ≡ p + 1 + gap → AreMates (seen_level naming m level) p q
  mates_by naming m level before after o n gap p q whole is push closed pe qe =
      let x : seen_level naming m level ≡ seen_level naming m before ++ L.Push (naming o) ∷ seen_level naming m after =
      ap (seen_level naming m) whole ∙ seen_append naming m before (o ∷ after) ∙ ap (λ (s : L.LevelSymbol). seen_level naming m before ++ s ∷ seen_level naming m after) (head_is naming m o n Push is push) in
      let at : p ≡ length (seen_level naming m before) = pe ∙ sym (seen_size naming m before) in
      record {
        opens = (naming o, ap (λ (l : List L.LevelSymbol). slice_get l p) x ∙ ap (slice_get (seen_level naming m before ++ L.Push (naming o) ∷ seen_level naming m after)) at ∙ get_front (seen_level naming m before) (L.Push (naming o)) (seen_level naming m after));
        closes =
            ap (λ (l : List L.LevelSymbol). option_map (λ i. p + 1 + i) (close_of 0 l)) (ap (drop (p + 1)) x ∙ ap (λ k. drop (k + 1) (seen_level naming m before ++ L.Push (naming o) ∷ seen_level naming m after)) at ∙ drop_front (seen_level naming m before) (L.Push (naming o)) (seen_level naming m after))
            ∙ ap (option_map (λ i. p + 1 + i)) closed ∙ ap Some (sym qe);
      }

  pub walk_found : (way : Way) (m : Nodes A) (level : List ℕ) (node inside q : ℕ) (top n : Node A) (kind : NodeKind) (params : List ℤ) → AreApart level → m node ≡ Some top → IsBracketThat way (Some top) → m q ≡ Some n → n.seen ≡ seen_as kind params → nested way kind inside ≡ None → IsMet way m level node inside q → IsMateThat way m level node q
  walk_found Right m level node inside q top n kinds.Push params apart top_is bracket is seen e w = absurd (none-some (suc inside) (sym e))
  walk_found Right m level node (suc inside) q top n kinds.Pop params apart top_is bracket is seen e w = absurd (none-some inside (sym e))
  walk_found Right m level node inside q top n (kinds.Module name) params apart top_is bracket is seen e w = absurd (none-some inside (sym e))
  walk_found Right m level node zero q top n kinds.Pop params apart top_is bracket is seen e w =
      let again : level ≡ (w.before ++ node ∷ w.between) ++ q ∷ w.ahead = w.here in
      let p : index_in node level ≡ length w.before = ap (index_in node) w.whole ∙ index_of node w.before w.after (subst AreApart w.whole apart) in
      let r : index_in q level ≡ length (w.before ++ node ∷ w.between) = ap (index_in q) again ∙ index_of q (w.before ++ node ∷ w.between) w.ahead (subst AreApart again apart) in
      record {
        before = w.before ++ node ∷ w.between;
        after = w.ahead;
        whole = again;
        ends = λ same. (omega (arith, p, r, around_size w.before node w.between), λ naming. mates_by naming m level w.before w.after node top (length w.between + 0) (index_in node level) (index_in q level) w.whole top_is bracket (w.count naming ∙ ap (λ (s : L.LevelSymbol). option_map (λ i. length w.between + i) (close_of 0 (s ∷ seen_level naming m w.ahead))) (head_is naming m q n Pop is seen)) p (omega (arith, p, r, around_size w.before node w.between)));
        begins = λ same. absurd (left_right (sym same));
      }
  walk_found Left m level node inside q top n kinds.Pop params apart top_is bracket is seen e w = absurd (none-some (suc inside) (sym e))
  walk_found Left m level node (suc inside) q top n kinds.Push params apart top_is bracket is seen e w = absurd (none-some inside (sym e))
  walk_found Left m level node inside q top n (kinds.Module name) params apart top_is bracket is seen e w = absurd (none-some inside (sym e))
  walk_found Left m level node zero q top n kinds.Push params apart top_is bracket is seen e w =
      let front : w.before ≡ mirrored w.ahead ++ q ∷ mirrored w.between = sym (mirrored_twice w.before) ∙ ap mirrored w.path ∙ mirrored_around w.between q w.ahead in
      let again : level ≡ mirrored w.ahead ++ q ∷ (mirrored w.between ++ node ∷ w.after) = w.whole ∙ ap (λ (l : List ℕ). l ++ node ∷ w.after) front ∙ append_assoc (mirrored w.ahead) (q ∷ mirrored w.between) (node ∷ w.after) in
      let p : index_in node level ≡ length w.before = ap (index_in node) w.whole ∙ index_of node w.before w.after (subst AreApart w.whole apart) in
      let r : index_in q level ≡ length (mirrored w.ahead) = ap (index_in q) again ∙ index_of q (mirrored w.ahead) (mirrored w.between ++ node ∷ w.after) (subst AreApart again apart) in
      let size = ap length front in
      record {
        before = mirrored w.ahead;
        after = mirrored w.between ++ node ∷ w.after;
        whole = again;
        ends = λ same. absurd (left_right same);
        begins = λ same. (omega (arith, p, r, size, around_size (mirrored w.ahead) q (mirrored w.between)), λ naming. mates_by naming m level (mirrored w.ahead) (mirrored w.between ++ node ∷ w.after) q n (length w.between) (index_in q level) (index_in node level) again is seen (w.count naming) r (omega (arith, p, r, size, around_size (mirrored w.ahead) q (mirrored w.between), mirror_size w.between)));
      }

  -- on a balanced level the walk comes to the mate
  pub walk_ends : (way : Way) (m : Nodes A) (level : List ℕ) (node inside : ℕ) (top : Node A) → level_balanced 0 (seen_level (λ tag. []) m level) ≡ true → m node ≡ Some top → IsBracketThat way (Some top) → IsWalk way m level node inside None → ⊥
  walk_ends Right m level node inside top balanced is bracket w =
      let none = none_first w.ahead (sym w.at_is) in
      let x : seen_level (λ tag. []) m level ≡ seen_level (λ tag. []) m w.before ++ L.Push [] ∷ seen_level (λ tag. []) m w.after =
      ap (seen_level (λ tag. []) m) w.whole ∙ seen_append (λ tag. []) m w.before (node ∷ w.after) ∙ ap (λ (s : L.LevelSymbol). seen_level (λ tag. []) m w.before ++ s ∷ seen_level (λ tag. []) m w.after) (head_is (λ tag. []) m node top Push is bracket) in
      let b = after_front (seen_level (λ tag. []) m w.before) (L.Push [] ∷ seen_level (λ tag. []) m w.after) 0 (sym (ap (level_balanced 0) x) ∙ balanced) in
      let some = closes (seen_level (λ tag. []) m w.after) (suc b.0) 0 b.1 (omega arith) in
      some_none (close_of 0 (seen_level (λ tag. []) m w.after)) some (w.count (λ tag. []) ∙ ap (λ (l : List ℕ). option_map (λ i. length w.between + i) (close_of inside (seen_level (λ tag. []) m l))) none)
  walk_ends Left m level node inside top balanced is bracket w =
      let none = none_first w.ahead (sym w.at_is) in
      let front : w.before ≡ mirrored w.between = sym (mirrored_twice w.before) ∙ ap mirrored (w.path ∙ ap (λ (l : List ℕ). w.between ++ l) none ∙ append-nil w.between) in
      let whole : level ≡ mirrored w.between ++ node ∷ w.after = w.whole ∙ ap (λ (l : List ℕ). l ++ node ∷ w.after) front in
      let gone = none_closes (seen_level (λ tag. []) m level) 0 inside balanced (omega arith) in
      none-some (length w.between) (sym gone ∙ ap (λ (l : List ℕ). close_of inside (seen_level (λ tag. []) m l)) whole ∙ w.count (λ tag. []))

  pub met_among : (way : Way) (m : Nodes A) (level : List ℕ) (node inside q : ℕ) → IsMet way m level node inside q → In q level
  met_among way m level node inside q w = oriented_In_back way q level (subst (In q) (sym w.here) (In_right q (other_side way w.before w.after ++ node ∷ w.between) (q ∷ w.ahead) (inl refl)))

  pub met_size : (way : Way) (m : Nodes A) (level : List ℕ) (node inside q : ℕ) → (w : IsMet way m level node inside q) → length w.between + 2 ≤ length level
  met_size way m level node inside q w =
      let size = ap length w.here in
      omega (arith, size, way_size way level, around_size (other_side way w.before w.after ++ node ∷ w.between) q w.ahead, around_size (other_side way w.before w.after) node w.between)

  -- 3. the walk as a whole

  walk_started : (way : Way) (m : Nodes A) (level before after : List ℕ) (node : ℕ) (at : Option ℕ) (whole : level ≡ before ++ node ∷ after) (bracket : IsBracketThat way (m node)) (is : at ≡ first_in (walked way before after)) → (walk_start way m level before after node at whole bracket is).ahead ≡ walked way before after
  unfolding walk_start
  walk_started Right m level before after node at whole bracket is = refl
  walk_started Left m level before after node at whole bracket is = refl

  walk_past : (way : Way) (m : Nodes A) (level : List ℕ) (node inside still q : ℕ) (at : Option ℕ) (n : Node A) (kind : NodeKind) (params : List ℤ) (rest : List ℕ) → m q ≡ Some n → n.seen ≡ seen_as kind params → nested way kind inside ≡ Some still → (w : IsWalk way m level node inside at) → w.ahead ≡ q ∷ rest → (x : IsWalk way m level node still (first_in rest)) × (x.ahead ≡ rest)
  walk_past way m level node inside still q at n kind params rest is seen e w here = (
    record {
      before = w.before;
      after = w.after;
      between = w.between ++ q ∷ [];
      ahead = rest;
      whole = w.whole;
      path = w.path ∙ ap (λ (l : List ℕ). w.between ++ l) here ∙ sym (append_assoc w.between (q ∷ []) rest);
      at_is = refl;
      few = omega (arith, w.few, still_few way kind inside still e, length_push w.between q);
      count = counted way m w.after node inside still w.between q rest n kind params is seen e (subst (Counts way m w.after node inside w.between) here w.count);
    },
    refl,
  )

  -- a node that lives, of some kind
  pub record IsOfKind (m : Nodes A) (q : ℕ) : Type 0 where
    pub node : Node A
    pub is : m q ≡ Some node
    pub kind : NodeKind
    pub params : List ℤ
    pub seen : node.seen ≡ seen_as kind params

  walk_whole : (way : Way) (m : Nodes A) (level : List ℕ) (node : ℕ) (top : Node A) → AreApart level → m node ≡ Some top → IsBracketThat way (Some top) → level_balanced 0 (seen_level (λ tag. []) m level) ≡ true → ((q : ℕ) → In q level → IsOfKind m q) → (rest : List ℕ) (inside : ℕ) (at : Option ℕ) (w : IsWalk way m level node inside at) → w.ahead ≡ rest → (q : ℕ) × (branch_end way (seen_at m) inside rest ≡ Some q) × IsMateThat way m level node q
  walk_whole way m level node top apart is bracket balanced kind [] inside at w e = absurd (walk_ends way m level node inside top balanced is bracket (subst (IsWalk way m level node inside) (w.at_is ∙ ap first_in e) w))
  walk_whole way m level node top apart is bracket balanced kind (q ∷ rest) inside at w e =
      let there = met way m level node inside q at w (w.at_is ∙ ap first_in e) in
      let here = kind q (met_among way m level node inside q there) in
      let turns : open_after way (seen_at m q) inside ≡ nested way here.kind inside = ap (λ (o : Option (Node A)). open_after way (spot_in q o).seen inside) here.is ∙ ap (λ s. open_after way s inside) here.seen ∙ turned_kind way here.kind here.params inside in
      go there here turns (nested way here.kind inside) refl (λ still y same. walk_whole way m level node top apart is bracket balanced kind rest still (first_in rest) y same)
    where
      go : (there : IsMet way m level node inside q) (here : IsOfKind m q) → open_after way (seen_at m q) inside ≡ nested way here.kind inside → (o : Option ℕ) → nested way here.kind inside ≡ o → ((still : ℕ) (y : IsWalk way m level node still (first_in rest)) → y.ahead ≡ rest → (r : ℕ) × (branch_end way (seen_at m) still rest ≡ Some r) × IsMateThat way m level node r) → (r : ℕ) × (branch_end way (seen_at m) inside (q ∷ rest) ≡ Some r) × IsMateThat way m level node r
      go there here turns None f on = (q, ap (λ o. ends_or o q (λ k. branch_end way (seen_at m) k rest)) (turns ∙ f), walk_found way m level node inside q top here.node here.kind here.params apart is bracket here.is here.seen f there)
      go there here turns (Some still) f on =
          let y = walk_past way m level node inside still q at here.node here.kind here.params rest here.is here.seen f w e in
          let r = on still y.0 y.1 in
          (r.0, ap (λ o. ends_or o q (λ k. branch_end way (seen_at m) k rest)) (turns ∙ f) ∙ r.1, r.2)

  -- on a level with mates, what stands at a bracket is its mate
  pub mate_stands : (way : Way) (m : Nodes A) (level : List ℕ) (footings : List Footing) (node : ℕ) (top : Node A) → AreApart level → In node level → m node ≡ Some top → IsBracketThat way (Some top) → level_balanced 0 (seen_level (λ tag. []) m level) ≡ true → ((q : ℕ) → In q level → IsOfKind m q) → AreMatedIn (seen_at m) level footings → (q : ℕ) × (footing_mate footings node ≡ Some q) × IsMateThat way m level node q
  mate_stands way m level footings node top apart among is bracket balanced kind mated =
      let s = In_split node level among in
      let b = subst (IsBracketThat way) (sym is) bracket in
      let w = walk_start way m level s.0 s.1 node (first_in (walked way s.0 s.1)) s.2 b refl in
      let r = walk_whole way m level node top apart is bracket balanced kind (walked way s.0 s.1) 0 (first_in (walked way s.0 s.1)) w (walk_started way m level s.0 s.1 node (first_in (walked way s.0 s.1)) s.2 b refl) in
      (r.0, mated node r.0 way (other_side way s.0 s.1) (walked way s.0 s.1) (that_way way level s.0 s.1 node s.2) (opens way bracket) r.1, r.2)
    where
      opens : (way : Way) → IsBracketThat way (Some top) → seen_at m node ≡ branch_opening way
      opens Right b = ap (λ (o : Option (Node A)). (spot_in node o).seen) is ∙ b
      opens Left b = ap (λ (o : Option (Node A)). (spot_in node o).seen) is ∙ b
