-- Nodes below a level that were not looked at have the neighbours and the mates that they had.
use Rattle.std.proofs.Common.{◌≡◌, ◌⊎◌, ℕ, true, List, [], ◌∷◌, ◌++◌, append-nil, slice_get, Some, refl, sym, ap, ◌∙◌, subst, arith, inl, inr}
use Rattle.std.proofs.lemmas.Option.{same_Some}
use Rattle.lsys_spec.specs.Rows.{In, first_in, last_in, flat, AreApart}
use Rattle.lsys_level.specs.Spots.{Seen, Push, Pop, Module, IsBracket, with_lineage}
use Rattle.lsys_laws.specs.Kinds.{BracketKind, Opens, Closes, Neither, kind_of_symbol}
use Rattle.lsys_laws.specs.Seams.{right_of, left_of, AreTurned}
use Rattle.lsys_laws.specs.Mates.{balancing, AgreeOn, AreBalanced, AreOwn, AreMatesAmong, Generation, AreMatesOn, IsGeneration}
use Rattle.lsys_laws.proofs.Joints as J
use Rattle.lsys_laws.proofs.Mirrors.{right_neighbour, left_neighbour}
use Rattle.lsys_forest.specs.Nodes.{Nodes}
use Rattle.lsys_forest.specs.Groves.{Grove, now_of}
use Rattle.lsys_forest.specs.Rows.{index_in, spot_in, kids_in, kids_below, level_nodes, level_with}
use Rattle.lsys_forest.proofs.RowLemmas.{flat_append}
use Rattle.lsys_reads.specs.Neighbours.{neighbours_on, neighbours_in, mate_on}
use Rattle.lsys_reads.specs.Branches.{IsSameParent, AreLookedMates}
use Rattle.lsys_reads.specs.Looks.{LooksAround, LooksBeyond, AreLooked, AreLookedSeats, kids_of_level, kind_in}
use Rattle.lsys_reads.proofs.LevelLemmas.{place_in, get_index, index_less, named_by_number}
use Rattle.lsys_reads.proofs.BranchLemmas.{ended, opener_there, closer_there}
use Rattle.lsys_reads.proofs.LookedLemmas.{opener_has, open_mate, close_mate, closer_has, seat_looked}
use Rattle.lsys_front.specs.Generations.{is_parent, left_generation}
use Rattle.lsys_front.specs.Below.{kids_at, KeepsFamily, AreLookedBelow}
use Rattle.lsys_front.proofs.LeftLemmas.{nodes_are, next_is, mates_are, opener_has_child, in_flat, is_generation}

-- 1. rows

last_after : (xs : List ℕ) (y : ℕ) (ys : List ℕ) → last_in (xs ++ y ∷ ys) ≡ last_in (y ∷ ys)
last_after [] y ys = refl
last_after (x ∷ []) y ys = refl
last_after (x ∷ z ∷ xs) y ys = last_after (z ∷ xs) y ys

last_there : (xs : List ℕ) (k : ℕ) → last_in xs ≡ Some k → In k xs
last_there [] k e = cc
last_there (x ∷ []) k e = inl (sym (same_Some x k e))
last_there (x ∷ y ∷ xs) k e = inr (last_there (y ∷ xs) k e)

-- the last of two rows is in the second, or it is the last of the first
last_either : (xs ys : List ℕ) (k : ℕ) → last_in (xs ++ ys) ≡ Some k → In k ys ⊎ (last_in xs ≡ Some k)
last_either xs [] k e = inr (ap last_in (sym (append-nil xs)) ∙ e)
last_either xs (y ∷ ys) k e = inl (last_there (y ∷ ys) k (sym (last_after xs y ys) ∙ e))

first_either : (xs ys : List ℕ) (k : ℕ) → first_in (xs ++ ys) ≡ Some k → In k xs ⊎ (first_in ys ≡ Some k)
first_either [] ys k e = inr e
first_either (x ∷ xs) ys k e = inl (inl (sym (same_Some x k e)))

-- 2. kinds

-- who has the same children, of the same kinds, is of the same kind
same_kind : (kind kind' : ℕ → BracketKind) (ks : List ℕ) (a b : BracketKind) → AreOwn kind a ks → AreOwn kind' b ks → AgreeOn kind kind' ks → is_parent ks ≡ true → b ≡ a
same_kind kind kind' ks Neither Neither w v h p = refl
same_kind kind kind' ks Opens Opens w v h p = refl
same_kind kind kind' ks Closes Closes w v h p = refl
same_kind kind kind' ks Opens Closes w v h p =
    let one : w.0 ∷ [] ≡ v.0 ∷ [] = sym w.1 ∙ v.1 in
    let same : w.0 ≡ v.0 = cc in
    let f : Closes ≡ Opens = sym v.2 ∙ ap kind' (sym same) ∙ h w.0 (subst (In w.0) (sym w.1) (inl refl)) ∙ w.2 in
    cc
same_kind kind kind' ks Closes Opens w v h p =
    let one : w.0 ∷ [] ≡ v.0 ∷ [] = sym w.1 ∙ v.1 in
    let same : w.0 ≡ v.0 = cc in
    let f : Opens ≡ Closes = sym v.2 ∙ ap kind' (sym same) ∙ h w.0 (subst (In w.0) (sym w.1) (inl refl)) ∙ w.2 in
    cc
same_kind kind kind' ks Neither Opens w v h p =
    let o : kind v.0 ≡ Opens = sym (h v.0 (subst (In v.0) (sym v.1) (inl refl))) ∙ v.2 in
    let b : AreBalanced kind 0 (v.0 ∷ []) = subst (AreBalanced kind 0) v.1 w in
    let z : 1 ≡ 0 = subst (λ k. balancing k 0 (λ m. AreBalanced kind m [])) o b in
    absurd (omega (arith, z))
same_kind kind kind' ks Neither Closes w v h p =
    let o : kind v.0 ≡ Closes = sym (h v.0 (subst (In v.0) (sym v.1) (inl refl))) ∙ v.2 in
    let b : AreBalanced kind 0 (v.0 ∷ []) = subst (AreBalanced kind 0) v.1 w in
    absurd (subst (λ k. balancing k 0 (λ m. AreBalanced kind m [])) o b)
same_kind kind kind' ks Opens Neither w v h p =
    let o : kind' w.0 ≡ Opens = h w.0 (subst (In w.0) (sym w.1) (inl refl)) ∙ w.2 in
    let b : AreBalanced kind' 0 (w.0 ∷ []) = subst (AreBalanced kind' 0) w.1 v in
    let z : 1 ≡ 0 = subst (λ k. balancing k 0 (λ m. AreBalanced kind' m [])) o b in
    absurd (omega (arith, z))
same_kind kind kind' ks Closes Neither w v h p =
    let o : kind' w.0 ≡ Closes = h w.0 (subst (In w.0) (sym w.1) (inl refl)) ∙ w.2 in
    let b : AreBalanced kind' 0 (w.0 ∷ []) = subst (AreBalanced kind' 0) w.1 v in
    absurd (subst (λ k. balancing k 0 (λ m. AreBalanced kind' m [])) o b)

bracket_seen : (l : List ℕ) (e : Seen) → (kind_of_symbol (with_lineage l e) ≡ Neither → ⊥) → IsBracket e
bracket_seen l Push h = tt
bracket_seen l Pop h = tt
bracket_seen l (Module v) h = absurd (h refl)

module _ {A : Type 0} (o : Nodes A) (f : Grove A) (t : ℕ) (touched turned looked : List ℕ) (l : AreLookedBelow o f t touched turned looked) where
  abbrev n : Nodes A
  n = now_of f

  abbrev was : List ℕ
  was = level_nodes o f.root t

  abbrev is : List ℕ
  is = level_nodes (now_of f) f.root t

  abbrev old : Generation
  old = left_generation (kind_in o) (kids_at o) (level_nodes o f.root t)

  abbrev new : Generation
  new = left_generation (kind_in (now_of f)) (kids_at (now_of f)) (level_nodes (now_of f) f.root t)

  was_generation : IsGeneration old
  was_generation = is_generation (kind_in o) (kids_at o) was l.were.left

  new_generation : IsGeneration new
  new_generation = is_generation (kind_in n) (kids_at n) is l.are.left

  on_level : (q : ℕ) → In q new.nodes → In q is × (is_parent (kids_at n q) ≡ true)
  on_level q i = (nodes_are (kids_at n) is q).0 i

  -- 3. who was touched was looked around

  beyond_touched : (q : ℕ) → In q touched → LooksBeyond f q looked
  beyond_touched q h = record { up_to = up_to; from = from }
    where
      a : LooksAround f q looked
      a = l.around q h

      level : level_with f q ≡ is
      level = ap (λ u. level_nodes (now_of f) f.root u) (l.touched_level q h)

      apart : AreApart (level_with f q)
      apart = subst AreApart (sym level) l.are.left.apart

      up_to : (k : ℕ) (left right : List ℕ) → level_with f q ≡ left ++ q ∷ right → last_in (kids_below (now_of f) (left ++ q ∷ [])) ≡ Some k → In k looked
      up_to k left right e last =
          let row : kids_below (now_of f) (left ++ q ∷ []) ≡ kids_below (now_of f) left ++ kids_in (now_of f q) = flat_append (λ k. kids_in (now_of f k)) left (q ∷ []) ∙ ap (λ ks. kids_below (now_of f) left ++ ks) (append-nil (kids_in (now_of f q))) in
          elim (last_either (kids_below (now_of f) left) (kids_in (now_of f q)) k (ap last_in (sym row) ∙ last)) [
            | inl i ↦ a.children k i
            | inr e' ↦ a.before k left right apart e e'
          ]

      from : (k : ℕ) (left right : List ℕ) → level_with f q ≡ left ++ q ∷ right → first_in (kids_below (now_of f) (q ∷ right)) ≡ Some k → In k looked
      from k left right e first = elim (first_either (kids_in (now_of f q)) (kids_below (now_of f) right) k first) [
        | inl i ↦ a.children k i
        | inr e' ↦ a.after k left right apart e e'
      ]

  both : (q : ℕ) → In q (turned ++ touched) → In q turned ⊎ In q touched
  both q h = J.in_either q turned touched h

  is_turned : (q : ℕ) → In q turned → In q (turned ++ touched)
  is_turned q h = J.in_front q turned touched h

  is_touched : (q : ℕ) → In q touched → In q (turned ++ touched)
  is_touched q h = J.in_back q turned touched h

  kids_looked : (q k : ℕ) → In q touched → In k (kids_at n q) → In k looked
  kids_looked q k h i = (l.around q h).children k i

  -- 4. seats of the level

  record IsPlaced (q : ℕ) : Type 0 where
    pub before : ℕ
    pub place : ℕ
    pub was_there : slice_get was before ≡ Some q
    pub is_there : slice_get is place ≡ Some q
    pub same : neighbours_on n is place ≡ neighbours_on o was before

  placed : (q : ℕ) → In q is → In q turned ⊎ IsPlaced q
  placed q i = elim (l.old q i) [
    | inl h ↦ inl h
    | inr j ↦
        let p = place_in q was j in
        let r = place_in q is i in
        elim (l.seats p.0 r.0 q p.1 r.1) [
          | inl h ↦ inl h
          | inr e ↦ inr (record { before = p.0; place = r.0; was_there = p.1; is_there = r.1; same = e })
        ]
  ]

  right_turned : AreTurned right_of (turned ++ touched) was is
  right_turned q i = elim (placed q i) [
    | inl h ↦ inl (is_turned q h)
    | inr p ↦ inr (right_neighbour was p.before q l.were.left.apart p.was_there ∙ sym (ap (λ x. x.right) p.same) ∙ sym (right_neighbour is p.place q l.are.left.apart p.is_there))
  ]

  left_turned : AreTurned left_of (turned ++ touched) was is
  left_turned q i = elim (placed q i) [
    | inl h ↦ inl (is_turned q h)
    | inr p ↦ inr (left_neighbour was p.before q l.were.left.apart p.was_there ∙ sym (ap (λ x. x.left) p.same) ∙ sym (left_neighbour is p.place q l.are.left.apart p.is_there))
  ]

  -- 5. families

  same_parent : (q : ℕ) → In q new.nodes → KeepsFamily o n f.root t q → IsSameParent old new q
  same_parent q i k =
      let p = on_level q i in
      let was_parent : is_parent (kids_at o q) ≡ true = ap is_parent (sym k.list) ∙ p.1 in
      let there : In q old.nodes = (nodes_are (kids_at o) was q).1 (k.there, was_parent) in
      record {
        there = there;
        kind = same_kind (kind_in o) (kind_in n) (kids_at o q) (kind_in o q) (kind_in n q) (was_generation.own_kinds q there) (subst (AreOwn (kind_in n) (kind_in n q)) k.list (new_generation.own_kinds q i)) k.kinds was_parent;
        own = k.list;
        kinds = k.kinds;
      }

  changed : (q : ℕ) → In q new.nodes → In q touched ⊎ IsSameParent old new q
  changed q i = elim (l.families q (on_level q i).0) [
    | inl h ↦ inl h
    | inr k ↦ inr (same_parent q i k)
  ]

  -- 6. mates

  mate_was : (q r : ℕ) → AreMatesOn old q r → AreMatesAmong (kind_in o) was q r
  mate_was q r m = ((mates_are (kind_in o) (kids_at o) was l.were.left q r).0 m).0

  mate_is : (q r : ℕ) → AreMatesOn new q r → AreMatesAmong (kind_in n) is q r
  mate_is q r m = ((mates_are (kind_in n) (kids_at n) is l.are.left q r).0 m).0

  as_new : (q r : ℕ) → AreMatesAmong (kind_in n) is q r → is_parent (kids_at n q) ≡ true → AreMatesOn new q r
  as_new q r m p = (mates_are (kind_in n) (kids_at n) is l.are.left q r).1 (m, p)

  opens_by : (q r : ℕ) → AreMatesOn old q r → In q new.nodes → IsSameParent old new q → IsPlaced q → AreMatesOn new q r
  opens_by q r m i same p =
      let j = opener_has (kind_in n) is q l.are.left.balanced (on_level q i).0 (same.kind ∙ m.opens) in
      let e : j.0 ≡ r =
      same_Some j.0 r (sym (open_mate n is q j.0 p.place l.are.level j.1 p.is_there) ∙ ap (λ x. x.mate) p.same ∙ open_mate o was q r p.before l.were.level (mate_was q r m) p.was_there) in
      as_new q r (subst (AreMatesAmong (kind_in n) is q) e j.1) (on_level q i).1

  opens : (q r : ℕ) → AreMatesOn old q r → In q new.nodes → In q (turned ++ touched) ⊎ AreMatesOn new q r
  opens q r m i = elim (changed q i) [
    | inl h ↦ inl (is_touched q h)
    | inr same ↦ elim (placed q (on_level q i).0) [
      | inl h ↦ inl (is_turned q h)
      | inr p ↦ inr (opens_by q r m i same p)
    ]
  ]

  closes_by : (q r : ℕ) → AreMatesOn old q r → In r new.nodes → IsSameParent old new r → IsPlaced r → AreMatesOn new q r
  closes_by q r m i same p =
      let closes = (ended old.kind 0 m.after r m.closes).1 in
      let j = closer_has n is r p.place l.are.level l.are.left.balanced p.is_there (same.kind ∙ closes) in
      let e : j.0 ≡ q =
      same_Some j.0 q (sym (close_mate n is j.0 r p.place l.are.level j.1 p.is_there) ∙ ap (λ x. x.mate) p.same ∙ close_mate o was q r p.before l.were.level (mate_was q r m) p.was_there) in
      let among : AreMatesAmong (kind_in n) is q r = subst (λ q. AreMatesAmong (kind_in n) is q r) e j.1 in
      as_new q r among (opener_has_child (kind_in n) (kids_at n) is l.are.left q r among (on_level r i).1)

  closes : (q r : ℕ) → AreMatesOn old q r → In r new.nodes → In r (turned ++ touched) ⊎ AreMatesOn new q r
  closes q r m i = elim (changed r i) [
    | inl h ↦ inl (is_touched r h)
    | inr same ↦ elim (placed r (on_level r i).0) [
      | inl h ↦ inl (is_turned r h)
      | inr p ↦ inr (closes_by q r m i same p)
    ]
  ]

  -- the mate that a node tells on its level
  told_mate : (q r : ℕ) → In q touched → In q is → ((p : ℕ) → slice_get is p ≡ Some q → mate_on n is p ≡ Some r) → (neighbours_in f q).mate ≡ Some r
  told_mate q r h i m =
      let p = place_in q is i in
      let here = get_index q is (index_less q is p.0 p.1) in
      ap (λ u. mate_on n (level_nodes (now_of f) f.root u) (index_in q (level_nodes (now_of f) f.root u))) (l.touched_level q h) ∙ m (index_in q is) here

  mates_looked : (q r k : ℕ) → AreMatesOn new q r → In r touched → In k (kids_at n q) → In k looked
  mates_looked q r k m h i =
      let a = mate_is q r m in
      ((l.mates r h).mates q k (told_mate r q h (closer_there (kind_in n) is q r a) (λ p here. close_mate n is q r p l.are.level a here)) i)

  mates_after_looked : (q r k : ℕ) → AreMatesOn new q r → In q touched → In k (kids_at n r) → In k looked
  mates_after_looked q r k m h i =
      let a = mate_is q r m in
      ((l.mates q h).mates r k (told_mate q r h (opener_there (kind_in n) is q r a) (λ p here. open_mate n is q r p l.are.level a here)) i)

  branch_looked : (q k : ℕ) → In q (turned ++ touched) → In q new.nodes → (kind_in n q ≡ Neither → ⊥) → In k (kids_at n q) → In k looked
  branch_looked q k h i other j = elim (both q h) [
    | inl h ↦
        ((l.branches q h).branch k (bracket_seen (q ∷ []) (spot_in q (n q)).seen (λ e. other (ap kind_of_symbol (named_by_number (λ k. k ∷ []) q (n q)) ∙ e))) j)
    | inr h ↦ kids_looked q k h j
  ]

  looked_mates : AreLookedMates old new touched (turned ++ touched) looked
  looked_mates = record {
    was = was_generation;
    is = new_generation;
    all_stay = λ q k i j. subst (In k) (sym (next_is (kind_in n) (kids_at n) is)) (in_flat (kids_at n) is q k (on_level q i).0 j);
    changed = changed;
    opens = opens;
    closes = closes;
    children = λ q k h i j. kids_looked q k h j;
    branches = branch_looked;
    mates = mates_looked;
    mates_after = mates_after_looked;
  }

  -- 7. seats

  looked_nodes : AreLooked f t (kids_at o) was touched (turned ++ touched) looked
  looked_nodes = record {
    touched_level = l.touched_level;
    turned_level = λ q h. elim (both q h) [ inl i ↦ l.turned_level q i | inr i ↦ l.touched_level q i ];
    changed = record {
      apart_old = l.were.left.apart;
      apart_new = l.are.left.apart;
      old_kids = l.were.left.kids_apart;
      new_kids = l.are.left.kids_apart;
      touched = λ q i. elim (l.families q i) [ inl h ↦ inl h | inr k ↦ inr (k.there, k.list) ];
    };
    around = l.around;
    beyond = λ q h. elim (both q h) [ inl i ↦ l.beyond q i | inr i ↦ beyond_touched q i ];
  }

  pub looked_seats_of : AreLookedSeats o f t (kids_at o) was old new touched (turned ++ touched) looked
  looked_seats_of = record {
    nodes = looked_nodes;
    right = right_turned;
    left = left_turned;
    mates = looked_mates;
    old_next = next_is (kind_in o) (kids_at o) was;
    new_next = next_is (kind_in n) (kids_at n) is;
    old_kinds = refl;
    new_kinds = refl;
    old_level = l.were.next;
    new_level = l.are.next;
    old_balanced = subst (AreBalanced (kind_in o) 0) (sym (next_is (kind_in o) (kids_at o) was)) l.were.next_balanced;
  }

pub stays : {A : Type 0} (o : Nodes A) (f : Grove A) (t : ℕ) (touched turned looked : List ℕ) → AreLookedBelow o f t touched turned looked
    → (p i k : ℕ) → slice_get (flat (kids_at o) (level_nodes o f.root t)) p ≡ Some k → slice_get (kids_of_level f t) i ≡ Some k
    → In k looked ⊎ (neighbours_on (now_of f) (kids_of_level f t) i ≡ neighbours_on o (flat (kids_at o) (level_nodes o f.root t)) p)
stays o f t touched turned looked l =
    seat_looked o f t (kids_at o) (level_nodes o f.root t) (left_generation (kind_in o) (kids_at o) (level_nodes o f.root t))
    (left_generation (kind_in (now_of f)) (kids_at (now_of f)) (level_nodes (now_of f) f.root t)) touched (turned ++ touched) looked (looked_seats_of o f t touched turned looked l)
