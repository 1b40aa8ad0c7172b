-- Nodes by their numbers.
use Rattle.std.proofs.Common.{◌≡◌, ◌≢◌, ◌+◌, ◌≤◌, ◌||◌, ◌&&◌, ℕ, zero, suc, Bool, true, false, not, List, [], ◌∷◌, ◌++◌, length, map, take, slice_get, Option, Some, None, refl, sym, ap, ◌∙◌, arith, inl, inr, subst}
use Rattle.std.specs.Prelude.{cond, is_some, nat_eq, IsSome}
use Rattle.std.proofs.Math.Bool.{or-true}
use Rattle.std.proofs.lemmas.Bool.{cases_eq, eq-eqb, ne_eqb, or_parts}
use Rattle.std.proofs.lemmas.Option.{none-some, same_Some}
use Rattle.lsys_spec.specs.Rows.{In}
use Rattle.lsys_children.specs.declared.number.Number.{Number}
use Rattle.lsys_forest.specs.Nodes.{Node, Nodes}
use Rattle.lsys_forest.specs.Groves.{Grove, now_of, changes_in, IsLive, IsRooted}
use Rattle.lsys_forest.proofs.SoundLemmas.{some_of}
use Rattle.lsys_children.specs.Matches.{same_child_number, has_number, AreDifferent, some_or, number_of, node_numbered, nodes_where, nodes_without, Matched, match_of}

-- 1. lists

take_suc : {X : Type 0} (xs : List X) (i : ℕ) (x : X) → slice_get xs i ≡ Some x → take (suc i) xs ≡ take i xs ++ x ∷ []
take_suc [] i x h = absurd (none-some x h)
take_suc (y ∷ xs) zero x h = let e : y ≡ x = cc in ap (λ z. z ∷ []) e
take_suc (y ∷ xs) (suc i) x h = ap (λ l. y ∷ l) (take_suc xs i x h)

pub take_next : {X : Type 0} (xs : List X) (i : ℕ) (x : X) → slice_get xs i ≡ Some x → take (i + 1) xs ≡ take i xs ++ x ∷ []
take_next xs i x h = let n : i + 1 ≡ suc i = omega arith in ap (λ n. take n xs) n ∙ take_suc xs i x h

pub take_whole : {X : Type 0} (xs : List X) (i : ℕ) → length xs ≤ i → take i xs ≡ xs
take_whole [] zero h = refl
take_whole [] (suc i) h = refl
take_whole (y ∷ xs) zero h = absurd (omega (arith, h))
take_whole (y ∷ xs) (suc i) h = ap (λ l. y ∷ l) (take_whole xs i (omega (arith, h)))

pub map_push : {X Y : Type 0} (f : X → Y) (xs : List X) (x : X) → map f (xs ++ x ∷ []) ≡ map f xs ++ f x ∷ []
map_push f [] x = refl
map_push f (y ∷ xs) x = ap (λ l. f y ∷ l) (map_push f xs x)

pub map_same : {X Y : Type 0} (f g : X → Y) → ((x : X) → f x ≡ g x) → (xs : List X) → map f xs ≡ map g xs
map_same f g h [] = refl
map_same f g h (x ∷ xs) = ap (λ y. y ∷ map f xs) (h x) ∙ ap (λ l. g x ∷ l) (map_same f g h xs)

-- 2. numbers

eq_sym : (a b : ℕ) → nat_eq a b ≡ nat_eq b a
eq_sym a b = elim (cases_eq a b) [
  | inl e ↦ eq-eqb a b e ∙ sym (eq-eqb b a (sym e))
  | inr ne ↦ ne_eqb a b ne ∙ sym (ne_eqb b a (λ e. ne (sym e)))
]

pub same_sym : (a b : Number) → same_child_number a b ≡ same_child_number b a
same_sym a b = ap (λ x. x && nat_eq a.count b.count) (eq_sym a.code b.code) ∙ ap (λ y. nat_eq b.code a.code && y) (eq_sym a.count b.count)

pub same_self : (a : Number) → same_child_number a a ≡ true
same_self a = ap (λ x. x && nat_eq a.count a.count) (eq-eqb a.code a.code refl) ∙ eq-eqb a.count a.count refl

has_there : (xs : List Number) (i : ℕ) (x y : Number) → slice_get xs i ≡ Some y → has_number xs x ≡ false → same_child_number y x ≡ false
has_there [] i x y h n = absurd (none-some y h)
has_there (z ∷ xs) zero x y h n = let e : z ≡ y = cc in ap (λ z. same_child_number z x) (sym e) ∙ (or_parts (same_child_number z x) (has_number xs x) n).0
has_there (z ∷ xs) (suc i) x y h n = has_there xs i x y h (or_parts (same_child_number z x) (has_number xs x) n).1

-- none before has the number of one that stands once
pub apart_before : (xs : List Number) (i : ℕ) (y : Number) → AreDifferent xs → slice_get xs i ≡ Some y → has_number (take i xs) y ≡ false
apart_before [] i y a h = absurd (none-some y h)
apart_before (x ∷ xs) zero y a h = refl
apart_before (x ∷ xs) (suc i) y a h = ap (λ b. b || has_number (take i xs) y) (same_sym x y ∙ has_there xs i x y h a.0) ∙ apart_before xs i y a.1 h

pub has_same : (xs : List Number) (i : ℕ) (x q : Number) → slice_get xs i ≡ Some x → same_child_number x q ≡ true → has_number xs q ≡ true
has_same [] i x q h e = absurd (none-some x h)
has_same (y ∷ xs) zero x q h e = ap (λ b. b || has_number xs q) (ap (λ (n : Number). same_child_number n q) (same_Some y x h) ∙ e)
has_same (y ∷ xs) (suc i) x q h e = ap (λ b. same_child_number y q || b) (has_same xs i x q h e) ∙ or-true (same_child_number y q)

pub has_push : (xs : List Number) (x q : Number) → has_number (xs ++ x ∷ []) q ≡ (has_number xs q || same_child_number x q)
has_push [] x q = or_none (same_child_number x q)
  where
    or_none : (b : Bool) → (b || false) ≡ b
    or_none true = refl
    or_none false = refl
has_push (y ∷ xs) x q = ap (λ b. same_child_number y q || b) (has_push xs x q) ∙ or_assoc (same_child_number y q) (has_number xs q) (same_child_number x q)
  where
    or_assoc : (a b c : Bool) → (a || (b || c)) ≡ ((a || b) || c)
    or_assoc true b c = refl
    or_assoc false b c = refl

pub taken_push : (a b : Bool) (o : Option ℕ) → cond b None (cond a None o) ≡ cond (a || b) None o
taken_push true true o = refl
taken_push true false o = refl
taken_push false true o = refl
taken_push false false o = refl

-- 3. nodes

left_is : (b : Bool) (o : Option ℕ) → is_some o ≡ true → is_some (cond b None o) ≡ not b
left_is true o h = refl
left_is false o h = h

abbrev pub same_match : List (Option ℕ) → List ℕ → Matched → Type 0
same_match found gone m = record { found = found; gone = gone } ≡ m

module _ {A : Type 0} where
  pub numbered_push : (m : Nodes A) (xs : List ℕ) (k : ℕ) (q : Number) → node_numbered m (xs ++ k ∷ []) q ≡ cond (same_child_number (number_of m k) q) (Some k) (node_numbered m xs q)
  numbered_push m [] k q = by (same_child_number (number_of m k) q)
    where
      by : (b : Bool) → some_or None (cond b (Some k) None) ≡ cond b (Some k) None
      by true = refl
      by false = refl
  numbered_push m (x ∷ xs) k q =
      ap (λ o. some_or o (cond (same_child_number (number_of m x) q) (Some x) None)) (numbered_push m xs k q)
      ∙ by (same_child_number (number_of m k) q) (node_numbered m xs q) (cond (same_child_number (number_of m x) q) (Some x) None)
    where
      by : (b : Bool) (o p : Option ℕ) → some_or (cond b (Some k) o) p ≡ cond b (Some k) (some_or o p)
      by true o p = refl
      by false o p = refl

  -- a node of these is found by its number
  pub numbered_some : (m : Nodes A) (xs : List ℕ) (k : ℕ) → In k xs → is_some (node_numbered m xs (number_of m k)) ≡ true
  numbered_some m [] k h = absurd h
  numbered_some m (x ∷ xs) k (inl e) =
      ap (λ b. is_some (some_or (node_numbered m xs (number_of m k)) (cond b (Some x) None))) (ap (λ x. same_child_number (number_of m x) (number_of m k)) (sym e) ∙ same_self (number_of m k))
      ∙ by (node_numbered m xs (number_of m k))
    where
      by : (o : Option ℕ) → is_some (some_or o (Some x)) ≡ true
      by None = refl
      by (Some j) = refl
  numbered_some m (x ∷ xs) k (inr h) = by (node_numbered m xs (number_of m k)) (cond (same_child_number (number_of m x) (number_of m k)) (Some x) None) (numbered_some m xs k h)
    where
      by : (o p : Option ℕ) → is_some o ≡ true → is_some (some_or o p) ≡ true
      by None p h = cc
      by (Some j) p h = refl

  pub where_push : (test : Number → Bool) (m : Nodes A) (xs : List ℕ) (k : ℕ) (b : Bool) → test (number_of m k) ≡ b → nodes_where test m (xs ++ k ∷ []) ≡ nodes_where test m xs ++ cond b (k ∷ []) []
  where_push test m [] k b e = ap (λ b. cond b (k ∷ []) []) e
  where_push test m (x ∷ xs) k b e =
      ap (λ l. cond (test (number_of m x)) (x ∷ l) l) (where_push test m xs k b e)
      ∙ by (test (number_of m x)) (nodes_where test m xs) (cond b (k ∷ []) [])
    where
      by : (c : Bool) (u v : List ℕ) → cond c (x ∷ (u ++ v)) (u ++ v) ≡ cond c (x ∷ u) u ++ v
      by true u v = refl
      by false u v = refl

  pub where_same : (f g : Number → Bool) (m : Nodes A) (xs : List ℕ) → ((k : ℕ) → In k xs → f (number_of m k) ≡ g (number_of m k)) → nodes_where f m xs ≡ nodes_where g m xs
  where_same f g m [] h = refl
  where_same f g m (x ∷ xs) h =
      ap (λ b. cond b (x ∷ nodes_where f m xs) (nodes_where f m xs)) (h x (inl refl))
      ∙ ap (λ l. cond (g (number_of m x)) (x ∷ l) l) (where_same f g m xs (λ k i. h k (inr i)))

  pub where_in : (test : Number → Bool) (m : Nodes A) (xs : List ℕ) (k : ℕ) → In k (nodes_where test m xs) → In k xs
  where_in test m [] k h = h
  where_in test m (x ∷ xs) k h = by (test (number_of m x)) (where_in test m xs k) h
    where
      by : (b : Bool) → (In k (nodes_where test m xs) → In k xs) → In k (cond b (x ∷ nodes_where test m xs) (nodes_where test m xs)) → In k (x ∷ xs)
      by true f (inl e) = inl e
      by true f (inr i) = inr (f i)
      by false f i = inr (f i)

  -- what is found, and what is left
  pub matched : (m : Nodes A) (ks : List ℕ) (qs : List Number) (before after : Number → Option ℕ) (found : List (Option ℕ)) (gone : List ℕ)
      → ((q : Number) → before q ≡ node_numbered m ks q) → found ≡ map before qs → ((q : Number) → after q ≡ cond (has_number qs q) None (before q))
      → gone ≡ nodes_where (λ q. is_some (after q)) m ks → same_match found gone (match_of m ks qs)
  matched m ks qs before after found gone b f a g =
      let e : found ≡ map (node_numbered m ks) qs = f ∙ map_same before (node_numbered m ks) b qs in
      let h : gone ≡ nodes_without m qs ks =
      g ∙ where_same (λ q. is_some (after q)) (λ q. not (has_number qs q)) m ks (λ k i. (
      ap is_some (a (number_of m k) ∙ ap (cond (has_number qs (number_of m k)) None) (b (number_of m k)))
      ∙ left_is (has_number qs (number_of m k)) (node_numbered m ks (number_of m k)) (numbered_some m ks k i)
      )) in
      λ i. record { found = e i; gone = h i }

  -- the children of a live node live, and none is the root
  pub kids_live : (f : Grove A) (parent : ℕ) (kids : List ℕ) → IsRooted f.root (changes_in f) (now_of f) → IsLive f parent → ((n : Node A) → now_of f parent ≡ Some n → kids ≡ n.kids)
      → (k : ℕ) → In k kids → IsLive f k × (k ≢ f.root)
  kids_live f parent kids sound lives told k among =
      let n = some_of (now_of f parent) lives in
      let own = sound.own parent n.0 n.1 in
      let u = own.under k (subst (In k) (told n.0 n.1) among) in
      (subst IsSome (sym u.is) refl, u.other)

  -- 4. one step of each loop

  pub entered_next : (m : Nodes A) (ks : List ℕ) (at k : ℕ) (number q : Number) (old new : Option ℕ) → slice_get ks at ≡ Some k
      → new ≡ cond (same_child_number number q) (Some k) old → number ≡ number_of m k → old ≡ node_numbered m (take at ks) q → new ≡ node_numbered m (take (at + 1) ks) q
  entered_next m ks at k number q old new here is named was =
      is
      ∙ ap (λ n. cond (same_child_number n q) (Some k) old) named
      ∙ ap (cond (same_child_number (number_of m k) q) (Some k)) was
      ∙ sym (numbered_push m (take at ks) k q)
      ∙ ap (λ l. node_numbered m l q) (sym (take_next ks at k here))

  pub left_next : (test : Number → Bool) (m : Nodes A) (ks : List ℕ) (at k : ℕ) (number : Number) (old new : List ℕ) → slice_get ks at ≡ Some k
      → new ≡ old ++ cond (test number) (k ∷ []) [] → number ≡ number_of m k → old ≡ nodes_where test m (take at ks) → new ≡ nodes_where test m (take (at + 1) ks)
  left_next test m ks at k number old new here is named was =
      is
      ∙ ap (λ l. l ++ cond (test number) (k ∷ []) []) was
      ∙ ap (λ n. nodes_where test m (take at ks) ++ cond (test n) (k ∷ []) []) named
      ∙ sym (where_push test m (take at ks) k (test (number_of m k)) refl)
      ∙ ap (nodes_where test m) (sym (take_next ks at k here))

pub record IsTaken (first now : Number → Option ℕ) (qs : List Number) (at : ℕ) (told : List (Option ℕ)) : Type 0 where
  pub found : told ≡ map first (take at qs)
  pub left : (q : Number) → now q ≡ cond (has_number (take at qs) q) None (first q)

pub taken_next : (first now next : Number → Option ℕ) (qs : List Number) (at : ℕ) (x : Number) (found : List (Option ℕ)) (result : Option ℕ) → AreDifferent qs → slice_get qs at ≡ Some x
    → IsTaken first now qs at found → result ≡ now x → ((q : Number) → next q ≡ cond (same_child_number x q) None (now q)) → IsTaken first next qs (at + 1) (found ++ result ∷ [])
taken_next first now next qs at x found result apart here was is left = record {
  found =
      ap (λ l. l ++ result ∷ []) was.found
      ∙ ap (λ o. map first (take at qs) ++ o ∷ []) (is ∙ was.left x ∙ ap (λ b. cond b None (first x)) (apart_before qs at x apart here))
      ∙ sym (map_push first (take at qs) x)
      ∙ ap (map first) (sym (take_next qs at x here));
  left = λ q.
      left q
      ∙ ap (cond (same_child_number x q) None) (was.left q)
      ∙ taken_push (has_number (take at qs) q) (same_child_number x q) (first q)
      ∙ ap (λ b. cond b None (first q)) (sym (has_push (take at qs) x q))
      ∙ ap (λ l. cond (has_number l q) None (first q)) (sym (take_next qs at x here));
}

-- 5. nodes that have the numbers that are wanted, in order

none_after : (o : Option ℕ) → some_or o None ≡ o
none_after None = refl
none_after (Some k) = refl

module _ {A : Type 0} where
  numbered_none : (m : Nodes A) (xs : List ℕ) (q : Number) → has_number (map (number_of m) xs) q ≡ false → node_numbered m xs q ≡ None
  numbered_none m [] q h = refl
  numbered_none m (x ∷ xs) q h =
      let o = or_parts (same_child_number (number_of m x) q) (has_number (map (number_of m) xs) q) h in
      ap (λ u. some_or u (cond (same_child_number (number_of m x) q) (Some x) None)) (numbered_none m xs q o.1)
      ∙ ap (λ b. cond b (Some x) None) o.0

  found_after : (m : Nodes A) (k : ℕ) (ks : List ℕ) (qs : List Number) → has_number qs (number_of m k) ≡ false → map (node_numbered m (k ∷ ks)) qs ≡ map (node_numbered m ks) qs
  found_after m k ks [] h = refl
  found_after m k ks (q ∷ qs) h =
      let o = or_parts (same_child_number q (number_of m k)) (has_number qs (number_of m k)) h in
      let e : node_numbered m (k ∷ ks) q ≡ node_numbered m ks q =
      ap (λ b. some_or (node_numbered m ks q) (cond b (Some k) None)) (same_sym (number_of m k) q ∙ o.0)
      ∙ none_after (node_numbered m ks q) in
      ap (λ u. u ∷ map (node_numbered m (k ∷ ks)) qs) e ∙ ap (λ l. node_numbered m ks q ∷ l) (found_after m k ks qs o.1)

  found_same : (m : Nodes A) (ks : List ℕ) → AreDifferent (map (number_of m) ks) → map (node_numbered m ks) (map (number_of m) ks) ≡ map Some ks
  found_same m [] a = refl
  found_same m (k ∷ ks) a =
      let q = number_of m k in
      let here : node_numbered m (k ∷ ks) q ≡ Some k =
      ap (λ u. some_or u (cond (same_child_number q q) (Some k) None)) (numbered_none m ks q a.0)
      ∙ ap (λ b. cond b (Some k) None) (same_self q) in
      ap (λ u. u ∷ map (node_numbered m (k ∷ ks)) (map (number_of m) ks)) here
      ∙ ap (λ l. Some k ∷ l) (found_after m k ks (map (number_of m) ks) a.0 ∙ found_same m ks a.1)

  has_own : (m : Nodes A) (xs : List ℕ) (k : ℕ) → In k xs → has_number (map (number_of m) xs) (number_of m k) ≡ true
  has_own m [] k h = absurd h
  has_own m (x ∷ xs) k (inl e) =
      ap (λ y. same_child_number (number_of m y) (number_of m k) || has_number (map (number_of m) xs) (number_of m k)) (sym e)
      ∙ ap (λ b. b || has_number (map (number_of m) xs) (number_of m k)) (same_self (number_of m k))
  has_own m (x ∷ xs) k (inr i) =
      ap (λ b. same_child_number (number_of m x) (number_of m k) || b) (has_own m xs k i)
      ∙ or-true (same_child_number (number_of m x) (number_of m k))

  none_without : (m : Nodes A) (qs : List Number) (xs : List ℕ) → ((k : ℕ) → In k xs → has_number qs (number_of m k) ≡ true) → nodes_without m qs xs ≡ []
  none_without m qs [] h = refl
  none_without m qs (x ∷ xs) h =
      ap (λ b. cond (not b) (x ∷ nodes_without m qs xs) (nodes_without m qs xs)) (h x (inl refl))
      ∙ none_without m qs xs (λ k i. h k (inr i))

  -- all are found, and none is left
  pub same_matched : (m : Nodes A) (ks : List ℕ) (qs : List Number) (found : List (Option ℕ)) (gone : List ℕ)
      → AreDifferent qs → map (number_of m) ks ≡ qs → found ≡ map Some ks → gone ≡ [] → same_match found gone (match_of m ks qs)
  same_matched m ks qs found gone apart same f g =
      let a : AreDifferent (map (number_of m) ks) = subst AreDifferent (sym same) apart in
      let e : found ≡ map (node_numbered m ks) qs = f ∙ sym (found_same m ks a) ∙ ap (map (node_numbered m ks)) same in
      let h : gone ≡ nodes_without m qs ks = g ∙ sym (none_without m qs ks (λ k i. subst (λ l. has_number l (number_of m k) ≡ true) same (has_own m ks k i))) in
      λ i. record { found = e i; gone = h i }

  -- one step of the comparison
  pub same_next : (m : Nodes A) (ks : List ℕ) (qs : List Number) (at k : ℕ) (q : Number) → slice_get ks at ≡ Some k → slice_get qs at ≡ Some q → number_of m k ≡ q
      → map (number_of m) (take at ks) ≡ take at qs → map (number_of m) (take (at + 1) ks) ≡ take (at + 1) qs
  same_next m ks qs at k q here there is was =
      ap (map (number_of m)) (take_next ks at k here)
      ∙ map_push (number_of m) (take at ks) k
      ∙ ap (λ l. l ++ number_of m k ∷ []) was
      ∙ ap (λ x. take at qs ++ x ∷ []) is
      ∙ sym (take_next qs at q there)
