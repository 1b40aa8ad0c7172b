-- How many questions there are, and how many of them are new, told by lists of nodes.
use Rattle.std.proofs.Common.{◌≡◌, ◌⊎◌, ◌+◌, ◌<◌, ℕ, zero, suc, Bool, true, false, List, [], ◌∷◌, ◌++◌, length, Option, Some, None, refl, sym, ap, ◌∙◌, subst, inl, inr, arith, slice_get, cond}
use Rattle.std.specs.Prelude.{count_by}
use Rattle.std.proofs.lemmas.List.{length-append}
use Rattle.std.proofs.lemmas.List.Sums.{sum_by-append, sum_by-cons}
use Rattle.std.proofs.lemmas.Option.{none-some, same_Some}
use Rattle.lsys_spec.specs.Rows.{In, AreApart}
use Rattle.lsys_spec.specs.Systems.{System}
use Rattle.lsys_spec.specs.Bodies.{Body, group}
use Rattle.lsys_spec.specs.Levels.{LevelSymbol, Push, Pop, Module}
use Rattle.lsys_spec.specs.Questions.{Question, question, where_any, questions_from, questions_at, questions_below}
use Rattle.lsys_laws.specs.KeptQuestions.{where_grouped, question_here}
use Rattle.lsys_forest.proofs.RowLemmas.{In_append, In_left, In_right, In_split, apart_parts, apart_append}
use Rattle.lsys_forest.proofs.WalkLemmas.{get_In}

-- 1. lists with the same elements

-- without the first k
apart_out : (b : List ℕ) (k : ℕ) (a : List ℕ) → AreApart (b ++ k ∷ a) → AreApart (b ++ a) × (In k (b ++ a) → ⊥)
apart_out b k a h =
    let p = apart_parts b (k ∷ a) h in
    (apart_append b a p.0 p.1.1 (λ j i r. p.2 j i (inr r)), λ i. elim (In_append b a k i) [ inl l ↦ p.2 k l (inl refl) | inr r ↦ p.1.0 r ])

pub same_length : (xs ys : List ℕ) → AreApart xs → AreApart ys → ((k : ℕ) → In k xs → In k ys) → ((k : ℕ) → In k ys → In k xs) → length xs ≡ length ys
same_length [] [] a b f g = refl
same_length [] (y ∷ ys) a b f g = absurd (g y (inl refl))
same_length (x ∷ xs) ys a b f g =
    let s = In_split x ys (f x (inl refl)) in
    let whole : AreApart (s.0 ++ x ∷ s.1) = subst AreApart s.2 b in
    let out = apart_out s.0 x s.1 whole in
    let rec = same_length xs (s.0 ++ s.1) a.1 out.0
    (λ k i. (
    let j : In k (s.0 ++ x ∷ s.1) = subst (In k) s.2 (f k (inr i)) in
    elim (In_append s.0 (x ∷ s.1) k j) [
      | inl l ↦ In_left k s.0 s.1 l
      | inr r ↦ elim r [ inl e ↦ absurd (a.0 (subst (λ q. In q xs) e i)) | inr t ↦ In_right k s.0 s.1 t ]
    ]
    ))
    (λ k i. (
    let back : In k ys = subst (In k) (sym s.2) (elim (In_append s.0 s.1 k i) [ inl l ↦ In_left k s.0 (x ∷ s.1) l | inr r ↦ In_right k s.0 (x ∷ s.1) (inr r) ]) in
    elim (g k back) [ inl e ↦ absurd (out.1 (subst (λ q. In q (s.0 ++ s.1)) e i)) | inr t ↦ t ]
    )) in
    let l1 = ap length s.2 in
    let l2 = length-append s.0 (x ∷ s.1) in
    let l3 = length-append s.0 s.1 in
    omega (arith, rec, l1, l2, l3)

-- 2. the nodes of one level whose questions pass

abbrev pick : Option Question → (Question → Bool) → ℕ → List ℕ → List ℕ
pick None test k ks = ks
pick (Some q) test k ks = cond (test q) (k ∷ ks) ks

abbrev pub picked : (Question → Bool) → System → ℕ → List LevelSymbol → ℕ → List LevelSymbol → List ℕ → List ℕ
picked test s t x p [] ks = []
picked test s t x p (a ∷ rest) [] = []
picked test s t x p (a ∷ rest) (k ∷ ks) = pick (question_here s t x p a) test k (picked test s t x (p + 1) rest ks)

one_more : (test : Question → Bool) (bs : List Body) (q : Question) (k : ℕ) (ks : List ℕ) (qs : List Question) → length ks ≡ count_by test qs → length (pick (where_grouped bs q) test k ks) ≡ count_by test (where_any bs q qs)
one_more test [] q k ks qs e = e
one_more test (b ∷ bs) q k ks qs e = by (test q) ∙ sym (sum_by-cons (λ r. cond (test r) 1 0) q qs)
  where
    by : (c : Bool) → length (cond c (k ∷ ks) ks) ≡ cond c 1 0 + count_by test qs
    by true = omega (arith, e)
    by false = omega (arith, e)

pub picked_count : (test : Question → Bool) (s : System) (t : ℕ) (x : List LevelSymbol) (p : ℕ) (rest : List LevelSymbol) (ks : List ℕ) → length rest ≡ length ks → length (picked test s t x p rest ks) ≡ count_by test (questions_from s t x p rest)
picked_count test s t x p [] ks h = refl
picked_count test s t x p (a ∷ rest) [] h = absurd (omega (arith, h))
picked_count test s t x p (Push l ∷ rest) (k ∷ ks) h = picked_count test s t x (p + 1) rest ks (omega (arith, h))
picked_count test s t x p (Pop l ∷ rest) (k ∷ ks) h = picked_count test s t x (p + 1) rest ks (omega (arith, h))
picked_count test s t x p (Module l m ∷ rest) (k ∷ ks) h =
    let bs : List Body = group s t m.name (length m.params) in
    one_more test bs (question s t bs x p l m) k (picked test s t x (p + 1) rest ks) (questions_from s t x (p + 1) rest) (picked_count test s t x (p + 1) rest ks (omega (arith, h)))

-- a node stands at this place, and its question passes
pub record Passes (test : Question → Bool) (s : System) (t : ℕ) (x : List LevelSymbol) (p : ℕ) (rest : List LevelSymbol) (ks : List ℕ) (k : ℕ) : Type 0 where
  pub place : ℕ
  pub node : slice_get ks place ≡ Some k
  pub symbol : LevelSymbol
  pub stands : slice_get rest place ≡ Some symbol
  pub question : Question
  pub is : question_here s t x (p + place) symbol ≡ Some question
  pub passes : test question ≡ true

pick_cases : (o : Option Question) (test : Question → Bool) (k j : ℕ) (ks : List ℕ) → In j (pick o test k ks) → In j ks ⊎ ((j ≡ k) × (q : Question) × (o ≡ Some q) × (test q ≡ true))
pick_cases None test k j ks h = inl h
pick_cases (Some q) test k j ks h = by (test q) refl h
  where
    by : (c : Bool) → test q ≡ c → In j (cond c (k ∷ ks) ks) → In j ks ⊎ ((j ≡ k) × (r : Question) × (Some q ≡ Some r) × (test r ≡ true))
    by true e i = elim i [ inl f ↦ inr (f, q, refl, e) | inr r ↦ inl r ]
    by false e i = inl i

pick_rest : (o : Option Question) (test : Question → Bool) (k j : ℕ) (ks : List ℕ) → In j ks → In j (pick o test k ks)
pick_rest None test k j ks h = h
pick_rest (Some q) test k j ks h = by (test q)
  where
    by : (c : Bool) → In j (cond c (k ∷ ks) ks)
    by true = inr h
    by false = h

pick_this : (o : Option Question) (test : Question → Bool) (k : ℕ) (ks : List ℕ) (q : Question) → o ≡ Some q → test q ≡ true → In k (pick o test k ks)
pick_this None test k ks q e f = absurd (none-some q e)
pick_this (Some r) test k ks q e f = subst (λ c. In k (cond c (k ∷ ks) ks)) (sym (ap test (same_Some r q e) ∙ f)) (inl refl)

plus_zero : (p : ℕ) → p ≡ p + 0
plus_zero p = omega arith

plus_one : (p i : ℕ) → (p + 1) + i ≡ p + suc i
plus_one p i = omega arith

pub picked_in : (test : Question → Bool) (s : System) (t : ℕ) (x : List LevelSymbol) (p : ℕ) (rest : List LevelSymbol) (ks : List ℕ) (k : ℕ) → In k (picked test s t x p rest ks) → Passes test s t x p rest ks k
picked_in test s t x p [] ks k h = absurd h
picked_in test s t x p (a ∷ rest) [] k h = absurd h
picked_in test s t x p (a ∷ rest) (j ∷ ks) k h = elim (pick_cases (question_here s t x p a) test j k (picked test s t x (p + 1) rest ks) h) [
  | inl i ↦
      let r = picked_in test s t x (p + 1) rest ks k i in
      record { place = suc r.place; node = r.node; symbol = r.symbol; stands = r.stands; question = r.question; is = ap (λ q. question_here s t x q r.symbol) (sym (plus_one p r.place)) ∙ r.is; passes = r.passes }
  | inr e ↦ record { place = 0; node = ap Some (sym e.0); symbol = a; stands = refl; question = e.1; is = ap (λ q. question_here s t x q a) (sym (plus_zero p)) ∙ e.2; passes = e.3 }
]

pub in_picked : (test : Question → Bool) (s : System) (t : ℕ) (x : List LevelSymbol) (p : ℕ) (rest : List LevelSymbol) (ks : List ℕ) (i k : ℕ) (a : LevelSymbol) (q : Question) → slice_get ks i ≡ Some k → slice_get rest i ≡ Some a
    → question_here s t x (p + i) a ≡ Some q → test q ≡ true → In k (picked test s t x p rest ks)
in_picked test s t x p [] ks i k a q n h e f = absurd (none-some a h)
in_picked test s t x p (b ∷ rest) [] i k a q n h e f = absurd (none-some k n)
in_picked test s t x p (b ∷ rest) (j ∷ ks) zero k a q n h e f =
    let same : b ≡ a = same_Some b a h in
    let node : j ≡ k = same_Some j k n in
    subst (λ y. In y (pick (question_here s t x p b) test j (picked test s t x (p + 1) rest ks))) node
    (pick_this (question_here s t x p b) test j (picked test s t x (p + 1) rest ks) q (ap (question_here s t x p) same ∙ ap (λ z. question_here s t x z a) (plus_zero p) ∙ e) f)
in_picked test s t x p (b ∷ rest) (j ∷ ks) (suc i) k a q n h e f =
    pick_rest (question_here s t x p b) test j k (picked test s t x (p + 1) rest ks) (in_picked test s t x (p + 1) rest ks i k a q n h (ap (λ z. question_here s t x z a) (plus_one p i) ∙ e) f)

pick_apart : (o : Option Question) (test : Question → Bool) (k : ℕ) (ks : List ℕ) → AreApart ks → (In k ks → ⊥) → AreApart (pick o test k ks)
pick_apart None test k ks h none = h
pick_apart (Some q) test k ks h none = by (test q)
  where
    by : (c : Bool) → AreApart (cond c (k ∷ ks) ks)
    by true = (none, h)
    by false = h

picked_among : (test : Question → Bool) (s : System) (t : ℕ) (x : List LevelSymbol) (p : ℕ) (rest : List LevelSymbol) (ks : List ℕ) (k : ℕ) → In k (picked test s t x p rest ks) → In k ks
picked_among test s t x p rest ks k h = let r = picked_in test s t x p rest ks k h in get_In ks r.place k r.node

pub picked_apart : (test : Question → Bool) (s : System) (t : ℕ) (x : List LevelSymbol) (p : ℕ) (rest : List LevelSymbol) (ks : List ℕ) → AreApart ks → AreApart (picked test s t x p rest ks)
picked_apart test s t x p [] ks h = tt
picked_apart test s t x p (a ∷ rest) [] h = tt
picked_apart test s t x p (a ∷ rest) (k ∷ ks) h =
    pick_apart (question_here s t x p a) test k (picked test s t x (p + 1) rest ks) (picked_apart test s t x (p + 1) rest ks h.1) (λ i. h.0 (picked_among test s t x (p + 1) rest ks k i))

-- 3. level by level

abbrev pub picked_below : (Question → Bool) → System → (ℕ → List ℕ) → ℕ → List (List LevelSymbol) → List ℕ
picked_below test s nodes t [] = []
picked_below test s nodes t (x ∷ []) = []
picked_below test s nodes t (x ∷ y ∷ levels) = picked test s t x 0 x (nodes t) ++ picked_below test s nodes (t + 1) (y ∷ levels)

pub below_count : (test : Question → Bool) (s : System) (nodes : ℕ → List ℕ) (t : ℕ) (xs : List (List LevelSymbol)) → ((i : ℕ) (x : List LevelSymbol) → slice_get xs i ≡ Some x → length x ≡ length (nodes (t + i)))
    → length (picked_below test s nodes t xs) ≡ count_by test (questions_below s t xs)
below_count test s nodes t [] h = refl
below_count test s nodes t (x ∷ []) h = refl
below_count test s nodes t (x ∷ y ∷ levels) h =
    let long : length x ≡ length (nodes t) = h 0 x refl ∙ ap (λ q. length (nodes q)) (sym (plus_zero t)) in
    let one = picked_count test s t x 0 x (nodes t) long in
    let rest = below_count test s nodes (t + 1) (y ∷ levels) (λ i z e. h (suc i) z e ∙ ap (λ q. length (nodes q)) (sym (plus_one t i))) in
    let both = length-append (picked test s t x 0 x (nodes t)) (picked_below test s nodes (t + 1) (y ∷ levels)) in
    let sum = sum_by-append (λ q. cond (test q) 1 0) (questions_at s t x) (questions_below s (t + 1) (y ∷ levels)) in
    omega (arith, one, rest, both, sum)

-- a node of a level below the last
pub record PassesBelow (test : Question → Bool) (s : System) (nodes : ℕ → List ℕ) (t : ℕ) (xs : List (List LevelSymbol)) (k : ℕ) : Type 0 where
  pub level : ℕ
  pub symbols : List LevelSymbol
  pub there : slice_get xs level ≡ Some symbols
  pub below : level + 1 < length xs
  pub at : Passes test s (t + level) symbols 0 symbols (nodes (t + level)) k

pub below_in : (test : Question → Bool) (s : System) (nodes : ℕ → List ℕ) (t : ℕ) (xs : List (List LevelSymbol)) (k : ℕ) → In k (picked_below test s nodes t xs) → PassesBelow test s nodes t xs k
below_in test s nodes t [] k h = absurd h
below_in test s nodes t (x ∷ []) k h = absurd h
below_in test s nodes t (x ∷ y ∷ levels) k h = elim (In_append (picked test s t x 0 x (nodes t)) (picked_below test s nodes (t + 1) (y ∷ levels)) k h) [
  | inl i ↦ record { level = 0; symbols = x; there = refl; below = omega arith; at = subst (λ q. Passes test s q x 0 x (nodes q) k) (plus_zero t) (picked_in test s t x 0 x (nodes t) k i) }
  | inr i ↦
      let r = below_in test s nodes (t + 1) (y ∷ levels) k i in
      let less = r.below in
      record { level = suc r.level; symbols = r.symbols; there = r.there; below = omega (arith, less); at = subst (λ q. Passes test s q r.symbols 0 r.symbols (nodes q) k) (plus_one t r.level) r.at }
]

pub in_below : (test : Question → Bool) (s : System) (nodes : ℕ → List ℕ) (t : ℕ) (xs : List (List LevelSymbol)) (u : ℕ) (x : List LevelSymbol) (i k : ℕ) (a : LevelSymbol) (q : Question) → slice_get xs u ≡ Some x → u + 1 < length xs
    → slice_get (nodes (t + u)) i ≡ Some k → slice_get x i ≡ Some a → question_here s (t + u) x (0 + i) a ≡ Some q → test q ≡ true → In k (picked_below test s nodes t xs)
in_below test s nodes t [] u x i k a q e l n h g f = absurd (none-some x e)
in_below test s nodes t (y ∷ []) u x i k a q e l n h g f = absurd (omega (arith, l))
in_below test s nodes t (y ∷ z ∷ levels) zero x i k a q e l n h g f =
    let same : y ≡ x = same_Some y x e in
    In_left k (picked test s t y 0 y (nodes t)) (picked_below test s nodes (t + 1) (z ∷ levels))
    (subst (λ w. In k (picked test s t w 0 w (nodes t))) (sym same)
    (in_picked test s t x 0 x (nodes t) i k a q (ap (λ w. slice_get (nodes w) i) (plus_zero t) ∙ n) h (ap (λ w. question_here s w x (0 + i) a) (plus_zero t) ∙ g) f))
in_below test s nodes t (y ∷ z ∷ levels) (suc u) x i k a q e l n h g f =
    In_right k (picked test s t y 0 y (nodes t)) (picked_below test s nodes (t + 1) (z ∷ levels))
    (in_below test s nodes (t + 1) (z ∷ levels) u x i k a q e (omega (arith, l)) (ap (λ w. slice_get (nodes w) i) (plus_one t u) ∙ n) h (ap (λ w. question_here s w x (0 + i) a) (plus_one t u) ∙ g) f)

pub below_apart : (test : Question → Bool) (s : System) (nodes : ℕ → List ℕ) → ((t : ℕ) → AreApart (nodes t)) → ((t u k : ℕ) → In k (nodes t) → In k (nodes u) → t ≡ u) → (t : ℕ) (xs : List (List LevelSymbol)) → AreApart (picked_below test s nodes t xs)
below_apart test s nodes apart one t [] = tt
below_apart test s nodes apart one t (x ∷ []) = tt
below_apart test s nodes apart one t (x ∷ y ∷ levels) =
    apart_append (picked test s t x 0 x (nodes t)) (picked_below test s nodes (t + 1) (y ∷ levels)) (picked_apart test s t x 0 x (nodes t) (apart t)) (below_apart test s nodes apart one (t + 1) (y ∷ levels)) (λ k i j. (
    let here = picked_among test s t x 0 x (nodes t) k i in
    let r = below_in test s nodes (t + 1) (y ∷ levels) k j in
    let later = get_In (nodes ((t + 1) + r.level)) r.at.place k r.at.node in
    let same = one t ((t + 1) + r.level) k here later in
    omega (arith, same)
    ))
