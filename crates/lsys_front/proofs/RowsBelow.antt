-- Nodes below others, and those of them that keep an answer.
use Rattle.std.proofs.Common.{◌≡◌, ◌+◌, ◌<◌, ◌≤◌, ℕ, zero, suc, Bool, true, false, cond, List, [], ◌∷◌, ◌++◌, Option, Some, None, refl, sym, ap, ◌∙◌, subst, arith, inl, inr, ◌↔◌}
use Rattle.std.specs.Prelude.{is_some, filter}
use Rattle.std.specs.Option.{option_and_then}
use Rattle.std.proofs.lemmas.Option.{same_Some}
use Rattle.lsys_spec.specs.Rows.{In, AreApart}
use Rattle.lsys_forest.specs.Nodes.{Node, Nodes}
use Rattle.lsys_forest.specs.Changes.{Change}
use Rattle.lsys_forest.specs.Answers.{answer_of}
use Rattle.lsys_forest.specs.Groves.{IsRooted}
use Rattle.lsys_forest.specs.Rows.{kids_in, kids_below, level_nodes}
use Rattle.lsys_forest.specs.Ranks.{parent_in}
use Rattle.lsys_forest.proofs.LinkLemmas.{flat_same}
use Rattle.lsys_forest.proofs.RowLemmas as rows
use Rattle.lsys_front.proofs.Rows.{in_flat, flat_owned}
use Rattle.lsys_front.specs.Ends.{is_answered, answered_in, row_below, rows_from, AreDeep}

-- 1. lists

pub filter_in : (f : ℕ → Bool) (xs : List ℕ) (k : ℕ) → In k (filter f xs) → In k xs × (f k ≡ true)
filter_in f [] k h = absurd h
filter_in f (x ∷ xs) k h = by (f x) refl h (filter_in f xs k)
  where
    by : (b : Bool) → f x ≡ b → In k (cond b (x ∷ filter f xs) (filter f xs)) → (In k (filter f xs) → In k xs × (f k ≡ true)) → In k (x ∷ xs) × (f k ≡ true)
    by true e i r = elim i [ inl q ↦ (inl q, ap f q ∙ e) | inr j ↦ (inr (r j).0, (r j).1) ]
    by false e i r = (inr (r i).0, (r i).1)

pub in_filter : (f : ℕ → Bool) (xs : List ℕ) (k : ℕ) → In k xs → f k ≡ true → In k (filter f xs)
in_filter f [] k h e = absurd h
in_filter f (x ∷ xs) k (inl q) e = subst (λ b. In k (cond b (x ∷ filter f xs) (filter f xs))) (sym (ap f (sym q) ∙ e)) (inl q)
in_filter f (x ∷ xs) k (inr i) e = by (f x) (in_filter f xs k i e)
  where
    by : (b : Bool) → In k (filter f xs) → In k (cond b (x ∷ filter f xs) (filter f xs))
    by true j = inr j
    by false j = j

pub filter_apart : (f : ℕ → Bool) (xs : List ℕ) → AreApart xs → AreApart (filter f xs)
filter_apart f [] a = tt
filter_apart f (x ∷ xs) a = by (f x) (filter_apart f xs a.1)
  where
    by : (b : Bool) → AreApart (filter f xs) → AreApart (cond b (x ∷ filter f xs) (filter f xs))
    by true h = (λ i. a.0 (filter_in f xs x i).0, h)
    by false h = h

-- two lists have the same numbers
abbrev pub SameIn : List ℕ → List ℕ → Type 0
SameIn xs ys = (k : ℕ) → In k xs ↔ In k ys

module _ {A : Type 0} where
  -- 2. rows

  pub same_below : (m : Nodes A) (xs ys : List ℕ) → SameIn xs ys → SameIn (kids_below m xs) (kids_below m ys)
  same_below m xs ys same k = (over xs ys (λ p. (same p).0), over ys xs (λ p. (same p).1))
    where
      over : (us vs : List ℕ) → ((p : ℕ) → In p us → In p vs) → In k (kids_below m us) → In k (kids_below m vs)
      over us vs f h = let s = rows.flat_In (λ p. kids_in (m p)) us k h in in_flat (λ p. kids_in (m p)) vs s.0 k (f s.0 s.1) s.2

  pub row_level : (m : Nodes A) (root n t : ℕ) (xs : List ℕ) → SameIn xs (level_nodes m root t) → SameIn (row_below m n xs) (level_nodes m root (t + n))
  row_level m root zero t xs same = let e : t ≡ t + 0 = omega arith in subst (λ u. SameIn xs (level_nodes m root u)) e same
  row_level m root (suc n) t xs same =
      let e : suc t + n ≡ t + suc n = omega arith in
      subst (λ u. SameIn (row_below m n (kids_below m xs)) (level_nodes m root u)) e (row_level m root n (suc t) (kids_below m xs) (same_below m xs (level_nodes m root t) same))

  pub rows_row : (m : Nodes A) (n : ℕ) (xs : List ℕ) (k : ℕ) → In k (rows_from m n xs) → (i : ℕ) × (i < n) × In k (row_below m i xs)
  rows_row m zero xs k h = absurd h
  rows_row m (suc n) xs k h = elim (rows.In_append xs (rows_from m n (kids_below m xs)) k h) [
    | inl a ↦ (0, omega arith, a)
    | inr b ↦ let r = rows_row m n (kids_below m xs) k b in (suc r.0, (let l = r.1 in omega (arith, l)), r.2)
  ]

  pub row_rows : (m : Nodes A) (n : ℕ) (xs : List ℕ) (k i : ℕ) → i < n → In k (row_below m i xs) → In k (rows_from m n xs)
  row_rows m zero xs k i l h = absurd (omega (arith, l))
  row_rows m (suc n) xs k zero l h = rows.In_left k xs (rows_from m n (kids_below m xs)) h
  row_rows m (suc n) xs k (suc i) l h = rows.In_right k xs (rows_from m n (kids_below m xs)) (row_rows m n (kids_below m xs) k i (omega (arith, l)) h)

  -- 3. nodes of one depth

  module _ (root : ℕ) (changes : List (Change A)) (m : Nodes A) (sound : IsRooted root changes m) where
    pub deep_below : (d : ℕ) (xs : List ℕ) → AreDeep m d xs → AreDeep m (d + 1) (kids_below m xs)
    deep_below d xs deep k h =
        let s = rows.flat_In (λ p. kids_in (m p)) xs k h in
        let u = rows.child root changes m sound s.0 k s.2 in
        let p = deep s.0 s.1 in
        let same : u.above.depth ≡ p.0.depth = ap (λ (y : Node A). y.depth) (same_Some u.above p.0 (sym u.above_is ∙ p.1)) in
        let depth = p.2 in
        (u.node, u.is, omega (arith, u.depth, same, depth))

    pub below_apart : (xs : List ℕ) → AreApart xs → AreApart (kids_below m xs)
    below_apart xs a =
        flat_owned (λ k. kids_in (m k)) (λ k. parent_in (m k)) xs a (rows.kids_apart root changes m sound)
        (λ p k i. (let c = rows.child root changes m sound p k i in ap (λ x. parent_in x) c.is ∙ c.parent_is))

    -- all of the rows live, and no less deep
    pub deep_rows : (n d : ℕ) (xs : List ℕ) → AreDeep m d xs → (k : ℕ) → In k (rows_from m n xs) → (x : Node A) × (m k ≡ Some x) × (d ≤ x.depth)
    deep_rows zero d xs deep k h = absurd h
    deep_rows (suc n) d xs deep k h = elim (rows.In_append xs (rows_from m n (kids_below m xs)) k h) [
      | inl a ↦ let p = deep k a in (p.0, p.1, (let e = p.2 in omega (arith, e)))
      | inr b ↦ let p = deep_rows n (d + 1) (kids_below m xs) (deep_below d xs deep) k b in (p.0, p.1, (let l = p.2 in omega (arith, l)))
    ]

    pub rows_apart : (n d : ℕ) (xs : List ℕ) → AreDeep m d xs → AreApart xs → AreApart (rows_from m n xs)
    rows_apart zero d xs deep a = tt
    rows_apart (suc n) d xs deep a =
        rows.apart_append xs (rows_from m n (kids_below m xs)) a
        (rows_apart n (d + 1) (kids_below m xs) (deep_below d xs deep) (below_apart xs a))
        (λ k i j. (
        let p = deep k i in
        let q = deep_rows n (d + 1) (kids_below m xs) (deep_below d xs deep) k j in
        let same : p.0.depth ≡ q.0.depth = ap (λ (y : Node A). y.depth) (same_Some p.0 q.0 (sym p.1 ∙ q.1)) in
        let one = p.2 in
        let two = q.2 in
        absurd (omega (arith, same, one, two))
        ))

  -- 4. nodes that are as they were

  -- as at the last rest, where they are at least so deep
  abbrev pub AgreeFrom : Nodes A → Nodes A → ℕ → Type 0
  AgreeFrom o m d = (k : ℕ) (n : Node A) → o k ≡ Some n → d ≤ n.depth → m k ≡ o k

  module _ (root : ℕ) (changes : List (Change A)) (o m : Nodes A) (sound : IsRooted root changes o) (low : ℕ) (agree : AgreeFrom o m low) where
    same_kids_below : (d : ℕ) (xs : List ℕ) → low ≤ d → AreDeep o d xs → kids_below m xs ≡ kids_below o xs
    same_kids_below d xs l deep =
        flat_same (λ k. kids_in (m k)) (λ k. kids_in (o k)) xs
        (λ k i. (let p = deep k i in let e : p.0.depth ≡ d = p.2 in ap (λ x. kids_in x) (agree k p.0 p.1 (omega (arith, l, e)))))

    pub row_same : (n d : ℕ) (xs : List ℕ) → low ≤ d → AreDeep o d xs → row_below m n xs ≡ row_below o n xs
    row_same zero d xs l deep = refl
    row_same (suc n) d xs l deep =
        ap (row_below m n) (same_kids_below d xs l deep) ∙ row_same n (d + 1) (kids_below o xs) (omega (arith, l)) (deep_below root changes o sound d xs deep)

    pub rows_same : (n d : ℕ) (xs : List ℕ) → low ≤ d → AreDeep o d xs → rows_from m n xs ≡ rows_from o n xs
    rows_same zero d xs l deep = refl
    rows_same (suc n) d xs l deep =
        ap (λ (l : List ℕ). xs ++ l) (ap (rows_from m n) (same_kids_below d xs l deep) ∙ rows_same n (d + 1) (kids_below o xs) (omega (arith, l)) (deep_below root changes o sound d xs deep))

  -- 5. answers

  answered_some : (x : Option A) → is_some x ≡ true → (a : A) × (x ≡ Some a)
  answered_some (Some a) e = (a, refl)
  answered_some None e = absurd (let f : false ≡ true = e in cc)

  pub answered : (m : Nodes A) (k : ℕ) → is_answered m k ≡ true → (a : A) × (option_and_then answer_of (m k) ≡ Some a)
  answered m k e = answered_some (option_and_then answer_of (m k)) e

  pub is_answered_by : (m : Nodes A) (k : ℕ) (a : A) → option_and_then answer_of (m k) ≡ Some a → is_answered m k ≡ true
  is_answered_by m k a e = ap (λ x. is_some x) e

  pub answered_are : (m : Nodes A) (nodes : List ℕ) (k : ℕ) → In k (answered_in m nodes) ↔ (In k nodes × (is_answered m k ≡ true))
  answered_are m nodes k = (filter_in (is_answered m) nodes k, λ h. in_filter (is_answered m) nodes k h.0 h.1)

  pub answered_apart : (m : Nodes A) (nodes : List ℕ) → AreApart nodes → AreApart (answered_in m nodes)
  answered_apart m nodes a = filter_apart (is_answered m) nodes a
