-- The next children beside a node of a level.
use Rattle.std.proofs.Common.{◌≡◌, ◌⊎◌, ◌+◌, ◌<◌, ◌≤◌, ℕ, zero, suc, take, List, [], ◌∷◌, ◌++◌, length, slice_get, Option, Some, None, refl, sym, ap, ◌∙◌, arith, inl, inr, subst}
use Rattle.std.proofs.lemmas.List.{append_assoc}
use Rattle.std.proofs.lemmas.Option.{none-some, same_Some}
use Rattle.lsys_spec.specs.Rows.{In, AreApart, first_in, last_in}
use Rattle.lsys_level.specs.Spots.{spots_at}
use Rattle.lsys_forest.specs.Groves.{Grove, now_of}
use Rattle.lsys_forest.specs.Rows.{index_in, kids_below, level_nodes, level_with, complete_levels, level_of_node, place_of_node, IsAtSpot}
use Rattle.lsys_reads.specs.Looks.{LooksAround, LooksBeyond}
use Rattle.lsys_reads.proofs.LevelLemmas.{index_cases, there_is, level_long}

in_middle : (xs ys : List ℕ) (k : ℕ) → In k (xs ++ k ∷ ys)
in_middle [] ys k = inl refl
in_middle (x ∷ xs) ys k = inr (in_middle xs ys k)

pub in_left : (xs ys : List ℕ) (k : ℕ) → In k xs → In k (xs ++ ys)
in_left [] ys k h = absurd h
in_left (x ∷ xs) ys k (inl e) = inl e
in_left (x ∷ xs) ys k (inr h) = inr (in_left xs ys k h)

pub in_right : (xs ys : List ℕ) (k : ℕ) → In k ys → In k (xs ++ ys)
in_right [] ys k h = h
in_right (x ∷ xs) ys k h = inr (in_right xs ys k h)

-- a number that stands once stands after those before it
pub index_at : (left right : List ℕ) (q : ℕ) → AreApart (left ++ q ∷ right) → index_in q (left ++ q ∷ right) ≡ length left
index_at [] right q apart = elim (index_cases q q right) [ inl e ↦ e.1 | inr e ↦ absurd (e.0 refl) ]
index_at (x ∷ left) right q apart = elim (index_cases q x (left ++ q ∷ right)) [
  | inl e ↦ absurd (apart.0 (subst (λ k. In k (left ++ q ∷ right)) e.0 (in_middle left right q)))
  | inr e ↦ e.1 ∙ ap suc (index_at left right q apart.1)
]

long_around : (left right : List ℕ) (q : ℕ) → length (left ++ q ∷ right) ≡ length left + 1 + length right
long_around [] right q = omega arith
long_around (x ∷ left) right q = omega (arith, long_around left right q)

-- what stands right before a place, and right after it
pub left_at : (left right : List ℕ) (q l p : ℕ) → p + 1 ≡ length left → slice_get (left ++ q ∷ right) p ≡ Some l → (rest : List ℕ) × (left ≡ rest ++ l ∷ [])
left_at [] right q l p e h = absurd (omega (arith, e))
left_at (x ∷ []) right q l zero e h = ([], ap (λ k. k ∷ []) (same_Some x l h))
left_at (x ∷ []) right q l (suc p) e h = absurd (omega (arith, e))
left_at (x ∷ y ∷ left) right q l zero e h = absurd (omega (arith, e))
left_at (x ∷ y ∷ left) right q l (suc p) e h = let r = left_at (y ∷ left) right q l p (omega (arith, e)) h in (x ∷ r.0, ap (λ (ks : List ℕ). x ∷ ks) r.1)

pub right_at : (left right : List ℕ) (q r p : ℕ) → p ≡ length left + 1 → slice_get (left ++ q ∷ right) p ≡ Some r → (rest : List ℕ) × (right ≡ r ∷ rest)
right_at [] [] q r zero e h = absurd (omega (arith, e))
right_at [] [] q r (suc p) e h = absurd (none-some r h)
right_at [] (x ∷ right) q r zero e h = absurd (omega (arith, e))
right_at [] (x ∷ right) q r (suc zero) e h = (right, ap (λ k. k ∷ right) (same_Some x r h))
right_at [] (x ∷ right) q r (suc (suc p)) e h = absurd (omega (arith, e))
right_at (x ∷ left) right q r zero e h = absurd (omega (arith, e))
right_at (x ∷ left) right q r (suc p) e h = right_at left right q r p (omega (arith, e)) h

none_long : (xs : List ℕ) → length xs ≡ 0 → xs ≡ []
none_long [] h = refl
none_long (x ∷ xs) h = absurd (omega (arith, h))

in_taken : (xs : List ℕ) (i x q : ℕ) → slice_get xs i ≡ Some x → In q (take (suc i) xs) → In q (take i xs) ⊎ (q ≡ x)
in_taken [] i x q h t = absurd (none-some x h)
in_taken (y ∷ xs) zero x q h (inl e) = inr (e ∙ same_Some y x h)
in_taken (y ∷ []) zero x q h (inr t) = absurd t
in_taken (y ∷ z ∷ xs) zero x q h (inr t) = absurd t
in_taken (y ∷ xs) (suc i) x q h (inl e) = inl (inl e)
in_taken (y ∷ xs) (suc i) x q h (inr t) = elim (in_taken xs i x q h t) [ inl t' ↦ inl (inr t') | inr e ↦ inr e ]

-- one more was taken
pub in_taken_next : (xs : List ℕ) (i x q : ℕ) → slice_get xs i ≡ Some x → In q (take (i + 1) xs) → In q (take i xs) ⊎ (q ≡ x)
in_taken_next xs i x q h t = let n : i + 1 ≡ suc i = omega arith in in_taken xs i x q h (subst (λ j. In q (take j xs)) n t)

pub in_all_taken : (xs : List ℕ) (i q : ℕ) → length xs ≤ i → In q xs → In q (take i xs)
in_all_taken [] i q h t = absurd t
in_all_taken (x ∷ xs) zero q h t = absurd (omega (arith, h))
in_all_taken (x ∷ xs) (suc i) q h (inl e) = inl e
in_all_taken (x ∷ xs) (suc i) q h (inr t) = inr (in_all_taken xs i q (omega (arith, h)) t)

pub none_taken : (xs : List ℕ) (q : ℕ) → In q (take 0 xs) → ⊥
none_taken [] q t = t
none_taken (x ∷ xs) q t = t

module _ {A : Type 0} where
  pub around_keep : (f : Grove A) (q : ℕ) (xs ys : List ℕ) → ((k : ℕ) → In k xs → In k ys) → LooksAround f q xs → LooksAround f q ys
  around_keep f q xs ys keep looks = record {
    children = λ k h. keep k (looks.children k h);
    before = λ k left right apart whole last. keep k (looks.before k left right apart whole last);
    after = λ k left right apart whole first. keep k (looks.after k left right apart whole first);
  }

  pub beyond_keep : (f : Grove A) (q : ℕ) (xs ys : List ℕ) → ((k : ℕ) → In k xs → In k ys) → LooksBeyond f q xs → LooksBeyond f q ys
  beyond_keep f q xs ys keep looks = record {
    up_to = λ k left right whole last. keep k (looks.up_to k left right whole last);
    from = λ k left right whole first. keep k (looks.from k left right whole first);
  }

  level_same : (f : Grove A) (q s : ℕ) → level_of_node f s ≡ level_of_node f q → level_with f s ≡ level_with f q
  level_same f q s e = ap (λ t. level_nodes (now_of f) f.root t) e

  pub left_spot : (f : Grove A) (q l : ℕ) → IsAtSpot f q → (level_of_node f l ≡ level_of_node f q) × (place_of_node f l + 1 ≡ place_of_node f q) → IsAtSpot f l
  left_spot f q l spot at = subst (λ t. place_of_node f l < length (spots_at (complete_levels f) t)) (sym at.0) (omega (arith, spot, at.1))

  pub before_some : (f : Grove A) (q l : ℕ) (result : Option ℕ) → IsAtSpot f q → (level_of_node f l ≡ level_of_node f q) × (place_of_node f l + 1 ≡ place_of_node f q)
      → ((left right : List ℕ) → level_with f l ≡ left ++ l ∷ right → result ≡ last_in (kids_below (now_of f) (left ++ l ∷ [])))
      → (left right : List ℕ) → AreApart (level_with f q) → level_with f q ≡ left ++ q ∷ right → result ≡ last_in (kids_below (now_of f) left)
  before_some f q l result spot at told left right apart whole =
      let place : place_of_node f q ≡ length left = ap (index_in q) whole ∙ index_at left right q (subst AreApart whole apart) in
      let there = there_is f q l spot at.0 (omega (arith, spot, at.1)) in
      let r = left_at left right q l (place_of_node f l) (omega (arith, at.1, place)) (subst (λ ks. slice_get ks (place_of_node f l) ≡ Some l) whole there) in
      told r.0 (q ∷ right) (level_same f q l at.0 ∙ whole ∙ ap (λ ks. ks ++ q ∷ right) r.1 ∙ append_assoc r.0 (l ∷ []) (q ∷ right)) ∙ ap (λ ks. last_in (kids_below (now_of f) ks)) (sym r.1)

  pub before_none : (f : Grove A) (q : ℕ) → place_of_node f q ≡ 0 → (left right : List ℕ) → AreApart (level_with f q) → level_with f q ≡ left ++ q ∷ right → None ≡ last_in (kids_below (now_of f) left)
  before_none f q at left right apart whole =
      let place : place_of_node f q ≡ length left = ap (index_in q) whole ∙ index_at left right q (subst AreApart whole apart) in
      ap (λ ks. last_in (kids_below (now_of f) ks)) (sym (none_long left (omega (arith, place, at))))

  pub right_spot : (f : Grove A) (q r : ℕ) → (level_of_node f r ≡ level_of_node f q) × (place_of_node f r ≡ place_of_node f q + 1) × (place_of_node f r < length (spots_at (complete_levels f) (level_of_node f q))) → IsAtSpot f r
  right_spot f q r at = subst (λ t. place_of_node f r < length (spots_at (complete_levels f) t)) (sym at.0) at.2

  pub after_some : (f : Grove A) (q r : ℕ) (result : Option ℕ) → IsAtSpot f q → (level_of_node f r ≡ level_of_node f q) × (place_of_node f r ≡ place_of_node f q + 1) × (place_of_node f r < length (spots_at (complete_levels f) (level_of_node f q)))
      → ((left right : List ℕ) → level_with f r ≡ left ++ r ∷ right → result ≡ first_in (kids_below (now_of f) (r ∷ right)))
      → (left right : List ℕ) → AreApart (level_with f q) → level_with f q ≡ left ++ q ∷ right → result ≡ first_in (kids_below (now_of f) right)
  after_some f q r result spot at told left right apart whole =
      let place : place_of_node f q ≡ length left = ap (index_in q) whole ∙ index_at left right q (subst AreApart whole apart) in
      let there = there_is f q r spot at.0 at.2 in
      let x = right_at left right q r (place_of_node f r) (omega (arith, at.1, place)) (subst (λ ks. slice_get ks (place_of_node f r) ≡ Some r) whole there) in
      told (left ++ q ∷ []) x.0 (level_same f q r at.0 ∙ whole ∙ ap (λ ks. left ++ q ∷ ks) x.1 ∙ sym (append_assoc left (q ∷ []) (r ∷ x.0))) ∙ ap (λ ks. first_in (kids_below (now_of f) ks)) (sym x.1)

  pub after_none : (f : Grove A) (q : ℕ) → IsAtSpot f q → place_of_node f q + 1 ≡ length (spots_at (complete_levels f) (level_of_node f q)) → (left right : List ℕ) → AreApart (level_with f q) → level_with f q ≡ left ++ q ∷ right → None ≡ first_in (kids_below (now_of f) right)
  after_none f q spot at left right apart whole =
      let place : place_of_node f q ≡ length left = ap (index_in q) whole ∙ index_at left right q (subst AreApart whole apart) in
      ap (λ ks. first_in (kids_below (now_of f) ks)) (sym (none_long right (omega (arith, place, at, level_long f q spot, ap length whole, long_around left right q))))
