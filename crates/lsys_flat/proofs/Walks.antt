-- A list that is gone through from left to right.
use Rattle.std.proofs.Common.{◌≡◌, ℕ, ◌+◌, ◌<◌, List, [], ◌∷◌, ◌++◌, length, map, get_or, refl, sym, ap, ◌∙◌, arith, append_assoc}
use Rattle.std.proofs.lemmas.List.{get_or_append_left, get_or_at, map-append, length-map, append-nil}

-- what is after, what is ahead, and how much that is
pub record Walk {A : Type 0} (all front rest : List A) (len : ℕ) : Type 0 where
  pub whole : front ++ rest ≡ all
  pub count : len ≡ length rest

pub begun_walk : {A : Type 0} (all rest : List A) (len : ℕ) → rest ≡ all → len ≡ length all → Walk all [] rest len
begun_walk all rest len e f = record { whole = e; count = f ∙ ap length (sym e) }

pub next_walk : {A : Type 0} (all front rest : List A) (len : ℕ) (x : A) (rest' : List A) (len' : ℕ) → Walk all front rest len → rest ≡ x ∷ rest' → len' + 1 ≡ len → Walk all (front ++ x ∷ []) rest' len'
next_walk all front rest len x rest' len' w e f = record {
  whole = append_assoc front (x ∷ []) rest' ∙ ap (λ r. front ++ r) (sym e) ∙ w.whole;
  count = let l : length rest ≡ length rest' + 1 = ap length e ∙ omega arith in omega (arith, f, l, w.count);
}

pub done_walk : {A : Type 0} (all front rest : List A) (len : ℕ) → Walk all front rest len → len ≡ 0 → front ≡ all
done_walk all front [] len w e = sym (append-nil front) ∙ w.whole
done_walk all front (x ∷ rest) len w e = absurd (omega (arith, e, w.count))

pub here_in : {A : Type 0} (all front rest : List A) (len : ℕ) (x : A) (rest' : List A) (d : A) → Walk all front rest len → rest ≡ x ∷ rest' → get_or all (length front) d ≡ x
here_in all front rest len x rest' d w e =
    ap (λ l. get_or l (length front) d) (sym w.whole) ∙ ap (λ r. get_or (front ++ r) (length front) d) e ∙ get_or_at front x rest' d (length front) refl

pub same_in : {A : Type 0} (all front rest : List A) (len : ℕ) (d : A) (p : ℕ) → Walk all front rest len → p < length front → get_or front p d ≡ get_or all p d
same_in all front rest len d p w h = sym (get_or_append_left front rest d p h) ∙ ap (λ l. get_or l p d) w.whole

pub map_walk : {A B : Type 0} (f : A → B) (all front rest : List A) (len : ℕ) → Walk all front rest len → Walk (map f all) (map f front) (map f rest) len
map_walk f all front rest len w = record {
  whole = sym (map-append f front rest) ∙ ap (map f) w.whole;
  count = w.count ∙ sym (length-map rest f);
}
