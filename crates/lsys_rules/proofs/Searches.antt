-- Searches, by the words of the definitions.
use Rattle.std.proofs.Common.{◌≡◌, ℕ, zero, suc, ◌+◌, ◌<◌, Bool, true, false, cond, ◌||◌, List, [], ◌∷◌, Option, Some, None, length, drop, get_or, nat_lt, refl, ap, sym, ◌∙◌, arith, if◌then◌else◌}
use Rattle.std.specs.List.{position, position_from, position_or_len}
use Rattle.std.proofs.lemmas.Iterator.Adapters.{position_from-zero}
use Rattle.lsys_spec.specs.Systems.{any}
use Rattle.lsys_spec.specs.Edits.{first_place}

from-place : {A : Type 0} (p : A → Bool) (n : ℕ) (xs : List A) → position_from p n xs ≡ first_place p n xs
from-place p n [] = refl
from-place p n (x ∷ xs) = by (p x) (from-place p (n + 1) xs)
  where
    by : (b : Bool) → position_from p (n + 1) xs ≡ first_place p (n + 1) xs → cond b (Some n) (position_from p (n + 1) xs) ≡ (if b then Some n else first_place p (n + 1) xs)
    by true e = refl
    by false e = e

-- a place, counted from n instead
abbrev pub counted_on : ℕ → Option ℕ → Option ℕ
counted_on n None = None
counted_on n (Some i) = Some (i + n)

counted : {A : Type 0} (p : A → Bool) (m n : ℕ) (xs : List A) → counted_on n (first_place p m xs) ≡ first_place p (m + n) xs
counted p m n [] = refl
counted p m n (x ∷ xs) = by (p x) (counted p (m + 1) n xs ∙ ap (λ k. first_place p k xs) (let e : m + 1 + n ≡ m + n + 1 = omega arith in e))
  where
    by : (b : Bool) → counted_on n (first_place p (m + 1) xs) ≡ first_place p (m + n + 1) xs → counted_on n (if b then Some m else first_place p (m + 1) xs) ≡ (if b then Some (m + n) else first_place p (m + n + 1) xs)
    by true e = refl
    by false e = e

-- std's search is the definitions' one, counted from n
pub place-from : {A : Type 0} (p : A → Bool) (n : ℕ) (xs : List A) → counted_on n (position p xs) ≡ first_place p n xs
place-from p n xs = ap (counted_on n) (by_length ∙ position_from-zero p xs ∙ from-place p 0 xs) ∙ counted p 0 n xs ∙ ap (λ k. first_place p k xs) (let e : 0 + n ≡ n = omega arith in e)
  where
    by_length : position p xs ≡ cond (nat_lt (position_or_len p xs) (length xs)) (Some (position_or_len p xs)) None
    by_length = refl

-- an element, and those after it
pub any_at : {A : Type 0} (p : A → Bool) (xs : List A) (i : ℕ) (d : A) → i < length xs → d ≡ get_or xs i d → any p (drop i xs) ≡ (p d || any p (drop (i + 1) xs))
any_at p [] i d h e = absurd (omega (arith, h))
any_at p (x ∷ xs) zero d h e = ap (λ y. p y || any p xs) (sym e)
any_at p (x ∷ xs) (suc i) d h e =
    let next : suc (i + 1) ≡ suc i + 1 = omega arith in
    any_at p xs i d (omega (arith, h)) e ∙ ap (λ n. p d || any p (drop n (x ∷ xs))) next
