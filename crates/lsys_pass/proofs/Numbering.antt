-- The number of a module, counted along its level to the left end.
use Rattle.std.proofs.Common.{◌≡◌, ◌≤◌, ◌<◌, ℕ, zero, suc, ◌+◌, List, [], ◌∷◌, length, Option, Some, None, slice_get, ap, sym, ◌∙◌, arith}
use Rattle.std.specs.Prelude.{MatchOption, option_map}
use Rattle.std.proofs.lemmas.Option.{same_Some, none-some}
use Rattle.lsys_level.specs.Spots.{Seen, Spotted}
use Rattle.lsys_pass.specs.Leftmost.{is_one, modules_before}

-- the symbol at a place comes to those before it
pub before_next : (xs : List Spotted) (p : ℕ) (seen : Seen) → option_map (λ s. s.seen) (slice_get xs p) ≡ Some seen
    → modules_before xs (suc p) ≡ is_one seen + modules_before xs p
before_next [] p seen h = absurd (none-some seen h)
before_next (x ∷ xs) zero seen h = ap (λ s. is_one s + 0) (same_Some x.seen seen h)
before_next (x ∷ xs) (suc p) seen h = let e = before_next xs p seen h in omega (arith, e)

module _ {Spot : Type 0} (level_of place_of : Spot → ℕ) (xs : List Spotted) (t place : ℕ) where
  -- So much was counted after the spot that comes next, and up to the place; after the left end all was.
  abbrev pub Counting : Option Spot → ℕ → Type 0
  Counting None number = number ≡ modules_before xs place + 1
  Counting (Some s) number =
      (level_of s ≡ t) × (place_of s < length xs) × (number + place_of s ≤ place)
      × (number + modules_before xs (suc (place_of s)) ≡ modules_before xs place + 1)

  abbrev pub left_over : Option Spot → ℕ
  left_over None = 0
  left_over (Some s) = suc (place_of s)

  -- what is to the left of a spot
  abbrev pub IsLeftOf : ℕ → Option Spot → Type 0
  IsLeftOf p o = MatchOption o (p ≡ 0) (λ s. (level_of s ≡ t) × (place_of s + 1 ≡ p))

  pub begins : place < length xs → (o : Option Spot) → IsLeftOf place o → Counting o 1
  begins h None e = sym (ap (λ p. modules_before xs p + 1) e)
  begins h (Some s) e =
      let e1 : suc (place_of s) ≡ place = omega (arith, e.1) in
      (e.0, omega (arith, e.1, h), omega (arith, e.1), ap (λ p. 1 + modules_before xs p) e1 ∙ omega arith)

  pub goes_on : (s : Spot) (number one : ℕ) (seen : Seen) (o : Option Spot) → Counting (Some s) number
      → option_map (λ s. s.seen) (slice_get xs (place_of s)) ≡ Some seen → one ≡ is_one seen → one ≤ 1
      → IsLeftOf (place_of s) o → Counting o (number + one)
  goes_on s number one seen None c h e few l =
      let b = before_next xs (place_of s) seen h in
      let z : modules_before xs (place_of s) ≡ 0 = ap (modules_before xs) l in
      omega (arith, c.3, b, z, e)
  goes_on s number one seen (Some r) c h e few l =
      let b = before_next xs (place_of s) seen h in
      let e1 : suc (place_of r) ≡ place_of s = omega (arith, l.1) in
      let z : modules_before xs (suc (place_of r)) ≡ modules_before xs (place_of s) = ap (modules_before xs) e1 in
      (l.0, omega (arith, l.1, c.1), omega (arith, l.1, c.2, few), omega (arith, c.3, b, z, e))
