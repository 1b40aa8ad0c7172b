-- A place is within reach where its coordinates are.
use Rattle.std.proofs.Common.{◌≡◌, ◌≤◌, ℤ, Bool, true, false, Some, None, refl, sym, nat_lt, if◌then◌else◌, ◌||◌, unsigned_abs, arith}
use Rattle.std.proofs.lemmas.Bool.Decides.{nat_tests}
use Rattle.lsys_syntax.specs.Limits.{greatest_coordinate}
use Rattle.lsys_spec.specs.Lattices.{Vector, IsWithin}
use Rattle.lsys_spec.specs.Pictures.{is_far}
use Rattle.lsys_turtle.specs.Ways.{in_reach, place_in_reach, vector_from}

pub all_in_reach : (v : Vector) → vector_from (in_reach v.x) (in_reach v.y) (in_reach v.z) ≡ place_in_reach v
all_in_reach v =
    by (nat_lt greatest_coordinate (unsigned_abs v.x)) (nat_lt greatest_coordinate (unsigned_abs v.y)) (nat_lt greatest_coordinate (unsigned_abs v.z))
  where
    by : (a b c : Bool)
        → vector_from (if a then None else Some v.x) (if b then None else Some v.y) (if c then None else Some v.z) ≡ (if a || (b || c) then None else Some v)
    by true b c = refl
    by false true c = refl
    by false false true = refl
    by false false false = refl

-- what a place within reach tells
pub near : (v w : Vector) → place_in_reach v ≡ Some w → (is_far v ≡ false) × (w ≡ v)
near v w found = by (is_far v) found
  where
    by : (b : Bool) → (if b then None else Some v) ≡ Some w → (b ≡ false) × (w ≡ v)
    by true e = cc
    by false e = (refl, cc)

pub within : (v : Vector) → is_far v ≡ false → IsWithin greatest_coordinate v
within v e = record { x = grind (arith, nat_tests); y = grind (arith, nat_tests); z = grind (arith, nat_tests) }

pub near_within : (v w : Vector) → place_in_reach v ≡ Some w → IsWithin greatest_coordinate w
near_within v w found = let told = near v w found in rw told.1 (within v told.0)
