-- A walk over a level.
use Rattle.std.proofs.Common.{◌≡◌, ℕ, List, ◌+◌, ◌-◌, ◌<◌, length, Option, Some, None}
use Rattle.lsys_level.specs.Spots.{Spotted, spots_at}

-- the spot is one of this level, if there is one
abbrev pub IsAt : {S : Type 0} → List (List Spotted) → (S → ℕ) → (S → ℕ) → ℕ → Option S → Type 0
IsAt levels level_of place_of t None = Unit {0}
IsAt levels level_of place_of t (Some s) = (level_of s ≡ t) × (place_of s < length (spots_at levels t))

-- how many spots are still to be read on the way to the right
abbrev pub to_right : {S : Type 0} → (S → ℕ) → ℕ → Option S → ℕ
to_right place_of n None = 0
to_right place_of n (Some s) = n - place_of s

-- and on the way to the left
abbrev pub to_left : {S : Type 0} → (S → ℕ) → Option S → ℕ
to_left place_of None = 0
to_left place_of (Some s) = place_of s + 1
