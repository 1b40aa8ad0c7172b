-- How much of a region a list takes.
use Rattle.std.specs.Prelude.{◌≡◌, ◌<◌, ℕ, zero, suc, ◌+◌, ◌^◌, ◌≤◌, true, false, nat_le, List, length}

-- the first exponent, from this one on, whose power of two is not less than the length; at most so many are passed over
abbrev pub exponent_from : ℕ → ℕ → ℕ → ℕ
exponent_from zero from len = from
exponent_from (suc tries) from len = elim (nat_le len (2 ^ from)) [ true ↦ from | false ↦ exponent_from tries (from + 1) len ]

-- the room of a list of this length: a power of two, and 0 for the empty list
unfoldable pub room_of : ℕ → ℕ
room_of zero = 0
room_of (suc n) = 2 ^ exponent_from n 0 (suc n)

-- the room of a list
abbrev pub list_room : {T : Type 0} → List T → ℕ
list_room list = room_of (length list)

-- two lists with one room, which is not 0
abbrev pub HaveOneRoom : {T : Type 0} → List T → List T → Type 0
HaveOneRoom one two = (0 < list_room one) × (list_room one ≡ list_room two)

-- the room is a power of two, the list fits in it, and it fits in no smaller power of two
pub record IsLeastPower (len room : ℕ) : Type 0 where
  pub power : (exponent : ℕ) × (room ≡ 2 ^ exponent)
  pub fits : len ≤ room
  pub least : (exponent : ℕ) → len ≤ 2 ^ exponent → room ≤ 2 ^ exponent
