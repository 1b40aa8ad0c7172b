-- The room of a list is the least power of two that it fits in.
use Rattle.std.proofs.Common.{◌≡◌, ℕ, zero, suc, ◌+◌, ◌*◌, ◌^◌, ◌<◌, ◌≤◌, Bool, true, false, leb, inl, inr, refl, sym, arith, add-zero, zero-add}
use Rattle.std.proofs.lemmas.Bool.{leb-true, leb-false, cases_lt, cases_order}
use Rattle.std.proofs.lemmas.Nat.{pow_pos, pow_below}
use Rattle.std.proofs.Math.Nat.{pow-suc}
use Rattle.std.proofs.Math.Pow.{pow_mono}
use Rattle.lsys_region.specs.Rooms.{exponent_from, room_of, IsLeastPower}

-- a list fits in this power of two, and in none below it from `from` on
pub record IsFirstPower (from len exponent : ℕ) : Type 0 where
  pub from_on : from ≤ exponent
  pub fits : len ≤ 2 ^ exponent
  pub below : (k : ℕ) → from ≤ k → k < exponent → 2 ^ k < len

first_step : (tries from len : ℕ) (fit : Bool) → leb len (2 ^ from) ≡ fit → (len ≤ 2 ^ (from + 1 + tries) → IsFirstPower (from + 1) len (exponent_from tries (from + 1) len)) → len ≤ 2 ^ (from + suc tries) → IsFirstPower from len (elim fit [ true ↦ from | false ↦ exponent_from tries (from + 1) len ])
first_step tries from len true fit rest bound =
    record { from_on = omega arith; fits = leb-true len (2 ^ from) fit; below = λ k low high. absurd (omega arith) }
first_step tries from len false fit rest bound =
    let same : from + 1 + tries ≡ from + suc tries = omega arith in
    let found = rest (rw same bound) in
    record {
      from_on = omega (arith, found.from_on);
      fits = found.fits;
      below = λ k low high. elim (cases_lt from k) [
        | inl above ↦ found.below k (omega arith) high
        | inr at ↦ (let here : k ≡ from = omega arith in rw here (leb-false len (2 ^ from) fit))
      ];
    }

pub exponent_from_first : (tries from len : ℕ) → len ≤ 2 ^ (from + tries) → IsFirstPower from len (exponent_from tries from len)
exponent_from_first zero from len bound =
    record { from_on = omega arith; fits = rw add-zero at bound; below = λ k low high. absurd (omega arith) }
exponent_from_first (suc tries) from len bound =
    first_step tries from len (leb len (2 ^ from)) refl (exponent_from_first tries (from + 1) len) bound

pub below_pow : (n : ℕ) → n < 2 ^ n
below_pow zero = omega (arith, pow_pos 0)
below_pow (suc n) = omega (arith, below_pow n, pow_below n (suc n) (omega arith))

-- what is the first is the least
pub least_from_first : (len exponent : ℕ) → IsFirstPower 0 len exponent → IsLeastPower len (2 ^ exponent)
least_from_first len exponent first = record {
  power = (exponent, refl);
  fits = first.fits;
  least = λ k enough. elim (cases_lt k exponent) [
    | inl below ↦ absurd (omega (arith, first.below k (omega arith) below))
    | inr above ↦ pow_mono {i = exponent} {j = k} above
  ];
}

pub room_of_least : (len : ℕ) → 0 < len → IsLeastPower len (room_of len)
unfolding room_of
room_of_least zero positive = absurd (omega arith)
room_of_least (suc n) positive =
    least_from_first (suc n) _ (exponent_from_first n 0 (suc n) (rw (zero-add n) (omega (arith, below_pow n))))

-- there is one least power
pub same_least : (len room other : ℕ) → IsLeastPower len room → IsLeastPower len other → room ≡ other
same_least len room other one two =
    let low : room ≤ other = rw two.power.1 (one.least two.power.0 (rw (sym two.power.1) two.fits)) in
    let high : other ≤ room = rw one.power.1 (two.least one.power.0 (rw (sym one.power.1) one.fits)) in
    omega arith

pub same_exponent : (m n : ℕ) → 2 ^ m ≡ 2 ^ n → m ≡ n
same_exponent m n same =
    elim (cases_order m n) [
      | inl equal ↦ equal
      | inr apart ↦ elim apart [
        | inl below ↦ absurd (omega (arith, pow_below m n below))
        | inr above ↦ absurd (omega (arith, pow_below n m above))
      ]
    ]

-- a list fits in its room
pub room_fits : (len : ℕ) → len ≤ room_of len
room_fits zero = omega arith
room_fits (suc n) = (room_of_least (suc n) (omega arith)).fits

-- a list whose room is a power of two is not empty
pub room_filled : (len exponent : ℕ) → room_of len ≡ 2 ^ exponent → 0 < len
unfolding room_of
room_filled zero exponent roomy = omega (arith, pow_pos exponent)
room_filled (suc n) exponent roomy = omega arith

-- a list whose room is below 2 ^ 64 is no longer than 2 ^ 63
pub room_bounds : (len : ℕ) → room_of len < 2 ^ 64 → len ≤ 2 ^ 63
room_bounds zero small = omega arith
room_bounds (suc n) small =
    let least = room_of_least (suc n) (omega arith) in
    let exponent = least.power.0 in
    elim (cases_lt exponent 64) [
      | inl below ↦ (
          let low : exponent ≤ 63 = omega arith in
          let top : 2 ^ exponent ≤ 2 ^ 63 = pow_mono {i = exponent} {j = 63} low in
          omega (arith, least.fits, least.power.1, top)
          )
      | inr above ↦ absurd (let top : 2 ^ 64 ≤ 2 ^ exponent = pow_mono {i = 64} {j = exponent} above in omega (arith, least.power.1, top))
    ]

below_double : (len room exponent : ℕ) → 0 < len → room ≡ 2 ^ exponent → ((k : ℕ) → len ≤ 2 ^ k → room ≤ 2 ^ k) → room < 2 * len
below_double len room zero positive power least = omega arith
below_double len room (suc k) positive power least =
    elim (cases_lt (2 ^ k) len) [
      | inl above ↦ omega (arith, pow-suc 2 k)
      | inr fits ↦ absurd (omega (arith, least k fits, pow-suc 2 k, pow_pos k))
    ]

-- more than half of the room is filled
pub room_below_double : (len : ℕ) → 0 < len → room_of len < 2 * len
room_below_double len positive =
    let least = room_of_least len positive in
    below_double len (room_of len) least.power.0 positive least.power.1 least.least
