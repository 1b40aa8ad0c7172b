-- How the state of a part is kept in 32 bits: below 2 ^ 31 the length of its list, and from there on the next free part.
use Rattle.std.specs.Prelude.{◌≡◌, ◌≤◌, ◌+◌, ◌-◌, ℕ, cond, nat_lt, ltb}
use Rattle.std.proofs.Common.{refl, ap, arith}
use Rattle.std.proofs.lemmas.Bool.{cond_both, ltb-false}
use Rattle.lsys_region.specs.declared.packed.PackedState.TheInside.{Inside}
use Rattle.lsys_region.specs.declared.packed.State.{State}
use Rattle.lsys_region.specs.declared.packed.State.TheVariants.{Taken, Free}
use Rattle.lsys_region.specs.Layout.{small_places}
use Rattle.lsys_region.specs.Links.{number_by_bits, bits_of, bits_of-number_by_bits}

-- from here on the bits are those of a free part
abbrev pub free_from : ℕ
free_from = 0x8000_0000

-- the state that these bits are
abbrev pub state_of : ℕ → State
state_of bits = cond (nat_lt bits free_from) (Taken bits) (Free (number_by_bits small_places (bits - free_from)))

-- the bits of a state
abbrev pub bits_of_state : State → ℕ
bits_of_state (Taken len) = len
bits_of_state (Free next) = free_from + bits_of small_places next

-- no others are those of this state
pub bits_of_state-state_of : (bits : ℕ) → bits ≤ 0xFFFF_FFFF → bits_of_state (state_of bits) ≡ bits
bits_of_state-state_of bits small =
    cond_both (ltb bits free_from) (Taken bits) (Free (number_by_bits small_places (bits - free_from))) (λ state. bits_of_state state ≡ bits) (λ below. refl) (λ above. omega (arith, ltb-false bits free_from above, bits_of-number_by_bits small_places (bits - free_from) (omega arith)))

abbrev pub state_in : Inside → State
state_in packed = state_of packed.0

abbrev pub IsPackedState : Inside → Type 0
IsPackedState packed = packed.0 ≤ 0xFFFF_FFFF

abbrev pub packed_as : State → Inside
packed_as state = record { 0 = bits_of_state state }

-- a state is kept as it is
pub state_kept : (packed : Inside) → IsPackedState packed → packed_as (state_in packed) ≡ packed
state_kept packed small = let P : ℕ → Inside = λ n. record { 0 = n } in ap P (bits_of_state-state_of packed.0 small)
