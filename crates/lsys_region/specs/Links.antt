-- How the number of a part, or none, is kept in bits of which so many are numbers.
use Rattle.std.specs.Prelude.{◌≡◌, ◌≤◌, ℕ, Option, Some, None, cond, nat_lt, ltb}
use Rattle.std.proofs.Common.{refl, ap, arith}
use Rattle.std.proofs.lemmas.Bool.{cond_both, ltb-false}
use Rattle.lsys_region.specs.declared.packed.Link.TheInside.{Inside}
use Rattle.lsys_region.specs.Layout.{all_places}

-- the number that these bits are, if they are less than the bits of none
abbrev pub number_by_bits : ℕ → ℕ → Option ℕ
number_by_bits none bits = cond (nat_lt bits none) (Some bits) None

-- the bits of a number, or of none
abbrev pub bits_of : ℕ → Option ℕ → ℕ
bits_of none None = none
bits_of none (Some number) = number

-- no others are those of this number
pub bits_of-number_by_bits : (none bits : ℕ) → bits ≤ none → bits_of none (number_by_bits none bits) ≡ bits
bits_of-number_by_bits none bits small =
    cond_both (ltb bits none) (Some bits) None (λ number. bits_of none number ≡ bits) (λ below. refl) (λ above. omega (arith, ltb-false bits none above))

abbrev pub linked_number : Inside → Option ℕ
linked_number link = number_by_bits all_places link.0

abbrev pub IsLink : Inside → Type 0
IsLink link = link.0 ≤ all_places

abbrev pub link_to : Option ℕ → Inside
link_to number = record { 0 = bits_of all_places number }

-- a link is that to its number
pub link_kept : (link : Inside) → IsLink link → link_to (linked_number link) ≡ link
link_kept link small = let L : ℕ → Inside = λ n. record { 0 = n } in ap L (bits_of-number_by_bits all_places link.0 small)
