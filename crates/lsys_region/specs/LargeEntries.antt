-- How an entry is kept whose numbers may be large.
use Rattle.std.specs.Prelude.{◌≡◌, ◌≤◌, ℕ, Bool, true, false, cond}
use Rattle.std.proofs.Common.{refl, ap}
use Rattle.lsys_region.specs.declared.packed.LargeEntry.TheInside.{Inside}
use Rattle.lsys_region.specs.declared.packed.PackedPart.{PackedPart}
use Rattle.lsys_region.specs.declared.packed.State.{State}
use Rattle.lsys_region.specs.declared.packed.State.TheVariants.{Taken, Free}
use Rattle.lsys_region.specs.Layout.{all_places}
use Rattle.lsys_region.specs.Links.{number_by_bits, bits_of, bits_of-number_by_bits}

-- the state that these bits are
abbrev pub large_state : Bool → ℕ → State
large_state is_free bits = cond is_free (Free (number_by_bits all_places bits)) (Taken bits)

abbrev pub large_entry : Inside → PackedPart
large_entry e = record { start = e.start; state = large_state e.is_free e.bits }

abbrev pub IsLargeEntry : Inside → Type 0
IsLargeEntry e = e.bits ≤ all_places

abbrev pub large_of : ℕ → State → Inside
large_of start (Taken len) = record { start = start; is_free = false; bits = len }
large_of start (Free next) = record { start = start; is_free = true; bits = bits_of all_places next }

abbrev pub as_large : PackedPart → Inside
as_large e = large_of e.start e.state

kept_by : (start : ℕ) (is_free : Bool) (bits : ℕ) → bits ≤ all_places → large_of start (large_state is_free bits) ≡ record { start = start; is_free = is_free; bits = bits }
kept_by start false bits small = refl
kept_by start true bits small = let L : ℕ → Inside = λ n. record { start = start; is_free = true; bits = n } in ap L (bits_of-number_by_bits all_places bits small)

-- an entry is kept as it is
pub large_kept : (e : Inside) → IsLargeEntry e → as_large (large_entry e) ≡ e
large_kept e small = kept_by e.start e.is_free e.bits small
