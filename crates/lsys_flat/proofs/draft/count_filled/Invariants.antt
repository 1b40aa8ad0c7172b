use Rattle.std.proofs.Common.{◌≡◌, ◌+◌, drop}
use Rattle.lsys_flat.specs.Slots.{filled_slots}
use Rattle.lsys_flat.proofs.draft.count_filled.Given as goal

abbrev pub invariant-loop-slot : goal.invariant-loop-slot
invariant-loop-slot g l = l.count + filled_slots (drop l.slot-index l.slots) ≡ filled_slots l.slots
