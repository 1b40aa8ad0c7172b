-- Nodes that are still to be asked, and how many are gone.
use Rattle.std.specs.Prelude.{◌≡◌, ◌<◌, ◌≤◌, ◌+◌, ◌/◌, ℕ, Bool, true, false, List, [], Some, Vec, vec_capacity, length, take, drop, slice_get}
use Rattle.std.specs.declared.alloc.Global.{Global}
use Rattle.std.specs.List.{filter_map}
use Rattle.lsys_pass.specs.declared.queue.Slot.{Slot}

-- the nodes that weren't taken off, in order
abbrev pub those_left : List Slot → List ℕ
those_left slots = filter_map (λ (s : Slot). s.node) slots

-- the slot of a node, before which none is gone
abbrev pub fresh_slot : ℕ → Slot
fresh_slot node = record { node = Some node; gone = 0 }

-- the slot in the middle of a part knows how many before it are gone
abbrev pub KnowsGone : List Slot → Type 0
KnowsGone part =
    (s : Slot) → slice_get part (length part / 2) ≡ Some s
    → s.gone + length (those_left (take (length part / 2) part)) ≡ length part / 2

-- so it is in a part, and if it isn't empty, among those before its middle and among those after it
pub data AreCounted : List Slot → Type 0 where
  InHalves : {part : List Slot} → KnowsGone part
      → (0 < length part → AreCounted (take (length part / 2) part))
      → (0 < length part → AreCounted (drop (length part / 2 + 1) part))
      → AreCounted part

-- those that are left: all, as long as they have no slots
abbrev pub those_in : Bool → List ℕ → List Slot → List ℕ
those_in true nodes slots = nodes
those_in false nodes slots = those_left slots

-- there are no slots yet, and room for those of these nodes
pub record HasRoomForSlots (slots : Vec Slot Global) (nodes : List ℕ) : Type 0 where
  pub none : slots.items ≡ []
  pub room : length nodes ≤ vec_capacity slots

-- The nodes of a queue, or their slots, which has of those that are left the ones from a place on; and how many these are. And whether
-- the nodes have no slots.
pub record IsQueue (nodes : List ℕ) (slots : Vec Slot Global) (start end : ℕ) (whole : Bool) : Type 0 where
  pub counted : whole ≡ false → AreCounted slots.items
  pub size : end ≡ length (those_in whole nodes slots.items)
  pub within : start ≤ end
  pub room : whole ≡ true → HasRoomForSlots slots nodes
