-- What the entries of the table say of the parts, and how they link the free parts of each class.
use Rattle.std.specs.Prelude.{◌≡◌, ◌<◌, ◌≤◌, ◌-◌, ℕ, List, [], ◌∷◌, map, length, Option, Some, None, slice_get, slice_index_or, ◌⊎◌}
use Rattle.lsys_region.specs.declared.packed.PackedPart.{PackedPart}
use Rattle.lsys_region.specs.declared.packed.State.{State}
use Rattle.lsys_region.specs.declared.packed.State.TheVariants.{Taken, Free}
use Rattle.lsys_region.specs.Parts.{SizedPart}
use Rattle.lsys_region.specs.Rooms.{exponent_from}

-- an entry, with the size class of its part
pub record Classed : Type 0 where
  pub start : ℕ
  pub class : ℕ
  pub state : State

-- where the first of these parts begins; with no part, their end
abbrev pub begin_of : List PackedPart → ℕ → ℕ
begin_of [] end = end
begin_of (entry ∷ entries) end = entry.start

-- the exponent of a power of two
unfoldable pub exponent_of : ℕ → ℕ
exponent_of room = exponent_from room 0 room

-- the entries with their classes: each part ends where the next one begins, and the last one at the end
abbrev pub classed : List PackedPart → ℕ → List Classed
classed [] end = []
classed (entry ∷ entries) end =
    record { start = entry.start; class = exponent_of (begin_of entries end - entry.start); state = entry.state } ∷ classed entries end

abbrev pub filled_of : State → Option ℕ
filled_of (Taken length) = Some length
filled_of (Free next) = None

abbrev pub part_of : Classed → SizedPart
part_of entry = record { start = entry.start; class = entry.class; filled = filled_of entry.state }

-- the parts of these entries
abbrev pub sized_parts : List PackedPart → ℕ → List SizedPart
sized_parts entries end = map part_of (classed entries end)

-- the entry with this number is free, of this class, and names the next free one
abbrev pub IsFreeEntry : List Classed → ℕ → ℕ → Option ℕ → Type 0
IsFreeEntry entries class number next =
    (start : ℕ) × (slice_get entries number ≡ Some (record { start = start; class = class; state = Free next }))

abbrev pub IsMember : ℕ → List ℕ → Type 0
IsMember n [] = ⊥
IsMember n (m ∷ ms) = (n ≡ m) ⊎ IsMember n ms

-- the head is the entry with this number, which is free, of this class and not among the later ones
pub record HeadsChain (entries : List Classed) (class : ℕ) (head : Option ℕ) (number : ℕ) (next : Option ℕ) (later : List ℕ) : Type 0 where
  pub at_head : head ≡ Some number
  pub free : IsFreeEntry entries class number next
  pub once : IsMember number later → ⊥

-- from the head on, the free entries of this class are these, each once
abbrev pub Chain : List Classed → ℕ → Option ℕ → List ℕ → Type 0
Chain entries class head [] = head ≡ None
Chain entries class head (number ∷ later) =
    (next : Option ℕ) × HeadsChain entries class head number next later × Chain entries class next later

-- every free entry of this class is among these
abbrev pub HasAllFree : List Classed → ℕ → List ℕ → Type 0
HasAllFree entries class numbers = (number : ℕ) (next : Option ℕ) → IsFreeEntry entries class number next → IsMember number numbers

-- the free entries of the class are linked from this head
pub record IsLinked (entries : List Classed) (class : ℕ) (head : Option ℕ) : Type 0 where
  pub numbers : List ℕ
  pub chain : Chain entries class head numbers
  pub complete : HasAllFree entries class numbers

-- each entry is of one of the 64 classes, and the free entries of each class are linked from its head
pub record AreLinkedByClass (entries : List Classed) (heads : List (Option ℕ)) : Type 0 where
  pub many : length heads ≡ 64
  pub classes : (number : ℕ) (entry : Classed) → slice_get entries number ≡ Some entry → entry.class < 64
  pub linked : (class : ℕ) → class < 64 → IsLinked entries class (slice_index_or heads class None)

-- the free parts of each class are linked, and there are no more parts than places, of which so many can be told
pub record IsSoundTable (entries : List PackedPart) (heads : List (Option ℕ)) (end most : ℕ) : Type 0 where
  pub linked : AreLinkedByClass (classed entries end) heads
  pub few : length entries ≤ end
  pub below : end ≤ most
