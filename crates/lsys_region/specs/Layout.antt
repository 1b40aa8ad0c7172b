-- How the slots of a region lie in its vector.
use Rattle.std.specs.Prelude.{◌≡◌, ◌<◌, ◌≤◌, ◌+◌, ◌^◌, ℕ, List, length, Some, slice_get, slice_range, take, drop, option_map, ◌++◌}
use Rattle.lsys_region.specs.Parts.{SizedPart}
use Rattle.lsys_region.specs.Pool.{Slot}
use Rattle.lsys_region.specs.Rooms.{room_of}

-- what stands in a part of the vector
abbrev pub slot_of : {T : Type 0} → List T → SizedPart → Slot T
slot_of cells part = record {
  room = 2 ^ part.class;
  list = option_map (λ len. slice_range cells part.start (part.start + len)) part.filled;
}

-- the vector after the list was written over its places from `start` on
pub record IsWritten {T : Type 0} (old new : List T) (start : ℕ) (list : List T) : Type 0 where
  pub size : length new ≡ length old
  pub written : slice_range new start (start + length list) ≡ list
  pub before : take start new ≡ take start old
  pub after : drop (start + length list) new ≡ drop (start + length list) old

-- the vector after the list was written at its end, and its room filled up
pub record IsAppended {T : Type 0} (old new list : List T) (room : ℕ) : Type 0 where
  pub filling : List T
  pub items : new ≡ old ++ list ++ filling
  pub filled : length list + length filling ≡ room

-- each list has the room of its part
abbrev pub HaveRooms : List SizedPart → Type 0
HaveRooms parts = (n : ℕ) (part : SizedPart) (len : ℕ) → slice_get parts n ≡ Some part → part.filled ≡ Some len → room_of len ≡ 2 ^ part.class

-- the parts lie within so many places, in order and apart, and each list has the room of its part
pub record LieApart (parts : List SizedPart) (size : ℕ) : Type 0 where
  pub inside : (n : ℕ) (part : SizedPart) → slice_get parts n ≡ Some part → part.start + 2 ^ part.class ≤ size
  pub apart : (m n : ℕ) (first second : SizedPart) → m < n → slice_get parts m ≡ Some first → slice_get parts n ≡ Some second → first.start + 2 ^ first.class ≤ second.start
  pub roomy : HaveRooms parts

-- of how many places small entries tell: a number of a part and the length of a list take 31 bits
abbrev pub small_places : ℕ
small_places = 0x7FFF_FFFF

-- and large ones: as many as a vector has at most
abbrev pub all_places : ℕ
all_places = 0xFFFF_FFFF_FFFF_FFFF

-- the slots are apart, the last one ends where the vector does, there is capacity for the spare, and entries can tell of it
pub record IsSoundLayout (parts : List SizedPart) (size spare places numbers end most : ℕ) : Type 0 where
  pub lie : LieApart parts size
  pub places_left : size + spare ≤ places
  pub numbers_left : length parts + spare ≤ numbers
  pub told : size + spare ≤ most
  pub ends : end ≡ size
