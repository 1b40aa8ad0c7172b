-- What a contract sees of a region and of a run.
use Rattle.std.specs.Prelude.{◌≡◌, ◌≢◌, ℕ, ◌+◌, List, [], Option, Some, None, IsSome, is_none, count_by, slice_get, option_and_then, Bool, ◌&&◌, ◌==◌, refl}
use Rattle.lsys_region.specs.Rooms.{list_room}
use Rattle.std.specs.Coded.{Coded, code_by, coded×, coded_ℕ, coded_list, coded_option}

-- a part of the region's vector: its room, and the list of its run while that run is live
pub record Slot (T : Type 0) : Type 0 where
  pub room : ℕ
  pub list : Option (List T)

-- the slots, which runs name by their numbers; the length of the vector; and how much room is left for lists
pub record Pool (T : Type 0) : Type 0 where
  pub slots : List (Slot T)
  pub size : ℕ
  pub spare : ℕ

-- a region with no runs and no spare
abbrev pub empty_pool : {T : Type 0} → Pool T
empty_pool = record { slots = []; size = 0; spare = 0 }

module _ {T : Type 0} where
  -- the list of the run with this number, while it is live
  abbrev pub list_at : Pool T → ℕ → Option (List T)
  list_at pool number = option_and_then (λ slot. slot.list) (slice_get pool.slots number)

  -- the finite map from live runs to their lists; the empty list's run has no number, and stands in every region
  abbrev pub list_of : Pool T → Option ℕ → Option (List T)
  list_of pool None = Some []
  list_of pool (Some number) = list_at pool number

  abbrev pub IsLiveRun : Pool T → Option ℕ → Type 0
  IsLiveRun pool run = IsSome (list_of pool run)

  -- the run is the empty list's, or one that was not live
  abbrev pub IsFresh : Pool T → Option ℕ → List T → Type 0
  IsFresh pool None list = list ≡ []
  IsFresh pool (Some number) list = (list ≢ []) × (list_at pool number ≡ None)

  -- every other run stays live or not, with its list
  abbrev pub OthersStay : Pool T → Pool T → Option ℕ → Type 0
  OthersStay old new run = (other : Option ℕ) → other ≢ run → list_of new other ≡ list_of old other

  abbrev pub is_free_of : ℕ → Slot T → Bool
  is_free_of room slot = is_none slot.list && (slot.room == room)

  -- how many slots of this room have no live run
  abbrev pub free_runs : Pool T → ℕ → ℕ
  free_runs pool room = count_by (is_free_of room) pool.slots

  -- how many free runs have the room of this list
  abbrev pub free_for : Pool T → List T → ℕ
  free_for pool list = free_runs pool (list_room list)

  -- as many free runs of each room that is not this list's
  abbrev pub OtherRoomsStay : Pool T → Pool T → List T → Type 0
  OtherRoomsStay old new list = (room : ℕ) → room ≢ list_room list → free_runs new room ≡ free_runs old room

  -- a free run with the room of this list was taken: the vector and the spare stay
  pub record Reuses (old new : Pool T) (list : List T) : Type 0 where
    pub taken : free_for new list + 1 ≡ free_for old list
    pub size : new.size ≡ old.size
    pub spare : new.spare ≡ old.spare

  -- the vector grew by the room of this list, out of the spare
  pub record Grows (old new : Pool T) (list : List T) : Type 0 where
    pub none_free : free_for new list ≡ 0
    pub size : new.size ≡ old.size + list_room list
    pub spare : new.spare + list_room list ≡ old.spare

  -- one run more with the room of this list is free, if the list has room, and as many of each other room
  pub record GivesBack (old new : Pool T) (list : List T) : Type 0 where
    pub given : list ≢ [] → free_for new list ≡ free_for old list + 1
    pub others : OtherRoomsStay old new list

  -- of the list of a live run room was given back
  abbrev pub GivesBackRun : Option ℕ → Pool T → Pool T → Type 0
  GivesBackRun run old new = (list : List T) → list_of old run ≡ Some list → GivesBack old new list

-- how a slot and a pool are stored
abbrev pub slot_code : {T : Type 0} → Coded T → Coded (Slot T)
slot_code {T} code =
    code_by
    (ℕ × Option (List T))
    (coded× coded_ℕ (coded_option (coded_list code)))
    (λ s. (s.room, s.list))
    (λ p. record { room = p.0; list = p.1 })
    (λ _. refl)

abbrev pub pool_code : {T : Type 0} → Coded T → Coded (Pool T)
pool_code {T} code =
    code_by
    (List (Slot T) × (ℕ × ℕ))
    (coded× (coded_list (slot_code code)) (coded× coded_ℕ coded_ℕ))
    (λ s. (s.slots, (s.size, s.spare)))
    (λ p. record { slots = p.0; size = p.1.0; spare = p.1.1 })
    (λ _. refl)
