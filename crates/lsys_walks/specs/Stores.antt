-- What is kept of answers.
use Rattle.std.specs.Prelude.{◌≡◌, ℤ, ◌≤◌, ◌<◌, ◌+◌, List, Some, None, IfSome}
use Rattle.lsys_region.specs.Pool.{Pool, list_at, list_of, IsLiveRun, IsFresh, OthersStay, OtherRoomsStay, free_for, Reuses, Grows, GivesBack}
use Rattle.lsys_region.specs.Rooms.{list_room}
use Rattle.lsys_walks.specs.declared.entry.Entry.{Entry}
use Rattle.lsys_walks.specs.declared.store.TraceRuns.{TraceRuns}

-- the entries of traces, and the parameters of the modules that were read
pub record Store : Type 0 where
  pub traces : Pool Entry
  pub values : Pool ℤ

-- every run stays, and there is no less room
pub record StaysWithRoom {T : Type 0} (old new : Pool T) : Type 0 where
  pub runs : new.slots ≡ old.slots
  pub size : new.size ≡ old.size
  pub room : old.spare ≤ new.spare

-- both runs are live, and have these lists
abbrev pub HoldsTrace : Store → TraceRuns → List Entry → List ℤ → Type 0
HoldsTrace s r entries values = (list_of s.traces r.entries ≡ Some entries) × (list_of s.values r.values ≡ Some values)

abbrev pub AreLive : Store → TraceRuns → Type 0
AreLive s r = IsLiveRun s.traces r.entries × IsLiveRun s.values r.values

-- neither was live, but for the run of an empty list, which is live in every store
abbrev pub AreFresh : Store → TraceRuns → List Entry → List ℤ → Type 0
AreFresh s r entries values = IsFresh s.traces r.entries entries × IsFresh s.values r.values values

-- every other run stays live or not, with its list
abbrev pub OtherTracesStay : Store → Store → TraceRuns → Type 0
OtherTracesStay old new r = OthersStay old.traces new.traces r.entries × OthersStay old.values new.values r.values

-- A free run with the room of this list is used again, where there is one; else there is so much less room.
pub record TakesRoom {T : Type 0} (old new : Pool T) (list : List T) : Type 0 where
  pub spare : old.spare ≤ new.spare + list_room list
  pub reuses : 0 < free_for old list → Reuses old new list
  pub grows : free_for old list ≡ 0 → Grows old new list
  pub others : OtherRoomsStay old new list

-- neither is live; the run of an empty list has no number
abbrev pub AreGone : Store → TraceRuns → Type 0
AreGone s r = IfSome r.entries (λ n. list_at s.traces n ≡ None) × IfSome r.values (λ n. list_at s.values n ≡ None)

pub record StaysAsLarge {T : Type 0} (old new : Pool T) : Type 0 where
  pub size : new.size ≡ old.size
  pub spare : new.spare ≡ old.spare

-- one run more with the room of each list is free
abbrev pub GivesBackRoom : Store → Store → TraceRuns → Type 0
GivesBackRoom old new r =
    ((entries : List Entry) → list_of old.traces r.entries ≡ Some entries → GivesBack old.traces new.traces entries)
    × ((values : List ℤ) → list_of old.values r.values ≡ Some values → GivesBack old.values new.values values)
