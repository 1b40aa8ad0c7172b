-- Which nodes of a level may have to be asked, by those that were found, and which of them are.
use Rattle.std.specs.Prelude.{◌↔◌, ℕ, List, Vec}
use Rattle.std.specs.declared.alloc.Global.{Global}
use Rattle.lsys_spec.specs.Rows.{In}
use Rattle.lsys_spec.specs.Systems.{System}
use Rattle.lsys_reads.specs.Relations.{Relations}
use Rattle.lsys_forest.specs.Groves.{Grove, now_of}
use Rattle.lsys_reads.specs.declared.seat.Seat.{Seat}
use Rattle.lsys_front.specs.Candidates.{AsksOn}
use Rattle.lsys_front.specs.Finds.{Gathers}
use Rattle.lsys_front.specs.Found.{IsFound}
use Rattle.lsys_front.specs.declared.asks.Found.{Found}
use Rattle.lsys_front.specs.Fronts.{Differences}
use Rattle.lsys_front.specs.Asks.{MayBeAsked}

-- those that came or turned, those that were found, and others
abbrev pub MayAsk : Differences → Found → List ℕ → ℕ → Type 0
MayAsk d found others k = MayBeAsked d found.beside.items found.readers.items others k

-- they were marked and added to a list
abbrev pub GathersAll : Differences → Found → List ℕ → List Seat → List Seat
    → Vec ℕ Global → Vec ℕ Global → Type 0
GathersAll d found others before after old new =
    Gathers (MayAsk d found others) before after old.items new.items

module _ {A : Type 0} where
  -- the nodes are those of them that have a question on level t of a system
  abbrev pub AreAsked : Differences → Found → List ℕ → System → ℕ → Grove A → Vec ℕ Global → Type 0
  AreAsked d found others s t f asked =
      (k : ℕ) → In k asked.items ↔ (AsksOn s t (now_of f) k × MayAsk d found others k)

  -- those that turned are found in the second front, by what differs in the first, and the others beside it
  abbrev pub FindsTurned : Grove A → List Seat → Relations → Differences → Differences → Found → Type 0
  FindsTurned f seats reads old new found =
      IsFound f seats reads old.changes new.turned found.beside.items found.readers.items
