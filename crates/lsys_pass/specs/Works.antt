-- The lists of a pass.
use Rattle.std.specs.Prelude.{◌≡◌, ◌<◌, ◌++◌, ℕ, List, [], vec_len, vec_capacity}
use Rattle.lsys_rewrite.specs.declared.refusal.FaultKind.{FaultKind}
use Rattle.lsys_reads.specs.Relations.{Relations}
use Rattle.lsys_forest.specs.Groves.{Grove, now_of}
use Rattle.lsys_reads.specs.declared.seat.Seat.{Seat}
use Rattle.lsys_front.specs.Found.{IsFound}
use Rattle.lsys_front.specs.declared.asks.Found.{Found}
use Rattle.lsys_front.specs.Ends.{answered_in}
use Rattle.lsys_front.specs.Fronts.{no_differences}
use Rattle.lsys_pass.specs.declared.fault.Faulted.{Faulted}
use Rattle.lsys_pass.specs.declared.work.Work.{Work}

-- there is room for what a node may get
pub record HasRoom (w : Work) : Type 0 where
  pub faults : vec_len w.faults < vec_capacity w.faults
  pub renewed : vec_len w.renewed < vec_capacity w.renewed

-- the other lists stay, and what differs on the level
pub record OtherListsStay (old new : Work) : Type 0 where
  pub pending : new.pending ≡ old.pending
  pub first_renewed : new.first_renewed ≡ old.first_renewed
  pub dropped : new.dropped ≡ old.dropped
  pub moved : new.moved ≡ old.moved
  pub front : new.front ≡ old.front

-- nothing is worked on
pub record IsCleared (w : Work) : Type 0 where
  pub pending : w.pending ≡ []
  pub faults : w.faults.items ≡ []
  pub renewed : w.renewed.items ≡ []
  pub born : w.born ≡ 0
  pub first_renewed : w.first_renewed ≡ 0
  pub dropped : w.dropped.items ≡ []
  pub moved : w.moved.items ≡ []
  pub front : w.front ≡ no_differences

-- a node with its fault
abbrev pub faulted : ℕ → FaultKind → Faulted
faulted node kind = record { node = node; kind = kind }

-- the nodes that turned are found, and who else may have another question
abbrev pub IsFoundBy : {A : Type 0} → Grove A → List Seat → Relations → Work → Work → Found → Type 0
IsFoundBy f seats reads old new found =
    IsFound f seats reads old.front.changes new.front.turned found.beside.items found.readers.items

-- those that are gone from the level and keep an answer are dropped
abbrev pub DropsGone : {A : Type 0} → Grove A → Work → Work → Type 0
DropsGone f old new =
    new.dropped.items ≡ old.dropped.items ++ answered_in (now_of f) old.front.changes.gone

-- those that came moved, and those that turned
abbrev pub MovesTurned : Work → Work → Type 0
MovesTurned old new =
    new.moved.items ≡ old.moved.items ++ (old.front.changes.came ++ new.front.turned)
