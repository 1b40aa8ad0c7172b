-- What becomes of the parts of a pass when one node was asked.
use Rattle.std.specs.Prelude.{◌≡◌, ◌≤◌, ◌+◌, ◌++◌, ◌∷◌, [], ℕ, Bool, Result, Ok, Err, Some, if◌then◌else◌}
use Rattle.lsys_syntax.specs.Calls.{Lent}
use Rattle.lsys_walks.specs.Stores.{Store, AreLive, AreGone, OtherTracesStay}
use Rattle.lsys_match.specs.declared.asked.Asked.{Asked}
use Rattle.lsys_match.specs.declared.asked.Asked.TheVariants.{Same, New}
use Rattle.lsys_match.specs.declared.refusal.AskRefusal.{AskRefusal}
use Rattle.lsys_match.specs.declared.refusal.AskRefusal.TheVariants as refusals
use Rattle.lsys_match.specs.Kept.{Kept}
use Rattle.lsys_match.specs.Stored.{runs_of}
use Rattle.lsys_reads.specs.Relations.{Relations, SettledStay}
use Rattle.lsys_forest.specs.Nodes.{Node, with_answer}
use Rattle.lsys_forest.specs.Changes.{OldAnswer}
use Rattle.lsys_forest.specs.Groves.{Grove, Sets, now_of, changes_in, live_nodes}
use Rattle.lsys_reads.specs.Levels.{tags_read}
use Rattle.lsys_pass.specs.declared.read.Readers.{Readers}
use Rattle.lsys_pass.specs.declared.work.Work.{Work}
use Rattle.lsys_pass.specs.Read.{NotesPairs}

-- node k, which was n, keeps this answer, and the change is noted
pub record TakesAnswer (old new : Grove Kept) (k : ℕ) (n : Node Kept) (a : Kept) : Type 0 where
  pub sets : Sets old new k (with_answer (Some a) n)
  pub noted : changes_in new
      ≡ changes_in old ++ record { node = k; before = OldAnswer n.answer } ∷ []
  pub live : live_nodes new ≤ live_nodes old

abbrev pub TakesAnswerAt : Grove Kept → Grove Kept → ℕ → Kept → Type 0
TakesAnswerAt old new k a =
    (n : Node Kept) → now_of old k ≡ Some n → TakesAnswer old new k n a

-- what a step works on
pub record StepParts : Type 0 where
  pub forest : Grove Kept
  pub store : Store
  pub reads : Relations
  pub listed : Bool
  pub work : Work

abbrev pub parts_of : Grove Kept → Store → Readers → Work → StepParts
parts_of f s r w = record { forest = f; store = s; reads = r.reads; listed = r.is_listed; work = w }

-- The node keeps a new answer. What it read is pending, where that is listed, and it is among those that were renewed.
pub record KeepsNew (node : ℕ) (is_born : Bool) (old new : StepParts) (a : Kept) : Type 0 where
  pub kept : TakesAnswerAt old.forest new.forest node a
  pub store : new.store ≡ old.store
  pub read : NotesPairs old.listed old.reads new.reads node (tags_read old.store a)
  pub settled : SettledStay old.reads new.reads
  pub listed : new.listed ≡ old.listed
  pub renewed : new.work.renewed.items ≡ old.work.renewed.items ++ node ∷ []
  pub born : new.work.born ≡ old.work.born + (if is_born then 1 else 0)
  pub faults : new.work.faults.items ≡ old.work.faults.items

-- no answer is new
pub record AddsNoAnswer (old new : StepParts) : Type 0 where
  pub forest : new.forest ≡ old.forest
  pub store : new.store ≡ old.store
  pub reads : new.reads ≡ old.reads
  pub listed : new.listed ≡ old.listed
  pub renewed : new.work.renewed.items ≡ old.work.renewed.items
  pub born : new.work.born ≡ old.work.born

module _ {L : Type 0} where
  abbrev pub IsLiveIfNew : Store → Result (Asked L) AskRefusal → Type 0
  IsLiveIfNew s (Ok Same) = Unit {0}
  IsLiveIfNew s (Ok (New a)) = AreLive s (runs_of a)
  IsLiveIfNew s (Err e) = Unit {0}

  abbrev pub KeepsOutcome : ℕ → Bool → StepParts → StepParts → Result (Asked L) AskRefusal → Type 0
  KeepsOutcome node is_born old new (Ok Same) =
      AddsNoAnswer old new × (new.work.faults.items ≡ old.work.faults.items)
  KeepsOutcome node is_born old new (Ok (New a)) = KeepsNew node is_born old new a
  KeepsOutcome node is_born old new (Err (refusals.Fault k)) =
      AddsNoAnswer old new
      × (new.work.faults.items ≡ old.work.faults.items ++ record { node = node; kind = k } ∷ [])
  KeepsOutcome node is_born old new (Err refusals.Memory) = ⊥

  -- a new answer was released; else nothing changed in the store
  abbrev pub ReleasesNew : Store → Store → Result (Asked L) AskRefusal → Type 0
  ReleasesNew old new (Ok (New a)) = AreGone new (runs_of a) × OtherTracesStay old new (runs_of a)
  ReleasesNew old new (Ok Same) = new ≡ old
  ReleasesNew old new (Err e) = new ≡ old

  pub record KeepsNothing (old new : StepParts) (r : Result (Asked L) AskRefusal) : Type 0 where
    pub forest : new.forest ≡ old.forest
    pub store : ReleasesNew old.store new.store r
    pub read : new.reads.pending ≡ old.reads.pending
    pub settled : SettledStay old.reads new.reads
    pub listed : new.listed ≡ old.listed
    pub renewed : new.work.renewed.items ≡ old.work.renewed.items
    pub born : new.work.born ≡ old.work.born
    pub faults : new.work.faults.items ≡ old.work.faults.items

  -- both, of the parts that a call is lent
  abbrev pub KeepsOutcomeIn : ℕ → Bool → Lent (Grove Kept) → Lent Store → Lent Readers → Lent Work
      → Result (Asked L) AskRefusal → Type 0
  KeepsOutcomeIn node is_born forest store readers work outcome =
      KeepsOutcome node is_born
      (parts_of forest.entry.now store.entry.now readers.entry.now work.entry.now)
      (parts_of forest.exit.now store.exit.now readers.exit.now work.exit.now) outcome

  abbrev pub KeepsNothingIn : Lent (Grove Kept) → Lent Store → Lent Readers → Lent Work
      → Result (Asked L) AskRefusal → Type 0
  KeepsNothingIn forest store readers work outcome =
      KeepsNothing
      (parts_of forest.entry.now store.entry.now readers.entry.now work.entry.now)
      (parts_of forest.exit.now store.exit.now readers.exit.now work.exit.now) outcome
