-- What is kept of old levels, and what the calls leave that plan new ones beside them, told of the parameters that they are lent.
use Rattle.std.specs.Prelude.{◌≡◌, ◌+◌, ◌*◌, ◌≤◌, ℕ, Option, Result, List, length, map, sum_by, IfErr, IfOk, OnErr, OnOk}
use Rattle.lsys_syntax.specs.Calls.{Lent}
use Rattle.lsys_spec.specs.Systems.{System}
use Rattle.lsys_spec.specs.Levels.{LevelSymbol}
use Rattle.lsys_walks.specs.Stores.{Store}
use Rattle.lsys_match.specs.Kept.{Kept}
use Rattle.lsys_match.specs.Derivations.{Rises, most_read, IsLevelRefusal}
use Rattle.lsys_rewrite.specs.declared.refusal.DeriveRefusal.{DeriveRefusal}
use Rattle.lsys_flat.specs.declared.level.Level.{Level}
use Rattle.lsys_flat.specs.declared.plan.Olds.{Olds}
use Rattle.lsys_flat.specs.declared.plan.Plan.{Plan}
use Rattle.lsys_flat.specs.Lines.{Descent, line_of}
use Rattle.lsys_flat.specs.Slots.{filled_slots}
use Rattle.lsys_flat.specs.Answers.{at_level, lists_of}
use Rattle.lsys_flat.specs.Drafts.{Drafted, OldLevels, AreAllNew, AreOlds, CanGoOn, HasAsked, IsDraft, IsEmpty, IsPlanned, olds_from}

-- 1. old levels

abbrev pub lines_kept : {L : Type 0} → Olds L → List Descent
lines_kept o = map line_of o.ancestries.now

abbrev pub answers_kept : {L : Type 0} → Olds L → List (List (Option Kept))
answers_kept o = lists_of o.answers.now

-- these levels, where the answers were made with this store
abbrev pub olds_of : {L : Type 0} → Olds L → List (List LevelSymbol) → Store → OldLevels
olds_of o xs store = olds_from xs (lines_kept o) (answers_kept o) store

-- 2. one level

-- it can be asked about, under some limit
abbrev pub CanAskLevel : {L : Type 0} → Olds L → System → Store → ℕ → ℕ → Drafted → Type 0
CanAskLevel o s store after t d = (limit : ℕ) × CanGoOn s limit (lines_kept o) (answers_kept o) store after t d

-- what was found out about it is kept; and this was made of its children
abbrev pub AsksLevel : {L A : Type 0} → Olds L → System → ℕ → Lent Drafted → Lent Store → Lent ℕ → Lent ℕ → Result A DeriveRefusal → Option Level → Type 0
AsksLevel o s t draft store asked visited done next =
    HasAsked s t (at_level (answers_kept o) t) store.entry.now store.exit.now visited.entry.now visited.exit.now asked.entry.now asked.exit.now draft.entry.now draft.exit.now done next

-- new answers of all levels are still new
abbrev pub AllStayNew : Lent Store → Lent Drafted → Type 0
AllStayNew store draft = (begin : Store) → AreAllNew begin store.entry.now draft.entry.now.fresh → AreAllNew begin store.exit.now draft.exit.now.fresh

-- they are counted
abbrev pub CountsNew : Lent ℕ → Lent Drafted → Type 0
CountsNew asked draft = asked.exit.now + sum_by filled_slots draft.entry.now.fresh ≡ asked.entry.now + sum_by filled_slots draft.exit.now.fresh

-- the draft has one level more, beside whatever old levels it was one
abbrev pub DraftsNext : {L A E : Type 0} → Olds L → System → ℕ → Lent Drafted → Lent Store → Lent ℕ → Result A E → Type 0
DraftsNext o s t draft store visited result =
    (limit : ℕ) (xs : List (List LevelSymbol)) (begin : Store) (before : ℕ) → AreOlds limit (olds_of o xs begin) → AreAllNew begin store.entry.now draft.entry.now.fresh
    → IsDraft s limit (olds_of o xs begin) store.entry.now before visited.entry.now t draft.entry.now
    → OnOk result (IsDraft s limit (olds_of o xs begin) store.exit.now before visited.exit.now (t + 1) draft.exit.now)

-- the system has no levels, for this reason, and no more was read than the limit lets
abbrev pub EndsDraft : {L A : Type 0} → Olds L → System → ℕ → Lent Drafted → Lent Store → Lent ℕ → Result A DeriveRefusal → Type 0
EndsDraft o s t draft store visited result =
    (limit : ℕ) (xs : List (List LevelSymbol)) (begin : Store) (before : ℕ) → IsDraft s limit (olds_of o xs begin) store.entry.now before visited.entry.now t draft.entry.now
    → IfErr result (λ e. IsLevelRefusal s limit e × Rises 0 (most_read * limit) before visited.exit.now)

-- no more symbols were asked about than the limit lets
abbrev pub AsksFew : {L : Type 0} → Olds L → System → ℕ → Lent Drafted → Lent Store → Lent ℕ → Type 0
AsksFew o s t draft store visited =
    (limit : ℕ) (xs : List (List LevelSymbol)) (begin : Store) (before : ℕ) → IsDraft s limit (olds_of o xs begin) store.entry.now before visited.entry.now t draft.entry.now
    → sum_by length draft.exit.now.fresh ≤ limit

-- 3. all levels, from an empty draft

-- level 0 was planned
abbrev pub BeginsDraft : {A E : Type 0} → System → Lent Drafted → Result A E → Type 0
BeginsDraft s draft result =
    (limit : ℕ) (o : OldLevels) (before : ℕ) → IsEmpty limit o.lines draft.entry.now → AreOlds limit o → OnOk result (IsDraft s limit o o.store before before 0 draft.exit.now)

-- all were planned
abbrev pub CompletesDraft : {L A E : Type 0} → Olds L → System → Lent Drafted → Lent Store → Lent ℕ → Result A E → Type 0
CompletesDraft o s draft store visited result =
    (limit : ℕ) (xs : List (List LevelSymbol)) → IsEmpty limit (lines_kept o) draft.entry.now → AreOlds limit (olds_of o xs store.entry.now)
    → OnOk result (IsDraft s limit (olds_of o xs store.entry.now) store.exit.now visited.entry.now visited.exit.now s.depth draft.exit.now)

-- the system has no levels, for this reason
abbrev pub RefusesLevels : {A : Type 0} → List Descent → System → Drafted → Result A DeriveRefusal → Type 0
RefusesLevels old_lines s d result = (limit : ℕ) → IsEmpty limit old_lines d → IfErr result (IsLevelRefusal s limit)

-- no more symbols were asked about than the limit lets
abbrev pub AsksFewBeside : List Descent → Lent Drafted → Type 0
AsksFewBeside old_lines draft = (limit : ℕ) → IsEmpty limit old_lines draft.entry.now → sum_by length draft.exit.now.fresh ≤ limit

-- and no more was read
abbrev pub ReadsFewBeside : {A E : Type 0} → List Descent → Drafted → Lent ℕ → Result A E → Type 0
ReadsFewBeside old_lines d visited result = (limit : ℕ) → IsEmpty limit old_lines d → OnErr result (Rises 0 (most_read * limit) visited.entry.now visited.exit.now)

-- 4. a plan

-- it can be made beside some old levels
abbrev pub CanPlan : {L : Type 0} → Olds L → ℕ → Store → Type 0
CanPlan o limit store = (xs : List (List LevelSymbol)) × AreOlds limit (olds_of o xs store)

-- this is it, beside whatever levels they are
abbrev pub PlansLevels : {L E : Type 0} → Olds L → ℕ → System → Lent Store → Lent ℕ → Result (Plan L) E → Type 0
PlansLevels o limit s store visited result =
    (xs : List (List LevelSymbol)) → AreOlds limit (olds_of o xs store.entry.now)
    → IfOk result (λ p. IsPlanned s limit (olds_of o xs store.entry.now) store.exit.now visited.entry.now visited.exit.now p.view (map line_of p.ancestries.items) (lists_of p.fresh.items) (lists_of p.taken.items) p.count)
