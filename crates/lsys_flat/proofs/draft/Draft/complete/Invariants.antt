use Rattle.std.proofs.Common.{◌≡◌, ◌+◌, ℕ, List, map}
use Rattle.std.specs.Prelude.{sum_by}
use Rattle.lsys_spec.specs.Levels as levels
use Rattle.lsys_laws.specs.Sessions.{IsWell}
use Rattle.lsys_flat.specs.Slots.{filled_slots}
use Rattle.lsys_flat.specs.Answers.{lists_of}
use Rattle.lsys_flat.specs.Lines.{line_of}
use Rattle.lsys_flat.specs.Drafts.{AreAllNew, AreOlds, HasAskedLevels, IsDraft, IsEmpty, olds_from}
use Rattle.lsys_flat.proofs.draft.Draft.complete.Given as goal

abbrev pub invariant-loop-level : goal.invariant-loop-level
invariant-loop-level g l =
    let lines = map line_of l.olds.ancestries.now in
    let kept = lists_of l.olds.answers.now in
    record {
      well : IsWell l.system;
      found : HasAskedLevels l.level l.self;
      new : AreAllNew l.fn.store l.store l.self.fresh;
      asked : l.asked ≡ l.fn.asked + sum_by filled_slots l.self.fresh;
      drafts : (limit : ℕ) (xs : List (List levels.LevelSymbol)) → IsEmpty limit lines l.fn.self → AreOlds limit (olds_from xs lines kept l.fn.store)
          → IsDraft l.system limit (olds_from xs lines kept l.fn.store) l.store l.fn.visited l.visited l.level l.self;
    }
