use Rattle.std.proofs.Common.{◌≡◌, ◌+◌, ℕ, List, length}
use Rattle.lsys_spec.specs.Levels as levels
use Rattle.lsys_level.specs.Spots.{spots_at}
use Rattle.lsys_match.specs.Asking.{asked_level}
use Rattle.lsys_flat.specs.Slots.{filled_slots}
use Rattle.lsys_flat.specs.Rounds.{answers_told, AreMadeAt, AreNew, AskedTo, IsAt, ShowsLevel, inquiry}
use Rattle.lsys_flat.proofs.round.Round.ask_level.Given as goal

abbrev pub invariant-loop-place : goal.invariant-loop-place
invariant-loop-place g l =
    let row = spots_at l.beside.view.now l.beside.level in
    record {
      asker : l.asker ≡ asked_level l.beside.system.now l.beside.level;
      at : IsAt l.place l.self;
      new : AreNew l.fn.store l.store l.self.fresh;
      made : AreMadeAt l.store l.beside.olds.now;
      asked : l.asked ≡ l.fn.asked + filled_slots l.self.fresh;
      room : l.self.next.grown.room ≡ l.fn.self.next.grown.room;
      going : (naming : ℕ → List ℕ) (x : List levels.LevelSymbol) → ShowsLevel naming l.beside.system.now.seed row x
          → AskedTo (inquiry l.beside.system.now l.beside.level row x (answers_told l.fn.store l.beside.olds.now) l.beside.mates.now) l.store l.self l.fn.visited l.visited l.place;
    }
