-- Which questions no clause of the definition of disturbed questions touches.
use Rattle.std.specs.Prelude.{◌≡◌, ◌||◌, true, Some, List}
use Rattle.lsys_spec.specs.Systems.{System}
use Rattle.lsys_spec.specs.Bodies.{filter}
use Rattle.lsys_spec.specs.Levels.{LevelSymbol, lineage}
use Rattle.lsys_spec.specs.Questions.{Question, question_at}
use Rattle.lsys_spec.specs.Standings.{Settled, free, same_filter}
use Rattle.lsys_spec.specs.LevelLaws.{NoneDisturbed}

-- The old system asked at this level and lineage, for the same module, the same rules and the same key; the module
-- stands in the new level as in the old, and so does all that was read for it; and the level's table ignores or considers the same
-- names, or no rule has a context.
pub record IsUntouched (old new : System) (x y : List LevelSymbol) (asked : List Question) (q : Question) : Type 0 where
  pub was : Question
  pub there : question_at q.level (lineage q.own) asked ≡ Some was
  pub own : was.own ≡ q.own
  pub bodies : was.bodies ≡ q.bodies
  pub key : was.key ≡ q.key
  pub settled : Settled x y (lineage q.own)
  pub read : NoneDisturbed x y was.trace
  pub ignored : free q.bodies || same_filter (filter old q.level) (filter new q.level) ≡ true
