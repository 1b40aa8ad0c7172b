-- Answers told by tags, as those of the definitions.
use Rattle.std.specs.Prelude.{◌≡◌, ◌↔◌, ℕ, List}
use Rattle.lsys_spec.specs.Systems.{System}
use Rattle.lsys_spec.specs.Levels.{ModuleValue, LevelSymbol}
use Rattle.lsys_spec.specs.Questions.{Question}
use Rattle.lsys_level.specs.Spots.{Spotted, level_by}
use Rattle.lsys_level.specs.Tags.{NamesTell}
use Rattle.lsys_match.specs.Asks.{IsAnswer, IsNamedAt, by_definition}
use Rattle.lsys_match.specs.TagQuestions.{TagAnswer}
use Rattle.lsys_match.specs.Traced.{IsOwn}

-- The answer to the question of the module m at place p of level t: by every naming of the tags that gives the module the lineage of its key it is the definitions' answer.
pub record IsAnswerThere (s : System) (t : ℕ) (row : List Spotted) (p tag : ℕ) (m : ModuleValue) (a : TagAnswer) : Type 0 where
  pub line : List ℕ
  pub here : IsOwn s.seed row p tag m line
  pub told : (naming : ℕ → List ℕ) → IsNamedAt naming s.seed row p tag m → IsAnswer naming (by_definition s t (level_by naming row) p (naming tag) m) a

-- what the definitions ask of the module m with lineage l at place p of the level x
abbrev pub asked_there : System → ℕ → List LevelSymbol → ℕ → List ℕ → ModuleValue → Question
asked_there s t x p l m = (by_definition s t x p l m).question

-- answers are to the same question by tags exactly where they are by lineages
abbrev pub AnswersAgreeByLineages : Type 0
AnswersAgreeByLineages =
    (old new : System) (t : ℕ) (x y : List Spotted) (p q tag tag' : ℕ) (m n : ModuleValue)
    (a b : TagAnswer) (naming : ℕ → List ℕ)
    → IsAnswerThere old t x p tag m a
    → IsAnswerThere new t y q tag' n b
    → NamesTell naming x y
    → IsNamedAt naming old.seed x p tag m
    → IsNamedAt naming new.seed y q tag' n
    → (a.question ≡ b.question)
    ↔ (asked_there old t (level_by naming x) p (naming tag) m
    ≡ asked_there new t (level_by naming y) q (naming tag') n)
