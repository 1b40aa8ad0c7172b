-- What is answered to a question.
use Rattle.std.specs.Prelude.{◌≡◌, ◌+◌, ◌≤◌, ℕ, List, take, Option, Some, None, Result, Ok, Err}
use Rattle.lsys_spec.specs.Systems.{System, WellSpelled}
use Rattle.lsys_spec.specs.Walks.{Told, Entry}
use Rattle.lsys_spec.specs.Choice as choice
use Rattle.lsys_spec.specs.Meaning.{most_entries, successor_by}
use Rattle.lsys_level.specs.Spots.{Spotted}
use Rattle.lsys_match.specs.declared.refusal.AskRefusal.{AskRefusal}
use Rattle.lsys_match.specs.declared.refusal.AskRefusal.TheVariants.{Fault, Memory}
use Rattle.lsys_match.specs.Tries.{entries_by}
use Rattle.lsys_match.specs.TagQuestions.{TagAnswer}
use Rattle.lsys_match.specs.Asking.{IsPosedAt, site_at, told_for}

-- the place of the rule that is chosen
abbrev pub place_chosen : choice.Choice → Option ℕ
place_chosen choice.NoRule = None
place_chosen (choice.Chosen g values) = Some g
place_chosen (choice.Failed k) = None

-- the trace: what was told, up to the first entry that is too many
abbrev pub trace_told : Told choice.Choice → List Entry
trace_told t = take (most_entries + 1) t.entries

-- By every naming of the tags this is what was told: the trace, the choice and the successor.
pub record IsAnswerTo (told : (ℕ → List ℕ) → Told choice.Choice) (a : TagAnswer) : Type 0 where
  pub trace : (naming : ℕ → List ℕ) → entries_by naming a.question.trace ≡ trace_told (told naming)
  pub chosen : (naming : ℕ → List ℕ) → place_chosen (told naming).answer ≡ a.chosen
  pub successor : (naming : ℕ → List ℕ) → successor_by a.question.posed.bodies a.question.posed.own (told naming).answer ≡ Ok a.successor

-- the answer to the question of the module at place p of level t
pub record IsAnswerAt (s : System) (t : ℕ) (row : List Spotted) (p : ℕ) (a : TagAnswer) : Type 0 where
  pub posed : IsPosedAt s t row p a.question.posed
  pub told : IsAnswerTo (λ naming. told_for naming (site_at s t row p a.question.posed.own) a.question.posed) a

-- some well-spelled system answers so to the question of a module of some level
pub record IsSoundAnswer (a : TagAnswer) : Type 0 where
  pub system : System
  pub spelled : WellSpelled system
  pub level : ℕ
  pub row : List Spotted
  pub place : ℕ
  pub answer : IsAnswerAt system level row place a

-- so many entries were read: no more for lack of memory, and else exactly so many
abbrev pub CountsEntries : {T : Type 0} → ℕ → ℕ → ℕ → Result T AskRefusal → Type 0
CountsEntries n old new (Ok a) = new ≡ old + n
CountsEntries n old new (Err (Fault k)) = new ≡ old + n
CountsEntries n old new (Err Memory) = (old ≤ new) × (new ≤ old + n)
