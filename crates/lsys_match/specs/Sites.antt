-- What is asked, at a place of a level.
use Rattle.std.specs.Prelude.{ℕ, ◌+◌, List, Option, Result}
use Rattle.lsys_spec.specs.Bodies.{Body, Filter}
use Rattle.lsys_spec.specs.Levels.{ModuleValue, way, items_from}
use Rattle.lsys_spec.specs.Walks.{Told, Found}
use Rattle.lsys_spec.specs.Choice.{Asking, Tried, Choice, Fault, Applying, next_contexts, first_applying, all_applying, choice}
use Rattle.lsys_spec.specs.Meaning.{ignored_by, most_entries}
use Rattle.lsys_level.specs.Spots.{Spotted, level_by}

-- a module of a level, and the filter by which contexts pass over modules
pub record Site : Type 0 where
  pub row : List Spotted
  pub place : ℕ
  pub own : ModuleValue
  pub filter : Filter

abbrev pub asking_at : Site → Asking
asking_at s = record { ignored = ignored_by s.filter; most = most_entries; own = s.own }

-- where a naming tells the lineages: what the next rule of a group reads
abbrev pub rule_told : (ℕ → List ℕ) → Site → Tried → Body → Told Found
rule_told naming s d b = let x = level_by naming s.row in next_contexts (asking_at s) (way x s.place) (items_from x (s.place + 1)) d b

-- of the rules from the next one on, the first that applies
abbrev pub first_told : (ℕ → List ℕ) → Site → Tried → List Body → Told Choice
first_told naming s d bs = let x = level_by naming s.row in first_applying (asking_at s) (way x s.place) (items_from x (s.place + 1)) d bs

-- all of them that apply, after those that were found before
abbrev pub all_told : (ℕ → List ℕ) → Site → Tried → Result (List Applying) Fault → List Body → Told (Result (List Applying) Fault)
all_told naming s d found bs = let x = level_by naming s.row in all_applying (asking_at s) (way x s.place) (items_from x (s.place + 1)) d found bs

-- where a group with weights has this key: which rule of the group is chosen
abbrev pub choice_told : (ℕ → List ℕ) → Site → Option ℕ → List Body → Told Choice
choice_told naming s key bs = let x = level_by naming s.row in choice (asking_at s) key (way x s.place) (items_from x (s.place + 1)) bs
