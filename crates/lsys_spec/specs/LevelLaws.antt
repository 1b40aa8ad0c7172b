-- What is said of each level of a system, and of its questions after an edit.
use Rattle.std.specs.Prelude.{◌≡◌, ◌≤◌, ℕ, Bool, true, Some, Ok, List, [], length, slice_get, get_or, count_by, sum_by, if◌then◌else◌}
use Rattle.lsys_syntax.specs.Strings.{balanced}
use Rattle.lsys_spec.specs.Draws.{number_base}
use Rattle.lsys_spec.specs.Systems.{System, Each}
use Rattle.lsys_spec.specs.Levels.{LevelSymbol, lineage}
use Rattle.lsys_spec.specs.Walks.{Entry, lineages_named}
use Rattle.lsys_spec.specs.Meaning.{meaning}
use Rattle.lsys_spec.specs.Questions.{Question, questions}
use Rattle.lsys_spec.specs.Standings.{Settled, is_candidate}

-- Each `[` of the axiom and of a rule's successor has its `]`, and there are no others. They have no more symbols than one
-- code has numbers.
pub record HasBalance (s : System) : Type 0 where
  pub in_axiom : balanced 0 s.axiom_string ≡ true
  pub in_successors : Each (λ p. balanced 0 p.rule.successor ≡ true) s.rules
  pub short_axiom : length s.axiom_string ≤ number_base
  pub short_successors : Each (λ p. length p.rule.successor ≤ number_base) s.rules

-- where the system has a meaning, P holds of each of its levels, and of the level's number
abbrev pub AtEachLevel : System → (ℕ → List LevelSymbol → Type 0) → Type 0
AtEachLevel s P = (limit : ℕ) (levels : List (List LevelSymbol)) → meaning s limit ≡ Ok levels → (t : ℕ) (x : List LevelSymbol) → slice_get levels t ≡ Some x → P t x

-- a symbol of this lineage stands in the level
abbrev pub StandsIn : List LevelSymbol → List ℕ → Type 0
StandsIn x l = (p : ℕ) × (a : LevelSymbol) × (slice_get x p ≡ Some a) × (lineage a ≡ l)

-- every symbol that these entries name stands in the new level as in the old
abbrev pub NoneDisturbed : List LevelSymbol → List LevelSymbol → List Entry → Type 0
NoneDisturbed old new es = Each (λ e. Each (Settled old new) (lineages_named e)) es

-- the questions of a new system, of levels ys, that may be other ones than those of the old, of levels xs (Where the old system has no such level, it has no such question either, and any level will do.)
abbrev pub may_differ : System → System → List (List LevelSymbol) → List (List LevelSymbol) → Question → Bool
may_differ old new xs ys q = is_candidate old new (get_or xs q.level []) (get_or ys q.level []) (questions old xs) q

-- how many they are
abbrev pub candidates : System → System → List (List LevelSymbol) → List (List LevelSymbol) → ℕ
candidates old new xs ys = count_by (may_differ old new xs ys) (questions new ys)

-- the entries that they read in all
abbrev pub candidate_visits : System → System → List (List LevelSymbol) → List (List LevelSymbol) → ℕ
candidate_visits old new xs ys = sum_by (λ q. if may_differ old new xs ys q then length q.trace else 0) (questions new ys)
