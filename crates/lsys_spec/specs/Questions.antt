-- The question of a module: all that the choice of its rule and its successor depend on. And the need of an edit.
use Rattle.std.specs.Prelude.{ℕ, Bool, true, not, Option, Some, None, List, [], ◌∷◌, ◌++◌, ◌+◌, ◌==◌, ◌&&◌, length, take, count_by, sum_by, if◌then◌else◌}
use Rattle.lsys_spec.specs.Systems.{System}
use Rattle.lsys_spec.specs.Bodies.{Body, group}
use Rattle.lsys_spec.specs.Levels.{ModuleValue, LevelSymbol, Push, Pop, Module, lineage}
use Rattle.lsys_spec.specs.Walks.{Entry}
use Rattle.lsys_spec.specs.Meaning.{asked, key_for, most_entries}
use Rattle.lsys_spec.specs.Equalities.{same_number, same_option, same_all, same_lineage, same_symbol, same_body, same_entry}

-- A trace is the entries that the tried rules' walks read, in order; of one that is too long the front that shows it, and then TooFar is among the outcomes.
pub record Question : Type 0 where
  pub level : ℕ
  pub own : LevelSymbol
  pub bodies : List Body
  pub key : Option ℕ
  pub trace : List Entry

abbrev pub question : System → ℕ → List Body → List LevelSymbol → ℕ → List ℕ → ModuleValue → Question
question s t bs x p l m =
    record { level = t; own = Module l m; bodies = bs; key = key_for s l bs; trace = take (most_entries + 1) (asked s t bs x p l m).entries }

abbrev pub where_any : List Body → Question → List Question → List Question
where_any [] q qs = qs
where_any (b ∷ bs) q qs = q ∷ qs

abbrev pub questions_from : System → ℕ → List LevelSymbol → ℕ → List LevelSymbol → List Question
questions_from s t x p [] = []
questions_from s t x p (Push l ∷ rest) = questions_from s t x (p + 1) rest
questions_from s t x p (Pop l ∷ rest) = questions_from s t x (p + 1) rest
questions_from s t x p (Module l m ∷ rest) =
    let bs = group s t m.name (length m.params) in where_any bs (question s t bs x p l m) (questions_from s t x (p + 1) rest)

-- of each module of level t whose group isn't empty, from left to right
abbrev pub questions_at : System → ℕ → List LevelSymbol → List Question
questions_at s t x = questions_from s t x 0 x

-- of the levels below the last, the first of them being level t
abbrev pub questions_below : System → ℕ → List (List LevelSymbol) → List Question
questions_below s t [] = []
questions_below s t (x ∷ []) = []
questions_below s t (x ∷ y ∷ levels) = questions_at s t x ++ questions_below s (t + 1) (y ∷ levels)

abbrev pub questions : System → List (List LevelSymbol) → List Question
questions s levels = questions_below s 0 levels

abbrev pub same_question : Question → Question → Bool
same_question a b =
    (a.level == b.level) && (same_symbol a.own b.own && (same_all same_body a.bodies b.bodies && (same_option same_number a.key b.key && same_all same_entry a.trace b.trace)))

-- the question at a level and lineage
abbrev pub question_at : ℕ → List ℕ → List Question → Option Question
question_at t l [] = None
question_at t l (q ∷ qs) = if (q.level == t) && same_lineage l (lineage q.own) then Some q else question_at t l qs

abbrev pub differs : Question → Option Question → Bool
differs q None = true
differs q (Some old) = not (same_question old q)

-- the old system has no question there, or another one
abbrev pub is_needed : List Question → Question → Bool
is_needed old q = differs q (question_at q.level (lineage q.own) old)

-- how many questions of the new system the old one didn't answer
abbrev pub need : List Question → List Question → ℕ
need old new = count_by (is_needed old) new

-- the entries that have to be read for them at least
abbrev pub least_visits : List Question → List Question → ℕ
least_visits old new = sum_by (λ q. if is_needed old q then length q.trace else 0) new
