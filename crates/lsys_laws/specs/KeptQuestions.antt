-- What a derivation keeps of its questions, place by place, and which of a new level's questions that doesn't answer.
use Rattle.std.specs.Prelude.{ℕ, zero, suc, Option, Some, None, List, [], ◌∷◌, ◌++◌, ◌+◌, length, map, slice_index_or, if◌then◌else◌}
use Rattle.lsys_spec.specs.Systems.{System}
use Rattle.lsys_spec.specs.Bodies.{Body, group}
use Rattle.lsys_spec.specs.Levels.{LevelSymbol, Push, Pop, Module, lineage}
use Rattle.lsys_spec.specs.Questions.{Question, question, differs}
use Rattle.lsys_spec.specs.Standings.{place_of}

-- for each symbol of the new level the place of the old symbol of its lineage
abbrev pub places_in : List LevelSymbol → List LevelSymbol → List (Option ℕ)
places_in old new = map (λ s. place_of (lineage s) old) new

-- the question, where the group isn't empty
abbrev pub where_grouped : List Body → Question → Option Question
where_grouped [] q = None
where_grouped (b ∷ bs) q = Some q

-- the question of a symbol at place p of the level x, which is level t; a bracket has none, nor has a module for which there are no rules
abbrev pub question_here : System → ℕ → List LevelSymbol → ℕ → LevelSymbol → Option Question
question_here s t x p (Push l) = None
question_here s t x p (Pop l) = None
question_here s t x p (Module l m) = let bs = group s t m.name (length m.params) in where_grouped bs (question s t bs x p l m)

-- those of the symbols from place p on
abbrev pub questions_by_place : System → ℕ → List LevelSymbol → ℕ → List LevelSymbol → List (Option Question)
questions_by_place s t x p [] = []
questions_by_place s t x p (a ∷ rest) = question_here s t x p a ∷ questions_by_place s t x (p + 1) rest

abbrev pub level_questions : System → ℕ → List LevelSymbol → List (Option Question)
level_questions s t x = questions_by_place s t x 0 x

-- those that are kept of the level i places after the first of these, which is level t: of the last level none
abbrev pub kept_from : System → ℕ → List (List LevelSymbol) → ℕ → List (Option Question)
kept_from s t [] i = []
kept_from s t (x ∷ []) i = []
kept_from s t (x ∷ y ∷ levels) zero = level_questions s t x
kept_from s t (x ∷ y ∷ levels) (suc i) = kept_from s (t + 1) (y ∷ levels) i

-- the questions that are kept of level t
abbrev pub kept_questions : System → List (List LevelSymbol) → ℕ → List (Option Question)
kept_questions s levels t = kept_from s 0 levels t

-- the question that is kept at a place, where there is a place
abbrev pub kept_at : List (Option Question) → Option ℕ → Option Question
kept_at os None = None
kept_at os (Some p) = slice_index_or os p None

-- the questions that there are, in order
abbrev pub present : List (Option Question) → List Question
present [] = []
present (None ∷ qs) = present qs
present (Some q ∷ qs) = q ∷ present qs

-- those that the ones handed to them, place by place, don't answer
abbrev pub unanswered : List (Option Question) → List (Option Question) → List Question
unanswered [] qs = []
unanswered (o ∷ os) [] = []
unanswered (o ∷ os) (None ∷ qs) = unanswered os qs
unanswered (o ∷ os) (Some q ∷ qs) = if differs q o then q ∷ unanswered os qs else unanswered os qs

-- The questions of the new level t, each handed what the old derivation of levels xs keeps at the place of its symbol's lineage: those that this doesn't answer.
abbrev pub level_needs : System → System → List (List LevelSymbol) → ℕ → List LevelSymbol → List Question
level_needs old new xs t y = unanswered (map (kept_at (kept_questions old xs t)) (places_in (slice_index_or xs t []) y)) (level_questions new t y)

-- those of all levels below the last, the first of them being level t
abbrev pub needs_from : System → System → List (List LevelSymbol) → ℕ → List (List LevelSymbol) → List Question
needs_from old new xs t [] = []
needs_from old new xs t (y ∷ []) = []
needs_from old new xs t (y ∷ z ∷ ys) = level_needs old new xs t y ++ needs_from old new xs (t + 1) (z ∷ ys)

abbrev pub needed_questions : System → System → List (List LevelSymbol) → List (List LevelSymbol) → List Question
needed_questions old new xs ys = needs_from old new xs 0 ys
