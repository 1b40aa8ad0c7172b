-- The questions that an edit needs, level by level.
use Rattle.std.proofs.Common.{◌≡◌, ℕ, ◌+◌, Bool, true, false, cond, get_or, Option, List, [], ◌∷◌, ◌++◌, length, map, refl, sym, ap, ◌∙◌, arith}
use Rattle.std.specs.Prelude.{sum_by}
use Rattle.std.specs.List.{filter}
use Rattle.std.proofs.lemmas.List.Elements.{filter-append}
use Rattle.std.proofs.lemmas.List.Sums.{sum_by-cons}
use Rattle.lsys_spec.specs.Systems.{System, Each}
use Rattle.lsys_spec.specs.Bodies.{Body, group}
use Rattle.lsys_spec.specs.Levels.{LevelSymbol, Push, Pop, Module, lineage}
use Rattle.lsys_spec.specs.Questions.{Question, question, where_any, questions_from, questions_at, questions_below, questions, question_at, differs, is_needed, least_visits}
use Rattle.lsys_spec.specs.Standings.{place_of}
use Rattle.lsys_spec.specs.Cuts.{Distinct}
use Rattle.lsys_laws.specs.KeptQuestions.{places_in, where_grouped, questions_by_place, kept_questions, kept_at, unanswered, level_needs, needs_from}
use Rattle.lsys_laws.proofs.Lookups.{kept_there}

-- one module more
one : (olds : List Question) (bs : List Body) (q : Question) (qs : List Question) (o : Option Question) (os ns : List (Option Question)) → question_at q.level (lineage q.own) olds ≡ o
    → filter (is_needed olds) qs ≡ unanswered os ns → filter (is_needed olds) (where_any bs q qs) ≡ unanswered (o ∷ os) (where_grouped bs q ∷ ns)
one olds [] q qs o os ns e h = h
one olds (b ∷ bs) q qs o os ns e h =
    ap (λ o. cond (differs q o) (q ∷ filter (is_needed olds) qs) (filter (is_needed olds) qs)) e ∙ ap (λ ns. cond (differs q o) (q ∷ ns) ns) h

-- one level, where the old questions of that level are found by the places of an old level x
of_level : (olds : List Question) (kept : List (Option Question)) (x : List LevelSymbol) (s : System) (t : ℕ) → ((l : List ℕ) → question_at t l olds ≡ kept_at kept (place_of l x))
    → (y : List LevelSymbol) (p : ℕ) (rest : List LevelSymbol)
    → filter (is_needed olds) (questions_from s t y p rest) ≡ unanswered (map (kept_at kept) (places_in x rest)) (questions_by_place s t y p rest)
of_level olds kept x s t f y p [] = refl
of_level olds kept x s t f y p (Push l ∷ rest) = of_level olds kept x s t f y (p + 1) rest
of_level olds kept x s t f y p (Pop l ∷ rest) = of_level olds kept x s t f y (p + 1) rest
of_level olds kept x s t f y p (Module l m ∷ rest) =
    let bs : List Body = group s t m.name (length m.params) in
    one olds bs (question s t bs y p l m) (questions_from s t y (p + 1) rest) (kept_at kept (place_of l x)) (map (kept_at kept) (places_in x rest)) (questions_by_place s t y (p + 1) rest) (f l)
    (of_level olds kept x s t f y (p + 1) rest)

pub of_levels : (old new : System) (xs : List (List LevelSymbol)) → Each Distinct xs → (t : ℕ) (ys : List (List LevelSymbol)) → filter (is_needed (questions old xs)) (questions_below new t ys) ≡ needs_from old new xs t ys
of_levels old new xs h t [] = refl
of_levels old new xs h t (y ∷ []) = refl
of_levels old new xs h t (y ∷ z ∷ ys) =
    filter-append (is_needed (questions old xs)) (questions_at new t y) (questions_below new (t + 1) (z ∷ ys))
    ∙ ap (λ qs. qs ++ filter (is_needed (questions old xs)) (questions_below new (t + 1) (z ∷ ys)))
    (of_level (questions old xs) (kept_questions old xs t) (get_or xs t []) new t (λ l. kept_there old 0 t xs t l (omega arith) h) y 0 y)
    ∙ ap (λ qs. level_needs old new xs t y ++ qs) (of_levels old new xs h (t + 1) (z ∷ ys))

-- what the needed ones read
pub visits_of : (olds qs : List Question) → least_visits olds qs ≡ sum_by (λ q. length q.trace) (filter (is_needed olds) qs)
visits_of olds [] = refl
visits_of olds (q ∷ qs) =
    sum_by-cons (λ q. cond (is_needed olds q) (length q.trace) 0) q qs ∙ ap (λ n. cond (is_needed olds q) (length q.trace) 0 + n) (visits_of olds qs) ∙ by (is_needed olds q)
  where
    by : (b : Bool) → cond b (length q.trace) 0 + sum_by (λ q. length q.trace) (filter (is_needed olds) qs) ≡ sum_by (λ q. length q.trace) (cond b (q ∷ filter (is_needed olds) qs) (filter (is_needed olds) qs))
    by true = sym (sum_by-cons (λ q. length q.trace) q (filter (is_needed olds) qs))
    by false = omega arith
