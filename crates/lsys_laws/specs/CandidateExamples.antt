-- Examples of the definitions of lsys_spec, which the checker computes: questions that an edit touches, and one that it doesn't.
use Rattle.std.specs.Prelude.{◌≡◌, ℕ, Bool, true, false, Ok, Err, List, [], ◌∷◌, ◌++◌, map, length, codes, refl}
use Rattle.lsys_spec.specs.Systems.{System}
use Rattle.lsys_spec.specs.Levels.{LevelSymbol}
use Rattle.lsys_spec.specs.Meaning.{meaning}
use Rattle.lsys_spec.specs.Questions.{Question, questions, is_needed, least_visits}
use Rattle.lsys_spec.specs.LevelLaws.{may_differ, candidate_visits}
use Rattle.lsys_spec.specs.Replies.{reply}
use Rattle.lsys_spec.specs.Output.{out, none, last_system}

-- the system after a script, and its levels
abbrev after : List ℕ → System
after script = last_system (out (reply 100000) script none)

abbrev levels_after : List ℕ → List (List LevelSymbol)
levels_after script = elim (meaning (after script) 100000) [ Ok levels ↦ levels | Err r ↦ [] ]

abbrev questions_after : List ℕ → List Question
questions_after script = questions (after script) (levels_after script)

abbrev start : List ℕ
start = codes "axiom ABCDAE\nproduction p: A > B => X\ndepth 1\n"

-- of each question after the edit, whether it is a candidate
abbrev candidates_after : List ℕ → List Bool
candidates_after edit = map (may_differ (after start) (after (start ++ edit)) (levels_after start) (levels_after (start ++ edit))) (questions_after (start ++ edit))

-- two letters A ask, and each reads what is on its right
pub two_questions : map (λ q. length q.trace) (questions_after start) ≡ 1 ∷ 1 ∷ []
two_questions = refl

-- the first A reads B, and both stand as before, so it is no candidate; what the second one reads does not
pub untouched_reader : candidates_after (codes "axiom ABCDAF\n") ≡ false ∷ true ∷ []
untouched_reader = refl

-- a name that is ignored touches each question of a rule with a context, and needs none of them
pub ignored_touches : candidates_after (codes "ignore Z\n") ≡ true ∷ true ∷ []
ignored_touches = refl

pub ignored_needs_none : map (is_needed (questions_after start)) (questions_after (start ++ codes "ignore Z\n")) ≡ false ∷ false ∷ []
ignored_needs_none = refl

-- of each question after the second script, whether it is a candidate where the first one was after it
abbrev candidates_from : List ℕ → List ℕ → List Bool
candidates_from old new = map (may_differ (after old) (after new) (levels_after old) (levels_after new)) (questions_after new)

-- a rule put anew, another key, and a module that wasn't there
pub touched_itself :
    map (λ (p : List ℕ × List ℕ). candidates_from p.0 p.1)
    ((codes "axiom AB\nproduction p: A => X\ndepth 1", codes "axiom AB\nproduction p: A => Y\ndepth 1")
    ∷ (codes "axiom AB\nproduction p: A @ 1 => X\ndepth 1", codes "axiom AB\nproduction p: A @ 1 => X\nseed 1\ndepth 1")
    ∷ (codes "axiom AB\nproduction p: A => X\ndepth 1", codes "axiom ABCA\nproduction p: A => X\ndepth 1") ∷ [])
    ≡ (true ∷ []) ∷ (true ∷ []) ∷ (false ∷ true ∷ []) ∷ []
touched_itself = refl

-- what is read at a distance; a branch by both its brackets
pub touched_by_reading :
    map (λ edited. candidates_from (codes "axiom A[BCD]E\nproduction p: A > [B] => X\ndepth 1") (edited ++ codes "\nproduction p: A > [B] => X\ndepth 1"))
    (codes "axiom A[BCD]F" ∷ codes "axiom A[BCF]E" ∷ codes "axiom A[BCDEF]" ∷ codes "axiom A[BCD]EF" ∷ [])
    ≡ (true ∷ []) ∷ (true ∷ []) ∷ (true ∷ []) ∷ (false ∷ []) ∷ []
touched_by_reading = refl

-- other ignored names: a branch pattern, and one rule of two, is a context; fewer names are others
pub touched_by_ignoring :
    map (λ (p : List ℕ × List ℕ). candidates_from p.0 p.1)
    ((codes "axiom A[B]\nproduction p: A > [B] => X\ndepth 1", codes "axiom A[B]\nproduction p: A > [B] => X\ndepth 1\nignore Z")
    ∷ (codes "axiom AB\nproduction p: A => X\nproduction q: A > B => X\ndepth 1", codes "axiom AB\nproduction p: A => X\nproduction q: A > B => X\ndepth 1\nignore Z")
    ∷ (codes "axiom AB\nproduction q: A > B => X\ndepth 1\nignore Z", codes "axiom AB\nproduction q: A > B => X\ndepth 1\nignore") ∷ [])
    ≡ (true ∷ []) ∷ (true ∷ []) ∷ (true ∷ []) ∷ []
touched_by_ignoring = refl

-- the entries of the candidates alone, of which there may be several
pub visits_of_candidates :
    candidate_visits (after start) (after (start ++ codes "axiom ABCDAF\n")) (levels_after start) (levels_after (start ++ codes "axiom ABCDAF\n")) ≡ 1
visits_of_candidates = refl

abbrev long_reader : List ℕ
long_reader = codes "axiom AEEBA\nignore E\nproduction p: A > B => X\ndepth 1"

pub visits_of_long_readers :
    candidate_visits (after []) (after long_reader) (levels_after []) (levels_after long_reader) ∷ least_visits (questions_after []) (questions_after long_reader)
    ∷ least_visits (questions_after long_reader) (questions_after long_reader) ∷ []
    ≡ 3 ∷ 3 ∷ 0 ∷ []
visits_of_long_readers = refl

-- the last symbol that was read has another neighbour: a module that was compared, one that was ignored, a bracket on the way out
pub touched_after :
    map (λ (p : List ℕ × List ℕ). candidates_from p.0 p.1)
    ((codes "axiom ABC\nproduction p: A > B => X\ndepth 1", codes "axiom ABD\nproduction p: A > B => X\ndepth 1")
    ∷ (codes "axiom AZ\nproduction p: A > B => X\nignore Z\ndepth 1", codes "axiom AZQ\nproduction p: A > B => X\nignore Z\ndepth 1")
    ∷ (codes "axiom E[A]\nproduction e: E =>\nproduction p: B < A => A\ndepth 2", codes "axiom E[A]\nproduction e: E => Q\nproduction p: B < A => A\ndepth 2") ∷ [])
    ≡ (true ∷ []) ∷ (true ∷ []) ∷ (true ∷ false ∷ true ∷ []) ∷ []
touched_after = refl
