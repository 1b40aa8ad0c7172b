-- Which nodes stand still, told by symbols, by candidates and by seams.
use Rattle.std.specs.Prelude.{◌↔◌, ℕ, List, ◌≡◌, false, Some, slice_get, ◌⊎◌}
use Rattle.lsys_spec.specs.Rows.{In, flat}
use Rattle.lsys_spec.specs.Standings.{Settled, is_disturbed}
use Rattle.lsys_spec.specs.Systems.{System}
use Rattle.lsys_spec.specs.Levels.{LevelSymbol, ModuleValue, Module}
use Rattle.lsys_spec.specs.Questions.{Question, questions, question_at}
use Rattle.lsys_laws.specs.Seams.{right_of, left_of, AreTouched, AreTurned, IsRightSeam, IsLeftSeam}
use Rattle.lsys_laws.specs.Seats.{Seating, seated, AreSeatings, StandsStill, AreLevelSeatings, AreNodesRead, IsUntouchedNode, AreSameSymbols}
use Rattle.lsys_laws.specs.Passes.{module_question, is_candidate_at}

-- a symbol of the old level is settled exactly where its node stands still
abbrev pub SettledNodesStandStill : Type 0
SettledNodesStandStill =
    (name : ℕ → List ℕ) (old new : Seating) → AreSeatings name old new
    → (k : ℕ) → In k old.nodes
    → Settled (seated old) (seated new) (name k) ↔ StandsStill old new k

-- the test of disturbed symbols says no to a lineage exactly where its node stands still
abbrev pub UndisturbedNodesStandStill : Type 0
UndisturbedNodesStandStill =
    (old new : System) (xs ys : List (List LevelSymbol)) (t : ℕ)
    (name : ℕ → List ℕ) (was are : Seating) → AreLevelSeatings old new xs ys t name was are
    → (k : ℕ) → In k was.nodes
    → (is_disturbed (seated was) (seated are) (name k) ≡ false) ↔ StandsStill was are k

-- an old question is no candidate exactly where its node and those that its answer read stand
-- still, and its module has the same rules
abbrev pub UntouchedNodesAreNoCandidates : Type 0
UntouchedNodesAreNoCandidates =
    (old new : System) (xs ys : List (List LevelSymbol)) (t : ℕ)
    (name : ℕ → List ℕ) (was are : Seating) → AreLevelSeatings old new xs ys t name was are
    → (p k : ℕ) (l : List ℕ) (m : ModuleValue) (q : Question) (reads : List ℕ)
    → slice_get are.nodes p ≡ Some k → are.symbol k ≡ Module l m
    → question_at t l (questions old xs) ≡ Some q
    → AreNodesRead name was.nodes reads q.trace
    → (is_candidate_at old new xs t (seated are) (module_question new t (seated are) p l m)
    ≡ false)
    ↔ IsUntouchedNode old new t was are k l m reads

-- a node whose symbol, mate and neighbours' symbols are the old ones stands still, or is at a seam
abbrev pub NodesAwayFromSeamsStandStill : Type 0
NodesAwayFromSeamsStandStill =
    (old new : Seating) (T R S : List ℕ) (f g : ℕ → List ℕ) (xs ys : List ℕ)
    → AreTouched T f g xs ys → AreTurned right_of R xs ys → AreTurned left_of S xs ys
    → old.nodes ≡ flat f xs → new.nodes ≡ flat g ys
    → (k : ℕ) → In k old.nodes → In k new.nodes
    → AreSameSymbols old new k → new.mate k ≡ old.mate k
    → StandsStill old new k ⊎ (IsRightSeam T R g ys k ⊎ IsLeftSeam T S g ys k)
