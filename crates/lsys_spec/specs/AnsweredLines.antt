-- What was answered stays answered, and what a line leaves after.
use Rattle.std.specs.Prelude.{ℕ, Bool, List, [], ◌∷◌, ◌++◌, ◌≡◌, true, Some, false, Ok}
use Rattle.lsys_syntax.specs.Commands.{Command}
use Rattle.lsys_spec.specs.Systems.{System}
use Rattle.lsys_spec.specs.Refusals.{Reply}
use Rattle.lsys_spec.specs.Output.{out, IsFront, quits}
use Rattle.lsys_spec.specs.Replies.{reply, spelled_command, is_query}
use Rattle.lsys_spec.specs.Edits.{apply}

-- the replies to a front of whole lines are a front of the replies
abbrev pub FrontsAreAnsweredAlike : Type 0
FrontsAreAnsweredAlike =
    (answer : System → List ℕ → Reply) (front rest : List ℕ) (M : ℕ → Bool)
    → IsFront (out answer (front ++ 10 ∷ []) M) (out answer (front ++ 10 ∷ rest) M)

-- after a `quit` that is heeded nothing is answered
abbrev pub NothingIsAnsweredAfterTheEnd : Type 0
NothingIsAnsweredAfterTheEnd =
    (answer : System → List ℕ → Reply) (front rest : List ℕ) (M : ℕ → Bool)
    → quits answer (front ++ 10 ∷ []) M ≡ true
    → out answer (front ++ 10 ∷ rest) M ≡ out answer (front ++ 10 ∷ []) M

-- a refused line leaves the system as it was
abbrev pub RefusedLinesLeaveTheSystem : Type 0
RefusedLinesLeaveTheSystem =
    (limit : ℕ) (s : System) (line : List ℕ)
    → (reply limit s line).is_refusal ≡ true → (reply limit s line).next ≡ s

-- and so does a query
abbrev pub QueriesLeaveTheSystem : Type 0
QueriesLeaveTheSystem =
    (limit : ℕ) (s : System) (line : List ℕ) (c : Command)
    → spelled_command line ≡ Some c → is_query c ≡ true → (reply limit s line).next ≡ s

-- an edit that isn't refused leaves what it makes of the system
abbrev pub AcceptedEditsLeaveWhatTheyMake : Type 0
AcceptedEditsLeaveWhatTheyMake =
    (limit : ℕ) (s : System) (line : List ℕ) (c : Command)
    → spelled_command line ≡ Some c → is_query c ≡ false → (reply limit s line).is_refusal ≡ false
    → apply s c ≡ Ok (reply limit s line).next
