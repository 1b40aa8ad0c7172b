-- How the lines of a script and its bytes tell one another.
use Rattle.std.specs.Prelude.{◌≡◌, ℕ, List, [], ◌∷◌, ◌++◌, ◌⊎◌, Bool}
use Rattle.lsys_syntax.specs.Lines.{lines_of}
use Rattle.lsys_spec.specs.Systems.{System}
use Rattle.lsys_spec.specs.Refusals.{Reply}
use Rattle.lsys_spec.specs.Output.{out, IsFront, whole_lines}
use Rattle.lsys_laws.specs.Scripts.{with_feeds}

-- the lines with an LF between each and the next are the script, but for an LF at the end
abbrev pub LinesJoinedAreTheScript : Type 0
LinesJoinedAreTheScript =
    (bytes : List ℕ)
    → (bytes ≡ with_feeds (lines_of bytes)) ⊎ (bytes ≡ with_feeds (lines_of bytes) ++ 10 ∷ [])

-- the replies to the whole lines of a script's front are a front of the replies to the script
abbrev pub WholeLinesAreAnsweredFirst : Type 0
WholeLinesAreAnsweredFirst =
    (answer : System → List ℕ → Reply) (front script : List ℕ) (lacks : ℕ → Bool)
    → IsFront front script
    → IsFront (out answer (whole_lines front) lacks) (out answer script lacks)
