-- What lasts from system to system along a session.
use Rattle.std.specs.Prelude.{◌≡◌, ◌≤◌, Ok, ℕ, List, Bool}
use Rattle.lsys_syntax.specs.Limits.{nesting_bound}
use Rattle.lsys_syntax.specs.Commands.{Command, IsCommand, nesting}
use Rattle.lsys_syntax.specs.Lines.{lines_of}
use Rattle.lsys_spec.specs.Systems.{System, Each}
use Rattle.lsys_spec.specs.Edits.{apply}
use Rattle.lsys_spec.specs.Replies.{reply}
use Rattle.lsys_spec.specs.Output.{out, last_system}
use Rattle.lsys_spec.specs.ReadBack.{IsReadBack, IsPlainLine}
use Rattle.lsys_spec.specs.Shown.{show_text}
use Rattle.lsys_laws.specs.Sessions.{IsWell, HasLevels}

-- what a sentence's command makes of a well-formed and well-spelled system is such a system
abbrev pub EditsKeepSystemsWell : Type 0
EditsKeepSystemsWell =
    (s : System) (c : Command) (t : System) → IsWell s → IsCommand c → nesting c ≤ nesting_bound
    → apply s c ≡ Ok t → IsWell t

-- and so is what a line leaves of one
abbrev pub LinesKeepSystemsWell : Type 0
LinesKeepSystemsWell =
    (limit : ℕ) (s : System) (line : List ℕ) → IsWell s → IsWell (reply limit s line).next

-- each system of a session is well formed and well spelled
abbrev pub SessionsHaveSystemsThatAreWell : Type 0
SessionsHaveSystemsThatAreWell =
    (limit : ℕ) (script : List ℕ) (lacks : ℕ → Bool)
    → Each (λ r. IsWell r.next) (out (reply limit) script lacks)

-- and so is the last one
abbrev pub SessionsLeaveASystemThatIsWell : Type 0
SessionsLeaveASystemThatIsWell =
    (limit : ℕ) (script : List ℕ) (lacks : ℕ → Bool)
    → IsWell (last_system (out (reply limit) script lacks))

-- what is printed of each system of a session reads back as the system
abbrev pub SessionsHaveSystemsThatReadBack : Type 0
SessionsHaveSystemsThatReadBack =
    (limit : ℕ) (script : List ℕ) (lacks : ℕ → Bool)
    → Each (λ r. IsReadBack r.next) (out (reply limit) script lacks)

-- and its lines are read as they stand
abbrev pub SessionsHaveSystemsOfPlainLines : Type 0
SessionsHaveSystemsOfPlainLines =
    (limit : ℕ) (script : List ℕ) (lacks : ℕ → Bool)
    → Each (λ r. Each IsPlainLine (lines_of (show_text r.next))) (out (reply limit) script lacks)

-- what a line leaves of a system that has its levels under the session's limit has its levels too
abbrev pub LinesKeepLevels : Type 0
LinesKeepLevels =
    (limit : ℕ) (s : System) (line : List ℕ) → HasLevels limit s
    → HasLevels limit (reply limit s line).next

-- each system of a session has its levels under the session's limit
abbrev pub SessionsHaveSystemsWithLevels : Type 0
SessionsHaveSystemsWithLevels =
    (limit : ℕ) (script : List ℕ) (lacks : ℕ → Bool)
    → Each (λ r. HasLevels limit r.next) (out (reply limit) script lacks)
