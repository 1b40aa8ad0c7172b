-- What a session answers to a printed script, and what it leaves of a system without a command.
use Rattle.std.specs.Prelude.{ℕ, Bool, List, ◌≡◌, None}
use Rattle.lsys_spec.specs.Systems.{System, Each}
use Rattle.lsys_spec.specs.Replies.{reply, spelled_command}
use Rattle.lsys_spec.specs.Output.{out}
use Rattle.lsys_laws.specs.Sessions.{IsWell, HasLevels, HasShortLines, IsTakenBack}

-- a session accepts the printed script of a system that is well, has
-- its levels and no long line, and has that system then
abbrev pub ShortScriptsAreTakenBack : Type 0
ShortScriptsAreTakenBack =
    (limit : ℕ) (s : System) → IsWell s → HasLevels limit s → HasShortLines s → IsTakenBack limit s

-- so it is for each system of a session
abbrev pub SessionsHaveSystemsThatAreTakenBack : Type 0
SessionsHaveSystemsThatAreTakenBack =
    (limit : ℕ) (script : List ℕ) (lacks : ℕ → Bool)
    → Each (λ r. HasShortLines r.next → IsTakenBack limit r.next) (out (reply limit) script lacks)

-- a line that spells no command leaves the system as it was
abbrev pub LinesWithoutCommandLeaveTheSystem : Type 0
LinesWithoutCommandLeaveTheSystem =
    (limit : ℕ) (s : System) (line : List ℕ) → spelled_command line ≡ None
    → (reply limit s line).next ≡ s
