-- What is said of every system of a session.
use Rattle.std.specs.Prelude.{◌≡◌, ℕ, false, Ok, List}
use Rattle.lsys_syntax.specs.Lines.{lines_of}
use Rattle.lsys_spec.specs.Systems.{System, Each, WellFormed, WellSpelled}
use Rattle.lsys_spec.specs.Levels.{LevelSymbol}
use Rattle.lsys_spec.specs.Meaning.{meaning}
use Rattle.lsys_spec.specs.Refusals.{is_long}
use Rattle.lsys_spec.specs.Replies.{reply}
use Rattle.lsys_spec.specs.Shown.{show_text}
use Rattle.lsys_spec.specs.Output.{out, any_refusal, last_system, none}

-- well formed, and spelled so that it can be printed and read back
abbrev pub IsWell : System → Type 0
IsWell s = WellFormed s × WellSpelled s

-- it has its levels under the limit
abbrev pub HasLevels : ℕ → System → Type 0
HasLevels limit s = (levels : List (List LevelSymbol)) × (meaning s limit ≡ Ok levels)

-- no line of its printed script is too long
abbrev pub HasShortLines : System → Type 0
HasShortLines s = Each (λ line. is_long line ≡ false) (lines_of (show_text s))

-- no reply to its printed script under the limit is a refusal, and the last system is that system
pub record IsTakenBack (limit : ℕ) (s : System) : Type 0 where
  pub accepted : any_refusal (out (reply limit) (show_text s) none) ≡ false
  pub same : last_system (out (reply limit) (show_text s) none) ≡ s
