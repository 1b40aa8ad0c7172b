-- Tokens that spell a command, and its parts.
use Rattle.std.specs.Prelude.{◌≡◌, List, unwrap_or}
use Rattle.lsys_syntax.specs.Tokens.{Kind}
use Rattle.lsys_syntax.specs.Commands as spec
use Rattle.lsys_syntax.specs.LineMachine.{sentence, verdict, parse_command}
use Rattle.lsys_text.specs.Tokens.{kind_row}
use Rattle.lsys_text.specs.declared.token_kind.Token.{Token}
use Rattle.lsys_reading.specs.declared.parts.CommandParts.{CommandParts}
use Rattle.lsys_reading.specs.Commands.{parts_command, AreParts}

-- the command that the tokens spell; where they spell none, it is `quit`
abbrev pub command_of : List Token → spec.Command
command_of ts = unwrap_or (parse_command (kind_row ts)) spec.quit

-- The tokens spell the command that has these parts.
pub record IsParted (ks : List Kind) (p : CommandParts) : Type 0 where
  pub spelled : verdict ks ≡ sentence (parts_command ks p)
  pub parts : AreParts ks p
