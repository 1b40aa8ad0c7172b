-- How a command is kept.
use Rattle.std.specs.Prelude.{List}
use Rattle.lsys_text.specs.declared.token_kind.Token.{Token}
use Rattle.lsys_reading.specs.declared.command.ReadCommand.TheInside.{Inside}
use Rattle.lsys_reading.specs.Tokens.{kinds_in}
use Rattle.lsys_reading.specs.Parted.{IsParted}

abbrev pub command_tokens : Inside → List Token
command_tokens a = a.line.tokens.items

-- the tokens spell the command that has the parts
abbrev pub SpellsParts : Inside → Type 0
SpellsParts a = IsParted (kinds_in a.line) a.parts
