-- How a command is kept.
use Rattle.std.specs.Prelude.{◌≤◌, All}
use Rattle.lsys_syntax.specs.Limits.{most_line_bytes}
use Rattle.lsys_text.specs.Tokens.{kind_row, LiesInLine}
use Rattle.lsys_reading.specs.declared.parts.CommandParts.{CommandParts}
use Rattle.lsys_reading.specs.Parted.{IsParted}
use Rattle.lsys_rules.specs.declared.command.Command.TheInside.{Inside}
use Rattle.lsys_rules.specs.Lines.{CommandLine}
use Rattle.lsys_rules.specs.Formals.{HasFormals}

abbrev pub line_in : Inside → CommandLine
line_in a = record { tokens = a.line; bytes = a.bytes }

pub record IsCommandLine (a : Inside) : Type 0 where
  pub short : a.bytes ≤ most_line_bytes
  pub placed : All (LiesInLine a.bytes) a.line
  pub formals : (p : CommandParts) → IsParted (kind_row a.line) p → HasFormals p a.formals
