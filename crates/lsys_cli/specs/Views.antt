-- The desk of the code as that of the definitions.
use Rattle.std.specs.Prelude.{◌+◌, Option}
use Rattle.lsys_spec.specs.Systems.{System}
use Rattle.lsys_text.specs.Tokens.{kind_of}
use Rattle.lsys_text.specs.declared.token_kind.Token.{Token}
use Rattle.lsys_text.specs.declared.token_kind.TokenKind.{TokenKind}
use Rattle.lsys_history.specs.Timelines.{Timeline}
use Rattle.lsys_history.specs.Desks.{Desk, desk, two_kinds_ask}
use Rattle.lsys_history.specs.Desks as desks
use Rattle.lsys_cli.specs.declared.desk_line.DeskLine.{DeskLine}
use Rattle.lsys_cli.specs.declared.desk_line.DeskLine.TheVariants.{Undo, Redo, Growth, Bounds, At}

-- what a line asks of a desk
abbrev pub desk_line_of : DeskLine → desks.DeskLine
desk_line_of Undo = desks.undo
desk_line_of Redo = desks.redo
desk_line_of (Growth level) = desks.growth level
desk_line_of Bounds = desks.bounds
desk_line_of (At place column) = desks.at place column

-- what a token of this kind and one after it ask
abbrev pub asked_by_two : TokenKind → Token → Option desks.DeskLine
asked_by_two first second = two_kinds_ask (kind_of first) (kind_of second.kind) (second.start + 1)

-- what contracts see of a desk: the derivation of its system, and the steps that led there
pub record Bench (D : Type 0) : Type 0 where
  pub derivation : D
  pub steps : Timeline System

abbrev pub bench : {D : Type 0} → D → Timeline System → Bench D
bench d h = record { derivation = d; steps = h }

-- a bench as a desk
abbrev pub desk_on : {D : Type 0} → (D → System) → Bench D → Desk
desk_on system_of b = desk (system_of b.derivation) b.steps
