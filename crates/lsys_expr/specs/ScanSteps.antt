-- How a scan goes on with a token, as the definitions' reading does.
use Rattle.std.specs.Prelude.{◌≡◌, Bool}
use Rattle.lsys_syntax.specs.Tokens.{Kind}
use Rattle.lsys_syntax.specs.ExpressionMachine as machine
use Rattle.lsys_syntax.specs.RuleMachine.{small}
use Rattle.lsys_text.specs.declared.token_kind.TokenKind.{TokenKind}
use Rattle.lsys_text.specs.Tokens.{kind_of}
use Rattle.lsys_expr.specs.declared.scan.Awaited.TheVariants.{Operand}
use Rattle.lsys_expr.specs.declared.scan.TokenEffect.{TokenEffect}
use Rattle.lsys_expr.specs.declared.scan.TokenEffect.TheVariants.{Goes}
use Rattle.lsys_expr.specs.declared.scan.Scan.{Scan}
use Rattle.lsys_expr.specs.Scanning.{IsSeenWithin, IsTokenOutcome, IsEnded}

-- a token of this kind was taken
abbrev pub TakesKind : TokenKind → Scan → Scan → TokenEffect → Type 0
TakesKind kind old new outcome =
    (s : machine.ExpressionState) → IsSeenWithin old.awaited old.levels s
    → IsTokenOutcome new.awaited new.levels outcome s (machine.step s (small (kind_of kind)))

-- a token was taken of which this holds
abbrev pub GoesOnWith : (Kind → Type 0) → Scan → Scan → TokenEffect → Type 0
GoesOnWith IsSo old new outcome =
    (s : machine.ExpressionState) (t : Kind) → IsSeenWithin old.awaited old.levels s → IsSo t
    → IsTokenOutcome new.awaited new.levels outcome s (machine.step s t)

-- the scan goes on, and awaits an operand
abbrev pub GoesToOperand : Scan → Scan → TokenEffect → Type 0
GoesToOperand old new outcome =
    (outcome ≡ Goes) × (new ≡ record { awaited = Operand; levels = old.levels })

-- an expression ends with the last token, if the answer is yes
abbrev pub IsWholeIf : Bool → Scan → Type 0
IsWholeIf answer scan =
    (s : machine.ExpressionState) → IsSeenWithin scan.awaited scan.levels s → IsEnded answer (machine.end_step s)
