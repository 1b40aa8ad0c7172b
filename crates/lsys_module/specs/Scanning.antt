-- Tokens that are read as a string: the verdict on them, and the few facts about what was read that the verdict hangs on.
use Rattle.std.specs.Prelude.{◌≡◌, ℕ, zero, suc, ◌+◌, Bool, true, false, nat_lt, nat_le, List, [], ◌∷◌, drop, option_map, Option, Some, None, Result, Ok, Err, if◌then◌else◌}
use Rattle.lsys_syntax.specs.Limits.{value_bound}
use Rattle.lsys_syntax.specs.Tokens as syntax
use Rattle.lsys_syntax.specs.Strings.{Symbol, Signed}
use Rattle.lsys_syntax.specs.Commands.{set_axiom}
use Rattle.lsys_syntax.specs.LineMachine.{InAxiom, Symbols, Verdict, sentence, stops, verdict_from}
use Rattle.lsys_text.specs.declared.token_kind.Token.{Token}
use Rattle.lsys_text.specs.declared.refusals.PlaceRefusal.{PlaceRefusal}
use Rattle.lsys_text.specs.declared.refusals.PlaceRefusal.TheVariants as refusals
use Rattle.lsys_text.specs.Tokens.{kind_row}
use Rattle.lsys_module.specs.declared.glyph.StringGlyph.{StringGlyph}
use Rattle.lsys_module.specs.declared.glyph.StringGlyph.TheVariants.{Name, Minus, Push, Pop, Cut, Open, Close, Comma, Number, Other}
use Rattle.lsys_module.specs.declared.scan.ScanSpot.{ScanSpot}
use Rattle.lsys_module.specs.declared.scan.ScanSpot.TheVariants.{Between, NumberDue, MinusRead, NumberRead}
use Rattle.lsys_module.specs.declared.scan.Progress.{Progress}

-- the verdict on the tokens from a place on, read as a string
abbrev pub string_verdict : ℕ → List Token → Verdict
string_verdict from tokens = verdict_from from (InAxiom (Symbols [])) (drop from (kind_row tokens))

-- the tokens are a string
abbrev pub TellsString : Verdict → Type 0
TellsString v = (xs : List (Symbol Signed)) × (v ≡ sentence (set_axiom xs))

-- a string, or the first token with which no string goes on
abbrev pub IsScanned : Verdict → Result (Unit {0}) PlaceRefusal → Type 0
IsScanned v (Ok done) = TellsString v
IsScanned v (Err (refusals.Token place)) = v ≡ stops place
IsScanned v (Err (refusals.Deep place)) = ⊥

-- what a token is to a string
abbrev pub glyph_of : syntax.Kind → StringGlyph
glyph_of (syntax.Name n) = Name
glyph_of syntax.Plus = Name
glyph_of syntax.Minus = Minus
glyph_of syntax.Ampersand = Name
glyph_of syntax.Caret = Name
glyph_of syntax.Backslash = Name
glyph_of syntax.Slash = Name
glyph_of syntax.Bar = Name
glyph_of syntax.Bang = Name
glyph_of syntax.LeftBracket = Push
glyph_of syntax.RightBracket = Pop
glyph_of syntax.Percent = Cut
glyph_of syntax.LeftParen = Open
glyph_of syntax.RightParen = Close
glyph_of syntax.Comma = Comma
glyph_of (syntax.Number n) = Number n
glyph_of k = Other

-- after a `]`, where a branch is open
abbrev pub branch_closed : ℕ → Option Progress
branch_closed zero = None
branch_closed (suc n) = Some (record { spot = Between false; branches = n })

abbrev pub params_opened : Bool → ℕ → Option Progress
params_opened true branches = Some (record { spot = NumberDue; branches = branches })
params_opened false branches = None

-- between symbols, of which the last one is a module without parameters or not
abbrev pub between_step : StringGlyph → Bool → ℕ → Option Progress
between_step Name bare branches = Some (record { spot = Between true; branches = branches })
between_step Minus bare branches = Some (record { spot = Between true; branches = branches })
between_step Push bare branches = Some (record { spot = Between false; branches = branches + 1 })
between_step Pop bare branches = branch_closed branches
between_step Cut bare branches = Some (record { spot = Between false; branches = branches })
between_step Open bare branches = params_opened bare branches
between_step g bare branches = None

-- in parentheses
abbrev pub param_step : ScanSpot → StringGlyph → Option ScanSpot
param_step NumberDue (Number n) = if nat_lt n value_bound then Some NumberRead else None
param_step NumberDue Minus = Some MinusRead
param_step MinusRead (Number n) = if nat_le n value_bound then Some NumberRead else None
param_step NumberRead Comma = Some NumberDue
param_step NumberRead Close = Some (Between false)
param_step s g = None

abbrev pub spot_step : ScanSpot → ℕ → StringGlyph → Option Progress
spot_step (Between bare) branches g = between_step g bare branches
spot_step s branches g = option_map (λ spot. record { spot = spot; branches = branches }) (param_step s g)

-- one more token, where a string goes on with it
abbrev pub progress_step : Progress → StringGlyph → Option Progress
progress_step p g = spot_step p.spot p.branches g

-- a string may end here
abbrev pub may_end : ScanSpot → ℕ → Bool
may_end (Between bare) zero = true
may_end s branches = false

-- the first token, from number n on, with which no string goes on
abbrev pub refused_from : ℕ → Progress → List syntax.Kind → Option ℕ
refused_from n p [] = if may_end p.spot p.branches then None else Some n
refused_from n p (k ∷ ks) = elim (progress_step p (glyph_of k)) [ None ↦ Some n | Some q ↦ refused_from (n + 1) q ks ]
