-- Tokens that are a string, counted one after another.
use Rattle.std.specs.Prelude.{◌≡◌, ℕ, ◌+◌, nat_le, length, Option, Some, None, if◌then◌else◌}
use Rattle.lsys_syntax.specs.Limits.{most_params, most_axiom_symbols}
use Rattle.lsys_syntax.specs.Commands.{set_axiom}
use Rattle.lsys_syntax.specs.LineMachine.{Verdict, sentence}
use Rattle.lsys_syntax.specs.Checks.{axiom_many}
use Rattle.lsys_module.specs.declared.glyph.StringGlyph.{StringGlyph}
use Rattle.lsys_module.specs.declared.glyph.StringGlyph.TheVariants as glyphs
use Rattle.lsys_module.specs.declared.limits.StringCounts.{StringCounts}
use Rattle.lsys_module.specs.declared.limits.CountSpot.{CountSpot}
use Rattle.lsys_module.specs.declared.limits.CountSpot.TheVariants.{Outside, AfterName, ParamDue, InParam}
use Rattle.lsys_module.specs.Building.{Draft, whole, named, number_due, minus_read, number_read}

-- the token at which the string that a verdict tells passes a limit
abbrev pub IsLimitPlace : ℕ → Verdict → Option ℕ → Type 0
IsLimitPlace from (sentence (set_axiom xs)) place = place ≡ axiom_many from xs
IsLimitPlace from v place = ⊥

abbrev pub with_spot : CountSpot → StringCounts → StringCounts
with_spot spot c = record c { spot = spot }

-- after a symbol's first token
abbrev pub spot_after : StringGlyph → CountSpot
spot_after glyphs.Name = AfterName
spot_after glyphs.Minus = AfterName
spot_after g = Outside

abbrev pub with_symbol : CountSpot → StringCounts → Option StringCounts
with_symbol spot c = if nat_le most_axiom_symbols c.symbols then None else Some (record { spot = spot; symbols = c.symbols + 1; params = 0 })

abbrev pub with_param : StringCounts → Option StringCounts
with_param c = if nat_le most_params c.params then None else Some (record { spot = InParam; symbols = c.symbols; params = c.params + 1 })

abbrev pub spot_counted : CountSpot → StringCounts → StringGlyph → Option StringCounts
spot_counted Outside c g = with_symbol (spot_after g) c
spot_counted AfterName c glyphs.Open = Some (with_spot ParamDue c)
spot_counted AfterName c g = with_symbol (spot_after g) c
spot_counted ParamDue c g = with_param c
spot_counted InParam c glyphs.Comma = Some (with_spot ParamDue c)
spot_counted InParam c glyphs.Close = Some (with_spot Outside c)
spot_counted InParam c g = Some c

-- one more token, or None where it is one too many
abbrev pub counter_step : StringCounts → StringGlyph → Option StringCounts
counter_step c g = spot_counted c.spot c g

-- the count of what was read
abbrev pub CountsDraft : Draft → StringCounts → Type 0
CountsDraft (whole ys) c = (c.spot ≡ Outside) × (c.symbols ≡ length ys)
CountsDraft (named ys n) c = (c.spot ≡ AfterName) × (c.symbols ≡ length ys + 1) × (c.params ≡ 0)
CountsDraft (number_due ys n zs) c = (c.spot ≡ ParamDue) × (c.symbols ≡ length ys + 1) × (c.params ≡ length zs)
CountsDraft (minus_read ys n zs) c = (c.spot ≡ InParam) × (c.symbols ≡ length ys + 1) × (c.params ≡ length zs + 1)
CountsDraft (number_read ys n zs) c = (c.spot ≡ InParam) × (c.symbols ≡ length ys + 1) × (c.params ≡ length zs)
