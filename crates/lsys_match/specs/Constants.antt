-- What replaces a module, where it stands in the body of the chosen rule.
use Rattle.std.specs.Prelude.{◌≡◌, ℕ, List, IfSome, Option, Some, None, slice_get, unwrap_or}
use Rattle.lsys_module.specs.declared.symbol.Symbol.{Symbol}
use Rattle.lsys_bodies.specs.declared.body.Body.{Body}
use Rattle.lsys_bodies.specs.Constants.{constant_of}
use Rattle.lsys_match.specs.Kept.{Kept}

-- the body of the chosen rule
abbrev pub body_chosen : List Body → Option ℕ → Option Body
body_chosen bodies None = None
body_chosen bodies (Some g) = slice_get bodies g

-- the symbols of a body's successor, where that has no parameters
abbrev pub constant_in : Option Body → Option (List Symbol)
constant_in None = None
constant_in (Some b) = constant_of b.successor.items

-- those of the chosen rule
abbrev pub constant_chosen : List Body → Option ℕ → Option (List Symbol)
constant_chosen bodies chosen = constant_in (body_chosen bodies chosen)

-- those of an answer's rule
abbrev pub constant_kept : Kept → Option (List Symbol)
constant_kept a = constant_chosen a.bodies a.chosen

-- the body's successor becomes these symbols, or has parameters
abbrev pub MayBecome : List Symbol → Body → Type 0
MayBecome symbols b = IfSome (constant_of b.successor.items) (λ s. s ≡ symbols)

-- what replaces a module, where these symbols are kept beside the chosen rule: they count only where its successor has
-- parameters, or where none is chosen
abbrev pub symbols_by : List Body → Option ℕ → List Symbol → List Symbol
symbols_by bodies chosen kept = unwrap_or (constant_chosen bodies chosen) kept
