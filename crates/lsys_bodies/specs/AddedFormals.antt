-- What is added to the formals that are kept of a rule, by what they stand in.
use Rattle.std.specs.Prelude.{ℕ, List}
use Rattle.lsys_syntax.specs.Tokens.{Kind}
use Rattle.lsys_syntax.specs.Pieces.{Piece}
use Rattle.lsys_reading.specs.declared.patterns.PatternSymbol.{PatternSymbol}
use Rattle.lsys_bodies.specs.Formals.{Adds, formals_in, symbol_formals}
use Rattle.lsys_bodies.specs.PatternPieces.{module_pieces, pattern_pieces}
use Rattle.lsys_bodies.specs.declared.formals.FormalNames.{FormalNames}

-- a name, which is this token, and these formals after it
abbrev pub AddsModule : FormalNames → Kind → List (List ℕ) → FormalNames → Type 0
AddsModule old k fs new = Adds old fs (module_pieces k fs) new

abbrev pub AddsPattern : FormalNames → PatternSymbol → FormalNames → Type 0
AddsPattern old x new = Adds old (symbol_formals x) (pattern_pieces x) new

-- patterns that these are the pieces of
abbrev pub AddsPatterns : FormalNames → List PatternSymbol → List Piece → FormalNames → Type 0
AddsPatterns old xs ps new = Adds old (formals_in xs) ps new
