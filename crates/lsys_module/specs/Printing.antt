-- What the parts of a printed string are printed as, whatever its parameters are.
use Rattle.std.specs.Prelude.{ℕ, Bool, List, [], ◌∷◌, ◌++◌}
use Rattle.lsys_syntax.specs.Pieces.{Piece, text_of}
use Rattle.lsys_syntax.specs.Strings.{Symbol, Module, ModuleName, gap, is_letters, ends_in_name, starts_with_letter, symbol_pieces, params_pieces}
use Rattle.lsys_spec.specs.Systems.{module_name_text}

-- a blank, where a name runs on and what follows begins with a letter
abbrev pub gap_text : Bool → Bool → List ℕ
gap_text runs_on letter = text_of (gap runs_on letter)

-- a name, after a blank where it needs one
abbrev pub name_after : Bool → ModuleName → List ℕ
name_after runs_on name = gap_text runs_on (is_letters name) ++ module_name_text name

-- a symbol, after a blank where it needs one
abbrev pub symbol_after : {P : Type 0} → (P → List Piece) → Bool → Symbol P → List ℕ
symbol_after print runs_on s = gap_text runs_on (starts_with_letter s) ++ text_of (symbol_pieces print s)

-- symbols, each after a blank where it needs one
abbrev pub symbols_after : {P : Type 0} → (P → List Piece) → Bool → List (Symbol P) → List ℕ
symbols_after print runs_on [] = []
symbols_after print runs_on (x ∷ xs) = symbol_after print runs_on x ++ symbols_after print (ends_in_name x) xs

-- the parameters of a module, in parentheses where there are any
abbrev pub params_text : {P : Type 0} → (P → List Piece) → List P → List ℕ
params_text print params = text_of (params_pieces print params)

-- a `,` before each
abbrev pub more_text : {P : Type 0} → (P → List Piece) → List P → List ℕ
more_text print [] = []
more_text print (x ∷ xs) = 44 ∷ text_of (print x) ++ more_text print xs

-- a letter directly after a module with this name and no parameters is read as part of the name
abbrev pub runs_on_after : ModuleName → Bool
runs_on_after name = ends_in_name {P = ℕ} (Module name [])
