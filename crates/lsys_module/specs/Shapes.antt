-- The symbols that shapes stand for.
use Rattle.std.specs.Prelude.{ℕ, Bool, List, map}
use Rattle.lsys_syntax.specs.Pieces.{Piece, text_of}
use Rattle.lsys_syntax.specs.Strings as strings
use Rattle.lsys_module.specs.Printing.{symbol_after}
use Rattle.lsys_module.specs.Views.{module_name}
use Rattle.lsys_module.specs.declared.notation.Shape.{Shape}
use Rattle.lsys_module.specs.declared.notation.Shape.TheVariants.{Push, Pop, Cut, Module}

-- the symbol of this shape, each of whose parameters stands for another
abbrev pub symbol_in : {P Q : Type 0} → (P → Q) → Shape P → strings.Symbol Q
symbol_in param Push = strings.Push
symbol_in param Pop = strings.Pop
symbol_in param Cut = strings.Cut
symbol_in param (Module name params) = strings.Module (module_name name) (map param params.now)

-- what symbols and parameters of the code stand for, and how such a parameter is written
pub record NotationOf (S P W : Type 0) : Type 0 where
  pub symbol : S → strings.Symbol W
  pub param : P → W
  pub print : W → List Piece

-- a symbol as it is printed, after a blank where it needs one
abbrev pub after_in : {S P W : Type 0} → NotationOf S P W → Bool → S → List ℕ
after_in way runs_on x = symbol_after way.print runs_on (way.symbol x)

-- symbols as they are printed one after the other
abbrev pub text_in : {S P W : Type 0} → NotationOf S P W → List S → List ℕ
text_in way xs = text_of (strings.string_pieces way.print (map way.symbol xs))
