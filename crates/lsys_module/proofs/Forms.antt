-- Symbols of the language, in lists that change.
use Rattle.std.proofs.Common.{ℕ, zero, suc, List, [], ◌∷◌, take, set}
use Rattle.lsys_syntax.specs.Strings.{AreSymbols, IsSymbol, IsParam}
use Rattle.lsys_module.specs.declared.symbol.Symbol.{Symbol as Code}
use Rattle.lsys_module.specs.Views.{symbol_of, string_of}

-- the first ones
pub forms-take : (n : ℕ) (xs : List Code) → AreSymbols (string_of xs) → AreSymbols (string_of (take n xs))
forms-take zero xs g = tt
forms-take (suc n) [] g = tt
forms-take (suc n) (x ∷ xs) g = (g.0, forms-take n xs g.1)

-- another in the place of one
pub forms-set : (xs : List Code) (i : ℕ) (x : Code) → AreSymbols (string_of xs) → IsSymbol IsParam (symbol_of x) → AreSymbols (string_of (set xs i x))
forms-set [] i x g h = tt
forms-set (y ∷ ys) zero x g h = (h, g.1)
forms-set (y ∷ ys) (suc i) x g h = (g.0, forms-set ys i x g.1 h)
