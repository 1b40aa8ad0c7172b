-- Which number a symbol has among its siblings.
use Rattle.std.specs.Prelude.{◌≡◌, ℕ, ℤ, Some, List, slice_get, ◌+◌, ◌*◌, ◌==◌, take, count_by, ◌≢◌, ◌∷◌, ◌++◌, length, drop}
use Rattle.lsys_syntax.specs.Strings.{Symbol}
use Rattle.lsys_syntax.specs.Commands.{by_place, by_name}
use Rattle.lsys_spec.specs.Numbers.{numbers, code_of}
use Rattle.lsys_spec.specs.Draws.{number_base}
use Rattle.lsys_spec.specs.Systems.{Each}

-- by places the symbol at a place has this number
abbrev pub SymbolsAreNumberedByTheirPlaces : Type 0
SymbolsAreNumberedByTheirPlaces =
    (xs : List (Symbol ℤ)) (p : ℕ) (x : Symbol ℤ) → slice_get xs p ≡ Some x
    → slice_get (numbers by_place xs) p ≡ Some p

-- by names a symbol has its code, and the number of the earlier symbols of the same code
abbrev pub SymbolsAreNumberedByTheirNames : Type 0
SymbolsAreNumberedByTheirNames =
    (xs : List (Symbol ℤ)) (p : ℕ) (x : Symbol ℤ) → slice_get xs p ≡ Some x
    → slice_get (numbers by_name xs) p
    ≡ Some (number_base * code_of x + count_by (λ y. code_of y == code_of x) (take p xs))

-- where a symbol is put among others of which none has its code, their numbers by names stay
abbrev pub InsertedSymbolsLeaveOtherNumbers : Type 0
InsertedSymbolsLeaveOtherNumbers =
    (front back : List (Symbol ℤ)) (x : Symbol ℤ)
    → Each (λ y. code_of y ≢ code_of x) (front ++ back)
    → numbers by_name (front ++ x ∷ back)
    ≡ take (length front) (numbers by_name (front ++ back))
    ++ (number_base * code_of x) ∷ drop (length front) (numbers by_name (front ++ back))
