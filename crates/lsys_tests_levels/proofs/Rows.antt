-- Rows that are put together.
use Rattle.std.proofs.Common.{◌≡◌, ℕ, zero, suc, true, false, List, [], ◌∷◌, ◌++◌, ◌==◌, arith}
use Rattle.std.proofs.lemmas.Bool.Decides.{nat_tests}
use Rattle.lsys_syntax.specs.Strings.{balanced}
use Rattle.lsys_module.specs.Views.{string_of}
use Rattle.lsys_module.specs.declared.symbol.Symbol.{Symbol}
use Rattle.lsys_module.specs.declared.symbol.Symbol.TheVariants.{Push, Pop, Cut, Module}
use Rattle.lsys_level.specs.Places.{has_cut}

no_more : (k : ℕ) → (suc k == 0) ≡ true → ⊥
no_more k h = grind (arith, nat_tests)

pub balanced-append : (k : ℕ) (xs ys : List Symbol) → balanced k (string_of xs) ≡ true → balanced 0 (string_of ys) ≡ true → balanced k (string_of (xs ++ ys)) ≡ true
balanced-append zero [] ys h g = g
balanced-append (suc k) [] ys h g = absurd (no_more k h)
balanced-append k (Push ∷ xs) ys h g = balanced-append (suc k) xs ys h g
balanced-append zero (Pop ∷ xs) ys h g = cc
balanced-append (suc k) (Pop ∷ xs) ys h g = balanced-append k xs ys h g
balanced-append k (Cut ∷ xs) ys h g = balanced-append k xs ys h g
balanced-append k (Module m ∷ xs) ys h g = balanced-append k xs ys h g

pub whole-append : (xs ys : List Symbol) → has_cut xs ≡ false → has_cut ys ≡ false → has_cut (xs ++ ys) ≡ false
whole-append [] ys h g = g
whole-append (Push ∷ xs) ys h g = whole-append xs ys h g
whole-append (Pop ∷ xs) ys h g = whole-append xs ys h g
whole-append (Cut ∷ xs) ys h g = cc
whole-append (Module m ∷ xs) ys h g = whole-append xs ys h g
