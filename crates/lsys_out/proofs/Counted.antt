-- No more symbols of an image come than it may have.
use Rattle.std.proofs.Common.{◌≡◌, ◌≤◌, ℕ, ℤ, ◌+◌, Bool, true, false, Result, Ok, Err, List, [], ◌∷◌, length, length-append, refl, arith, nat_lt, if◌then◌else◌}
use Rattle.std.proofs.lemmas.Bool.Decides.{nat_tests}
use Rattle.lsys_syntax.specs.Limits.{most_image_symbols}
use Rattle.lsys_syntax.specs.Strings as S
use Rattle.lsys_spec.specs.Systems.{Homomorphism}
use Rattle.lsys_spec.specs.Values.{Arith, ◌and_then◌}
use Rattle.lsys_spec.specs.Levels.{LevelSymbol, Push, Pop, Module}
use Rattle.lsys_spec.specs.Images.{ImageRefusal, ImageFault, ImageLimit, image_of, image_fault, within_image}
use Rattle.lsys_hom.specs.Coming.{Coming, coming_from, modules_after, symbol_image, coming_with}

within_few : (k : ℕ) (zs ys : List (S.Symbol ℤ)) → within_image k zs ≡ Ok ys → k + length ys ≤ most_image_symbols
within_few k zs ys h = by (nat_lt most_image_symbols (k + length zs)) refl h
  where
    by : (over : Bool) → nat_lt most_image_symbols (k + length zs) ≡ over → (if over then Err ImageLimit else Ok zs) ≡ Ok ys → k + length ys ≤ most_image_symbols
    by true t e = absurd (elim_err e)
      where
        elim_err : Err ImageLimit ≡ Ok ys → ⊥
        elim_err e = cc
    by false t e = let same : zs ≡ ys = cc in rw (← same) (grind (arith, nat_tests))

module_few : (n k : ℕ) (r : Result (List (S.Symbol ℤ)) Arith) (ys : List (S.Symbol ℤ)) → (image_fault (n + 1) r and_then within_image k) ≡ Ok ys → k + length ys ≤ most_image_symbols
module_few n k (Ok zs) ys h = within_few k zs ys h
module_few n k (Err e) ys h = absurd (none h)
  where
    none : Err (ImageFault e (n + 1)) ≡ Ok ys → ⊥
    none h = cc

one_few : (hs : List Homomorphism) (n k : ℕ) (s : LevelSymbol) (ys : List (S.Symbol ℤ)) → symbol_image hs n k s ≡ Ok ys → k + length ys ≤ most_image_symbols
one_few hs n k (Push l) ys h = within_few k (S.Push ∷ []) ys h
one_few hs n k (Pop l) ys h = within_few k (S.Pop ∷ []) ys h
one_few hs n k (Module l m) ys h = module_few n k (image_of hs m) ys h

told_few : (k : ℕ) (r : Result (List (S.Symbol ℤ)) ImageRefusal) (f : ℕ → Coming) → k ≤ most_image_symbols → ((ys : List (S.Symbol ℤ)) → r ≡ Ok ys → k + length ys ≤ most_image_symbols)
    → ((j : ℕ) → k + j ≤ most_image_symbols → k + j + length (f j).symbols ≤ most_image_symbols) → k + length (coming_with r f).symbols ≤ most_image_symbols
told_few k (Ok ys) f l h g = omega (arith, length-append ys (f (length ys)).symbols, g (length ys) (h ys refl))
told_few k (Err r) f l h g = omega (arith, l)

pub few_from : (hs : List Homomorphism) (n k : ℕ) (x : List LevelSymbol) → k ≤ most_image_symbols → k + length (coming_from hs n k x).symbols ≤ most_image_symbols
few_from hs n k [] l = omega (arith, l)
few_from hs n k (s ∷ x) l = told_few k (symbol_image hs n k s) _ l (one_few hs n k s) (λ j h. few_from hs (modules_after n s) (k + j) x h)
