-- The next level fits after those so far.
use Rattle.std.proofs.Common.{◌≡◌, ℕ, zero, suc, ◌+◌, ◌≤◌, false, Some, Result, Ok, List, [], ◌∷◌, ◌++◌, length, map, get_or, refl, sym, ap, ◌∙◌, arith, add-one}
use Rattle.std.specs.Prelude.{slice_get, sum_by, nat_lt}
use Rattle.std.proofs.lemmas.Bool.Decides.{nat_tests}
use Rattle.std.proofs.lemmas.List.Sums.{sum_by_push, sum_by-cons}
use Rattle.lsys_spec.specs.Systems.{System, WellSpelled}
use Rattle.lsys_spec.specs.Values.{◌and_then◌}
use Rattle.lsys_spec.specs.Levels.{LevelSymbol, plain}
use Rattle.lsys_spec.specs.Meaning.{LevelRefusal, first_level, next_level, last_level, within_limit, meaning_to}
use Rattle.lsys_module.specs.Views.{string_of}
use Rattle.lsys_module.specs.declared.symbol.Symbol.{Symbol as Code}
use Rattle.lsys_flat.specs.Grown.{HasSymbols}
use Rattle.lsys_flat.specs.declared.level.Level.{Level}
use Rattle.lsys_flat.specs.Revised.{IsNextLevel, above_level}
use Rattle.lsys_flat.proofs.Depths.{level_grown, within}

-- 1. meanings, level by level

not_over : (limit n : ℕ) → n ≤ limit → nat_lt limit n ≡ false
not_over limit n h = grind (arith, nat_tests)

fits : (limit t : ℕ) (levels : List (List LevelSymbol)) → sum_by length levels ≤ limit → within_limit limit t levels ≡ Ok levels
fits limit t levels h = rw (not_over limit (sum_by length levels) h) refl

pub begins : (s : System) (limit : ℕ) → length (first_level s) ≤ limit → meaning_to s limit 0 ≡ Ok (first_level s ∷ [])
begins s limit h = fits limit 0 (first_level s ∷ []) (omega (arith, h, sum_by-cons (length {A = LevelSymbol}) (first_level s) []))

pub goes_on : (s : System) (limit t : ℕ) (ys : List (List LevelSymbol)) (y : List LevelSymbol) → meaning_to s limit t ≡ Ok ys → next_level s t (last_level ys) ≡ Ok y → sum_by length ys + length y ≤ limit → meaning_to s limit (t + 1) ≡ Ok (ys ++ y ∷ [])
goes_on s limit t ys y m n h =
    rw add-one (ap (λ (r : Result (List (List LevelSymbol)) LevelRefusal). r and_then λ levels. next_level s t (last_level levels) and_then λ x. within_limit limit (suc t) (levels ++ x ∷ [])) m
    ∙ ap (λ (r : Result (List LevelSymbol) LevelRefusal). r and_then λ x. within_limit limit (suc t) (ys ++ x ∷ [])) n
    ∙ fits limit (suc t) (ys ++ y ∷ []) (omega (arith, h, sum_by_push (length {A = LevelSymbol}) ys y)))

pub last_is : (ys : List (List LevelSymbol)) (t : ℕ) → length ys ≡ t + 1 → last_level ys ≡ get_or ys t []
last_is [] t e = absurd (omega (arith, e))
last_is (y ∷ []) zero e = refl
last_is (y ∷ []) (suc t) e = absurd (omega (arith, e))
last_is (y ∷ z ∷ ys) zero e = absurd (omega (arith, e))
last_is (y ∷ z ∷ ys) (suc t) e = last_is (z ∷ ys) t (omega (arith, e))

pub at_push : (ys : List (List LevelSymbol)) (y : List LevelSymbol) → slice_get (ys ++ y ∷ []) (length ys) ≡ Some y
at_push [] y = refl
at_push (x ∷ ys) y = at_push ys y

pub get_push : (ys : List (List LevelSymbol)) (y : List LevelSymbol) (t : ℕ) → length ys ≡ t → get_or (ys ++ y ∷ []) t [] ≡ y
get_push [] y t e = ap (λ t. get_or (y ∷ []) t []) (sym e)
get_push (x ∷ ys) y zero e = absurd (omega (arith, e))
get_push (x ∷ ys) y (suc t) e = get_push ys y t (omega (arith, e))

-- 2. the next level

pub same_length : (y : List LevelSymbol) (symbols : List Code) → map plain y ≡ string_of symbols → length symbols ≡ length y
same_length [] [] e = refl
same_length [] (c ∷ symbols) e = cc
same_length (a ∷ y) [] e = cc
same_length (a ∷ y) (c ∷ symbols) e = let rest : map plain y ≡ string_of symbols = cc in ap suc (same_length y symbols rest)

pub is_next : (s : System) (limit n : ℕ) (xs ys : List (List LevelSymbol)) (y : List LevelSymbol) (level : Level) → WellSpelled s → meaning_to s limit n ≡ Ok (ys ++ y ∷ []) → sum_by length xs ≤ 1000000 → limit ≤ 1000000
    → HasSymbols s.seed (above_level ys (length ys)) y level.symbols level.origins.items level.keys.items → IsNextLevel s.seed xs ys y level
is_next s limit n xs ys y level w m few small h =
    let g = level_grown s limit n (ys ++ y ∷ []) w m (length ys) y (at_push ys y) in
    let all = within s limit n (ys ++ y ∷ []) m in
    record { distinct = g.0; balanced = g.1; symbols = h; few = omega (arith, few, small, all, sum_by_push (length {A = LevelSymbol}) ys y) }
