-- The levels in their array.
use Rattle.std.proofs.Common.{◌≡◌, ◌≤◌, ◌<◌, ◌+◌, ◌-◌, ℕ, zero, suc, List, [], ◌∷◌, drop, length, set, nat_lt, arith, ap, ◌∙◌, refl}
use Rattle.std.proofs.lemmas.Bool.Decides.{nat_tests}
use Rattle.std.proofs.lemmas.Grind.{drop-set_at}
use Rattle.std.proofs.Common.{length-set, length-drop}
use Rattle.lsys_expr.specs.declared.levels.OpenLevel.{OpenLevel}
use Rattle.lsys_expr.specs.declared.levels.OpenLevels.TheInside.{Inside}
use Rattle.lsys_expr.specs.Levels.{fresh, inner_nesting, outer_nesting, is_inside}
use Rattle.lsys_expr.specs.InsideLevels.{inside_levels, CountsOpen}

-- a parenthesis is open where the array is in use
pub inside-drop : (xs : List OpenLevel) (l : OpenLevel) (i : ℕ) → nat_lt i (length xs) ≡ is_inside (l ∷ drop i xs)
inside-drop [] l zero = refl
inside-drop [] l (suc i) = grind (arith, nat_tests)
inside-drop (x ∷ xs) l zero = grind (arith, nat_tests)
inside-drop (x ∷ xs) l (suc i) = let one : nat_lt (suc i) (suc (length xs)) ≡ nat_lt i (length xs) = grind (arith, nat_tests) in one ∙ inside-drop xs l i

-- each level around the innermost one is after a parenthesis
outer-length : (ls : List OpenLevel) → length ls ≤ outer_nesting ls
outer-length [] = omega arith
outer-length (l ∷ ls) = let h : length ls ≤ outer_nesting ls = outer-length ls in omega (arith, h)

-- there is room for one more
pub room-left : (a : Inside) → CountsOpen a → inner_nesting (inside_levels a) < 32 → 1 ≤ a.first
room-left a h n =
    let long : length (drop a.first a.outer) ≤ outer_nesting (drop a.first a.outer) = outer-length (drop a.first a.outer) in
    omega (arith, long, n, h.places, h.within, length-drop a.first a.outer)

-- with one more parenthesis
abbrev pub opened : Inside → Inside
opened a = record { innermost = fresh; outer = set a.outer (a.first - 1) a.innermost; first = a.first - 1; «open» = a.«open» + 1 }

opened-outer : (a : Inside) → CountsOpen a → inner_nesting (inside_levels a) < 32 → drop (a.first - 1) (set a.outer (a.first - 1) a.innermost) ≡ inside_levels a
opened-outer a h n =
    let some : 1 ≤ a.first = room-left a h n in
    let next : a.first - 1 + 1 ≡ a.first = omega (arith, some) in
    drop-set_at a.outer (a.first - 1) (a.first - 1) a.innermost refl (omega (arith, some, h.places, h.within))
    ∙ ap (λ i. a.innermost ∷ drop i a.outer) next

pub opened-levels : (a : Inside) → CountsOpen a → inner_nesting (inside_levels a) < 32 → inside_levels (opened a) ≡ fresh ∷ inside_levels a
opened-levels a h n = ap (λ ls. fresh ∷ ls) (opened-outer a h n)

pub opened-sound : (a : Inside) → CountsOpen a → inner_nesting (inside_levels a) < 32 → CountsOpen (opened a)
opened-sound a h n =
    let same : outer_nesting (drop (a.first - 1) (set a.outer (a.first - 1) a.innermost)) ≡ outer_nesting (inside_levels a) = ap outer_nesting (opened-outer a h n) in
    record {
      places = length-set a.outer (a.first - 1) a.innermost ∙ h.places;
      within = omega (arith, h.within);
      counted = omega (arith, same, h.counted);
      few = omega (arith, h.counted, n);
    }
