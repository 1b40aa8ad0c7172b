-- How the effects of strings, the ends that they draw and
-- the places that they reach are put together.
use Rattle.std.specs.Prelude.{◌≡◌, ℤ, true, List, Contains, ◌++◌, [], ◌∷◌, map}
use Rattle.lsys_syntax.specs.Strings.{balanced}
use Rattle.lsys_syntax.specs.Strings as S
use Rattle.lsys_spec.specs.Lattices.{Lattice, frames}
use Rattle.lsys_lattice.specs.Effects.{Stand, walker, walked, stand_from, effect, first_walker, place_from, drawn, reach, places_reached}

-- from any turtle the way over a balanced string ends where its
-- effect does, carried there, and what was saved stays
abbrev pub EffectsAreTheSameAnywhere : Type 0
EffectsAreTheSameAnywhere =
    (l : Lattice) (from : Stand) (below : List Stand) (xs : List (S.Symbol ℤ))
    → Contains (frames l) from.frame → balanced 0 xs ≡ true
    → walked l xs (walker from below) ≡ walker (stand_from l from (effect l xs)) below

-- the effects of strings one after the other are multiplied
abbrev pub EffectsAreMultiplied : Type 0
EffectsAreMultiplied =
    (l : Lattice) (xs ys : List (S.Symbol ℤ)) → balanced 0 xs ≡ true → balanced 0 ys ≡ true
    → effect l (xs ++ ys) ≡ stand_from l (effect l xs) (effect l ys)

-- a branch has no effect
abbrev pub BranchesHaveNoEffect : Type 0
BranchesHaveNoEffect =
    (l : Lattice) (xs : List (S.Symbol ℤ)) → balanced 0 xs ≡ true
    → effect l (S.Push ∷ xs ++ S.Pop ∷ []) ≡ (first_walker l).here

-- the ends that the second string draws are carried after the effect of the first
abbrev pub DrawnEndsAreCarriedOn : Type 0
DrawnEndsAreCarriedOn =
    (l : Lattice) (xs ys : List (S.Symbol ℤ)) → balanced 0 xs ≡ true → balanced 0 ys ≡ true
    → drawn l (xs ++ ys) ≡ drawn l xs ++ map (place_from l (effect l xs)) (drawn l ys)

-- and so are the places that it reaches
abbrev pub ReachedPlacesAreCarriedOn : Type 0
ReachedPlacesAreCarriedOn =
    (l : Lattice) (xs ys : List (S.Symbol ℤ)) → balanced 0 xs ≡ true → balanced 0 ys ≡ true
    → reach l (xs ++ ys) ≡ reach l xs ++ map (place_from l (effect l xs)) (reach l ys)

-- from any turtle the places that are reached are those from the start, carried there
abbrev pub ReachedPlacesAreTheSameAnywhere : Type 0
ReachedPlacesAreTheSameAnywhere =
    (l : Lattice) (from : Stand) (below : List Stand) (xs : List (S.Symbol ℤ))
    → Contains (frames l) from.frame → balanced 0 xs ≡ true
    → places_reached l xs (walker from below) ≡ map (place_from l from) (reach l xs)
