-- The entries of a walk carry the rule for which it was made.
use Rattle.std.proofs.Common.{◌≡◌, ℕ, Bool, true, false, Some, None, List, [], ◌∷◌, refl}
use Rattle.lsys_syntax.specs.Strings.{ModuleName}
use Rattle.lsys_spec.specs.Systems.{Each}
use Rattle.lsys_spec.specs.Bodies.{Pattern, Patterns, Done, OneOf, BranchOf}
use Rattle.lsys_spec.specs.Levels.{LevelSymbol, Step, Passed, Around, OutOf, Items, Nothing, One, Branch}
use Rattle.lsys_spec.specs.Walks.{Mark, deeper, Entry, Told, Found, says, is_ignored, fits, left_walk, right_walk, followed_by, ahead, or_passed}
use Rattle.lsys_spec.proofs.Meetings.{met}
use Rattle.lsys_spec.proofs.Tells.{mark_of}
use Rattle.lsys_spec.proofs.Eachs.{each_append}

abbrev pub Ruled : ℕ → Entry → Type 0
Ruled g e = (mark_of e).rule ≡ g

met_ruled : (b e : Bool) (d : Mark) (s : LevelSymbol) (on next : Told Found) → Each (Ruled d.rule) on.entries → Each (Ruled d.rule) next.entries → Each (Ruled d.rule) (met b e d s on next).entries
met_ruled true e d s on next k l = (refl, k)
met_ruled false true d s on next k l = (refl, l)
met_ruled false false d s on next k l = (refl, tt)

pub left_ruled : (f : ModuleName → Bool) (d : Mark) (qs : List Pattern) (w : List Step) → Each (Ruled d.rule) (left_walk f d qs w).entries
left_ruled f d [] w = tt
left_ruled f d (q ∷ qs) [] = tt
left_ruled f d (q ∷ qs) (Passed s ∷ w) =
    met_ruled (is_ignored f s) (fits q s) d s (left_walk f d (q ∷ qs) w) (followed_by s (left_walk f d qs w)) (left_ruled f d (q ∷ qs) w) (left_ruled f d qs w)
left_ruled f d (q ∷ qs) (OutOf o ∷ w) = (refl, left_ruled f d (q ∷ qs) w)
left_ruled f d (q ∷ qs) (Around o c ∷ w) = (refl, left_ruled f d (q ∷ qs) w)

pub passed_all : (S : Entry → Type 0) (o : Found) (both passed : Told Found) → Each S both.entries → Each S passed.entries → Each S (or_passed o both passed).entries
passed_all S None both passed h k = k
passed_all S (Some ms) both passed h k = h

pub right_ruled : (f : ModuleName → Bool) (d : Mark) (p : Patterns) (r : Items) → Each (Ruled d.rule) (right_walk f d p r).entries
right_ruled f d Done r = tt
right_ruled f d (OneOf q p) Nothing = tt
right_ruled f d (OneOf q p) (One s r) =
    met_ruled (is_ignored f s) (fits q s) d s (right_walk f d (OneOf q p) r) (ahead s (right_walk f d p r)) (right_ruled f d (OneOf q p) r) (right_ruled f d p r)
right_ruled f d (OneOf q p) (Branch o c i r) = (refl, right_ruled f d (OneOf q p) r)
right_ruled f d (BranchOf qs p) Nothing = tt
right_ruled f d (BranchOf qs p) (One s r) = met_ruled (is_ignored f s) false d s (right_walk f d (BranchOf qs p) r) (says None) (right_ruled f d (BranchOf qs p) r) tt
right_ruled f d (BranchOf qs p) (Branch o c i r) =
    let inside = right_walk f (deeper d) qs i in
    let next = or_passed inside.answer (right_walk f d p r) (right_walk f d (BranchOf qs p) r) in (
      refl,
      each_append (Ruled d.rule) inside.entries next.entries (right_ruled f (deeper d) qs i)
          (passed_all (Ruled d.rule) inside.answer (right_walk f d p r) (right_walk f d (BranchOf qs p) r) (right_ruled f d p r) (right_ruled f d (BranchOf qs p) r)),
    )
