-- How the motion of a whole is told by those of its parts, and the extents that it carries.
use Rattle.std.specs.Prelude.{Contains, Option, ◌≡◌, ℤ, true, List, ◌++◌, [], ◌∷◌, Some, Ok}
use Rattle.lsys_syntax.specs.Strings.{balanced, ModuleName}
use Rattle.lsys_syntax.specs.Strings as S
use Rattle.lsys_spec.specs.Lattices.{Lattice, Frame, frames}
use Rattle.lsys_spec.specs.Pictures.{act, Segment, origin, segments_of}
use Rattle.lsys_lattice.specs.Extents.{Extents, AreCarried, extents}
use Rattle.lsys_lattice.specs.Effects.{Stand}
use Rattle.lsys_lattice.specs.Bounds.{bounds_of}
use Rattle.lsys_lattice.specs.Motions.{carried_extents, AreSeen, seen_from, motion, joined_motions, Motion, IsJoined, at_rest, branched, motion_of_act, united}

-- what a frame makes of the extents of places is told by the extents alone
abbrev pub FramesCarryExtents : Type 0
FramesCarryExtents =
    (l : Lattice) (f : Frame) (e : Extents) → Contains (frames l) f
    → AreCarried l f e (carried_extents l f e)

-- and so is how they are seen from a stand
abbrev pub StandsSeeExtents : Type 0
StandsSeeExtents =
    (l : Lattice) (from : Stand) (o : Option Extents)
    → Contains (frames l) from.frame
    → AreSeen l from o (seen_from l from o)

-- the motion of strings one after the other is their motions joined
abbrev pub MotionsAreJoined : Type 0
MotionsAreJoined =
    (l : Lattice) (xs ys : List (S.Symbol ℤ)) → balanced 0 xs ≡ true
    → balanced 0 ys ≡ true
    → motion l (xs ++ ys) ≡ joined_motions l (motion l xs) (motion l ys)

-- whatever is joined of the two motions is that motion
abbrev pub WhatIsJoinedIsTheMotion : Type 0
WhatIsJoinedIsTheMotion =
    (l : Lattice) (xs ys : List (S.Symbol ℤ)) (whole : Motion)
    → balanced 0 xs ≡ true → balanced 0 ys ≡ true
    → IsJoined l (motion l xs) (motion l ys) whole
    → whole ≡ joined_motions l (motion l xs) (motion l ys)

-- it doesn't matter which motions are joined first
abbrev pub JoiningIsAssociative : Type 0
JoiningIsAssociative =
    (l : Lattice) (xs ys zs : List (S.Symbol ℤ))
    → balanced 0 xs ≡ true → balanced 0 ys ≡ true → balanced 0 zs ≡ true
    → joined_motions l (joined_motions l (motion l xs) (motion l ys)) (motion l zs)
    ≡ joined_motions l (motion l xs) (joined_motions l (motion l ys) (motion l zs))

-- rest before a motion adds nothing
abbrev pub RestBeforeAddsNothing : Type 0
RestBeforeAddsNothing =
    (l : Lattice) (xs : List (S.Symbol ℤ)) → balanced 0 xs ≡ true
    → joined_motions l (at_rest l 0) (motion l xs) ≡ motion l xs

-- nor does rest after one
abbrev pub RestAfterAddsNothing : Type 0
RestAfterAddsNothing =
    (l : Lattice) (xs : List (S.Symbol ℤ)) → balanced 0 xs ≡ true
    → joined_motions l (motion l xs) (at_rest l 0) ≡ motion l xs

-- a branch leads nowhere, and draws and reaches what is in it
abbrev pub BranchesLeadNowhere : Type 0
BranchesLeadNowhere =
    (l : Lattice) (xs : List (S.Symbol ℤ)) → balanced 0 xs ≡ true
    → motion l (S.Push ∷ xs ++ S.Pop ∷ []) ≡ branched l (motion l xs)

-- a single module has the motion of what it does
abbrev pub ModulesMoveAsTheyAct : Type 0
ModulesMoveAsTheyAct =
    (l : Lattice) (name : ModuleName) (ps : List ℤ)
    → motion l (S.Module name ps ∷ []) ≡ motion_of_act l (act name ps)

-- how far a picture reaches is told by the motion of its image
abbrev pub MotionsTellBounds : Type 0
MotionsTellBounds =
    (l : Lattice) (xs : List (S.Symbol ℤ)) (gs : List Segment)
    → segments_of l xs ≡ Ok gs
    → Some (bounds_of l gs) ≡ united (Some (extents l origin [])) (motion l xs).drawn
