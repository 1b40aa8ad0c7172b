-- What kept motions tell of a picture: how far it reaches, and where its turtle stands after so many symbols of the image.
use Rattle.std.specs.Prelude.{ℤ, Option, Some, None, Result, Ok, Err, List, [], ◌∷◌, ℕ, ◌≡◌, option_map, slice_get}
use Rattle.lsys_syntax.specs.Strings as S
use Rattle.lsys_spec.specs.Systems.{System}
use Rattle.lsys_spec.specs.Values.{◌and_then◌}
use Rattle.lsys_spec.specs.Levels as L
use Rattle.lsys_spec.specs.Lattices.{Lattice}
use Rattle.lsys_spec.specs.Pictures.{Pose, Turtle, Stepped, PictureRefusal, at_start, picture, turtle_step}
use Rattle.lsys_lattice.specs.Extents.{Extents}
use Rattle.lsys_lattice.specs.Bounds.{bounds, bounds_of, travelled, turtle_or_refusal}

pub record Track : Type 0 where
  pub bounds : Extents  -- of the origin and both ends of each segment
  pub poses : List Pose  -- of the turtle after no symbol of the image, after one, and so on to all of them

abbrev pub poses_after : Option Stepped → (Turtle → List Pose) → List Pose
poses_after None rest = []
poses_after (Some s) rest = rest s.turtle

-- where a turtle stands on its way over symbols: before the first, and after each; up to one that would lead too far
abbrev pub poses_from : Lattice → Turtle → List (S.Symbol ℤ) → List Pose
poses_from l t [] = t.pose ∷ []
poses_from l t (x ∷ xs) = t.pose ∷ poses_after (turtle_step l x t) (λ u. poses_from l u xs)

abbrev pub poses_of : Lattice → List (S.Symbol ℤ) → List Pose
poses_of l ys = poses_from l (at_start l) ys

-- of a level's picture; refused as the picture is
abbrev pub told : System → List L.LevelSymbol → Result Track PictureRefusal
told s x = travelled s x and_then λ way. Ok (record { bounds = bounds_of s.lattice way.1; poses = poses_of s.lattice way.0 })

-- what is told of a picture: its bounds
abbrev pub TellsBounds : Type 0
TellsBounds =
    (s : System) (x : List L.LevelSymbol) (t : Track) → told s x ≡ Ok t → bounds s x ≡ Ok t.bounds

-- the pose of its turtle after any number of symbols
abbrev pub TellsTurtles : Type 0
TellsTurtles =
    (s : System) (x : List L.LevelSymbol) (t : Track) (n : ℕ) → told s x ≡ Ok t
    → (turtle_or_refusal s x n and_then λ o. Ok (option_map (λ u. u.pose) o))
    ≡ Ok (slice_get t.poses n)

-- and it is refused as the picture is
abbrev pub IsRefusedAsPicture : Type 0
IsRefusedAsPicture =
    (s : System) (x : List L.LevelSymbol) (r : PictureRefusal)
    → told s x ≡ Err r → picture s x ≡ Err r
