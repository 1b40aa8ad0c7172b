-- What is asked of a picture as a whole: how far it reaches, and where its turtle is after some symbols of the image.
use Rattle.std.specs.Prelude.{ℕ, ℤ, Option, Some, None, Result, Ok, Err, List, [], ◌∷◌, ◌++◌, codes, decimal, length, take, nat_lt, if◌then◌else◌}
use Rattle.std.specs.Fmt.{signed_decimal}
use Rattle.lsys_syntax.specs.Strings as S
use Rattle.lsys_spec.specs.Systems.{System}
use Rattle.lsys_spec.specs.Values.{◌and_then◌}
use Rattle.lsys_spec.specs.Levels as L
use Rattle.lsys_spec.specs.Lattices.{Lattice}
use Rattle.lsys_spec.specs.Images.{image}
use Rattle.lsys_spec.specs.Pictures.{Pose, Turtle, Stepped, Segment, PictureRefusal, origin, at_start, turtle_step, or_no_image, or_far, segments_of}
use Rattle.lsys_spec.specs.PictureTexts.{place_text}
use Rattle.lsys_spec.specs.Refusals.{line_feed}
use Rattle.lsys_lattice.specs.Extents.{Extents, extents}
use Rattle.lsys_lattice.specs.Free.{ends_of}

-- 1. how far it reaches: the origin, and both ends of each segment

abbrev pub bounds_of : Lattice → List Segment → Extents
bounds_of l gs = extents l origin (ends_of gs)

abbrev pub bounds_text : Extents → List ℕ
bounds_text e =
    codes "bounds " ++ (signed_decimal e.low.x ++ 32 ∷ (signed_decimal e.high.x ++ 32 ∷ (signed_decimal e.low.y ++ 32 ∷ (signed_decimal e.high.y ++ 32 ∷
    (signed_decimal e.low.z ++ 32 ∷ (signed_decimal e.high.z ++ line_feed))))))

-- 2. where its turtle is

abbrev pub gone_on : Option Stepped → (Turtle → Option Turtle) → Option Turtle
gone_on None rest = None
gone_on (Some s) rest = rest s.turtle

-- the turtle after these symbols; None where it would be too far
abbrev pub turtle_after : Lattice → Turtle → List (S.Symbol ℤ) → Option Turtle
turtle_after l t [] = Some t
turtle_after l t (x ∷ xs) = gone_on (turtle_step l x t) (λ u. turtle_after l u xs)

abbrev pub pose_text : Pose → List ℕ
pose_text p = codes "at " ++ (place_text p.place ++ 32 ∷ (place_text p.frame.heading ++ 32 ∷ (decimal p.width ++ line_feed)))

-- 3. of a level: both are refused as its picture is

-- the image with the segments of the turtle's way over it
abbrev pub travelled : System → List L.LevelSymbol → Result (List (S.Symbol ℤ) × List Segment) PictureRefusal
travelled s x = or_no_image (image s x) and_then λ ys. or_far (segments_of s.lattice ys) and_then λ gs. Ok (ys, gs)

abbrev pub bounds : System → List L.LevelSymbol → Result Extents PictureRefusal
bounds s x = travelled s x and_then λ way. Ok (bounds_of s.lattice way.1)

-- after the first n symbols of a string; None where it has fewer
abbrev pub turtle_at : Lattice → ℕ → List (S.Symbol ℤ) → Option Turtle
turtle_at l n ys = if nat_lt (length ys) n then None else turtle_after l (at_start l) (take n ys)

abbrev pub turtle_or_refusal : System → List L.LevelSymbol → ℕ → Result (Option Turtle) PictureRefusal
turtle_or_refusal s x n = travelled s x and_then λ way. Ok (turtle_at s.lattice n way.0)
