-- The picture (ABOP 1.3, 1.5 and 1.6): the segments that a turtle draws on its way over the image, and the box around them.
use Rattle.std.specs.Prelude.{ℕ, ℤ, pos, negsuc, ◌+◌, ◌+ℤ◌, ◌-ℤ◌, ◌*ℤ◌, ◌==◌, ◌||◌, Bool, true, false, Option, Some, None, Result, Ok, Err, List, [], ◌∷◌, nat_lt, min, max, unsigned_abs, fold, map, flat_map, if◌then◌else◌}
use Rattle.std.specs.Int.{int_min, int_max}
use Rattle.lsys_syntax.specs.Limits.{greatest_coordinate}
use Rattle.lsys_syntax.specs.Tokens.{NameText, short, long}
use Rattle.lsys_syntax.specs.Strings.{ModuleName, named, plus, minus, ampersand, caret, backslash, slash, bar, bang}
use Rattle.lsys_syntax.specs.Strings as S
use Rattle.lsys_spec.specs.Systems.{System}
use Rattle.lsys_spec.specs.Values.{◌and_then◌}
use Rattle.lsys_spec.specs.Levels as L
use Rattle.lsys_spec.specs.Images.{ImageRefusal, image}
use Rattle.lsys_spec.specs.Lattices.{Lattice, Vector, vector, Frame, first_frame, Turn, turn_left, turn_right, pitch_down, pitch_up, roll_left, roll_right, turn_round, turn_by, projected}

-- where a turtle stands, how it is turned, and how wide it draws
pub record Pose : Type 0 where
  pub place : Vector
  pub frame : Frame
  pub width : ℕ

pub record Turtle : Type 0 where
  pub pose : Pose
  pub saved : List Pose  -- one for each open branch, the innermost first

pub record Segment : Type 0 where
  pub from : Vector
  pub to : Vector
  pub width : ℕ

-- what a module has a turtle do
pub data Act : Type 0 where
  draws : ℤ → Act  -- a move by so many steps, which gives a segment
  moves : ℤ → Act  -- a move that gives none
  turns : Turn → ℤ → Act
  widens : ℕ → Act
  rests : Act

abbrev pub first_or_one : List ℤ → ℤ
first_or_one [] = pos 1
first_or_one (z ∷ zs) = z

-- raised to 1 or lowered to 1,000 where it is outside
abbrev pub pen_width : ℤ → ℕ
pen_width (pos n) = max 1 (min n 1000)
pen_width (negsuc n) = 1

abbrev pub first_letter : NameText → ℕ
first_letter (short c) = c
first_letter (long c more) = c

-- F and f, and the names that begin with them
abbrev pub act_of_letter : ℕ → ℤ → Act
act_of_letter c n = if c == 70 then draws n else if c == 102 then moves n else rests

abbrev pub act : ModuleName → List ℤ → Act
act (named n) ps = act_of_letter (first_letter n) (first_or_one ps)
act plus ps = turns turn_left (first_or_one ps)
act minus ps = turns turn_right (first_or_one ps)
act ampersand ps = turns pitch_down (first_or_one ps)
act caret ps = turns pitch_up (first_or_one ps)
act backslash ps = turns roll_left (first_or_one ps)
act slash ps = turns roll_right (first_or_one ps)
act bar ps = turns turn_round (pos 1)
act bang ps = widens (pen_width (first_or_one ps))

-- the place n steps ahead
abbrev pub place_ahead : ℤ → Pose → Vector
place_ahead n p = vector (p.place.x +ℤ n *ℤ p.frame.heading.x) (p.place.y +ℤ n *ℤ p.frame.heading.y) (p.place.z +ℤ n *ℤ p.frame.heading.z)

-- a coordinate is past the greatest in magnitude
abbrev pub is_far : Vector → Bool
is_far v = nat_lt greatest_coordinate (unsigned_abs v.x) || (nat_lt greatest_coordinate (unsigned_abs v.y) || nat_lt greatest_coordinate (unsigned_abs v.z))

-- a turtle after a symbol, and the segment that it drew
pub record Stepped : Type 0 where
  pub turtle : Turtle
  pub segment : Option Segment

abbrev pub quietly : Turtle → Option Stepped
quietly t = Some (record { turtle = t; segment = None })

abbrev pub with_pose : Turtle → Pose → Turtle
with_pose t p = record t { pose = p }

abbrev pub at_place : Turtle → Vector → Turtle
at_place t v = with_pose t (record t.pose { place = v })

abbrev pub line_to : Pose → Vector → Segment
line_to p v = record { from = p.place; to = v; width = p.width }

-- None where it would be too far
abbrev pub unless_far : Bool → Stepped → Option Stepped
unless_far true s = None
unless_far false s = Some s

abbrev pub drawn_to : Turtle → Vector → Option Stepped
drawn_to t v = unless_far (is_far v) (record { turtle = at_place t v; segment = Some (line_to t.pose v) })

abbrev pub moved_to : Turtle → Vector → Option Stepped
moved_to t v = unless_far (is_far v) (record { turtle = at_place t v; segment = None })

abbrev pub acted : Lattice → Act → Turtle → Option Stepped
acted l (draws n) t = drawn_to t (place_ahead n t.pose)
acted l (moves n) t = moved_to t (place_ahead n t.pose)
acted l (turns turn n) t = quietly (with_pose t (record t.pose { frame = turn_by l turn n t.pose.frame }))
acted l (widens w) t = quietly (with_pose t (record t.pose { width = w }))
acted l rests t = quietly t

-- (An image is balanced, so there is a pose.)
abbrev pub pose_restored : Turtle → List Pose → Turtle
pose_restored t [] = t
pose_restored t (p ∷ ps) = record { pose = p; saved = ps }

-- `[` saves the pose and `]` restores it; None where a module would lead too far
abbrev pub turtle_step : Lattice → S.Symbol ℤ → Turtle → Option Stepped
turtle_step l S.Push t = quietly (record t { saved = t.pose ∷ t.saved })
turtle_step l S.Pop t = quietly (pose_restored t t.saved)
turtle_step l S.Cut t = quietly t
turtle_step l (S.Module n ps) t = acted l (act n ps) t

abbrev pub origin : Vector
origin = vector (pos 0) (pos 0) (pos 0)

abbrev pub at_start : Lattice → Turtle
at_start l = record { pose = record { place = origin; frame = first_frame l; width = 1 }; saved = [] }

abbrev pub modules_to : ℕ → S.Symbol ℤ → ℕ
modules_to n (S.Module m ps) = n + 1
modules_to n s = n

abbrev pub with_segment : Option Segment → Result (List Segment) ℕ → Result (List Segment) ℕ
with_segment None r = r
with_segment (Some g) (Ok gs) = Ok (g ∷ gs)
with_segment (Some g) (Err n) = Err n

-- a step at module number n, and what follows from the turtle after it
abbrev pub and_on : ℕ → Option Stepped → (Turtle → Result (List Segment) ℕ) → Result (List Segment) ℕ
and_on n None rest = Err n
and_on n (Some s) rest = with_segment s.segment (rest s.turtle)

-- The segments of a turtle's way over symbols before which n modules stand, or the number of the first module that would lead too far.
abbrev pub segments_from : Lattice → ℕ → Turtle → List (S.Symbol ℤ) → Result (List Segment) ℕ
segments_from l n t [] = Ok []
segments_from l n t (x ∷ xs) = and_on (modules_to n x) (turtle_step l x t) (λ u. segments_from l (modules_to n x) u xs)

abbrev pub segments_of : Lattice → List (S.Symbol ℤ) → Result (List Segment) ℕ
segments_of l xs = segments_from l 0 (at_start l) xs

pub data PictureRefusal : Type 0 where
  NoImage : ImageRefusal → PictureRefusal
  Far : ℕ → PictureRefusal  -- the number of a module in the image, counted from 1

abbrev pub or_no_image : {A : Type 0} → Result A ImageRefusal → Result A PictureRefusal
or_no_image (Ok a) = Ok a
or_no_image (Err r) = Err (NoImage r)

abbrev pub or_far : {A : Type 0} → Result A ℕ → Result A PictureRefusal
or_far (Ok a) = Ok a
or_far (Err n) = Err (Far n)

-- the picture of a level: the whole image is made first
abbrev pub picture : System → List L.LevelSymbol → Result (List Segment) PictureRefusal
picture s x = or_no_image (image s x) and_then λ ys. or_far (segments_of s.lattice ys)

-- both projected ends of every segment
abbrev pub segment_ends : Lattice → List Segment → List (ℤ × ℤ)
segment_ends l gs = flat_map (λ g. projected l g.from ∷ projected l g.to ∷ []) gs

-- by its least corner and its sides
pub record Box : Type 0 where
  pub x : ℤ
  pub y : ℤ
  pub width : ℤ
  pub height : ℤ

-- the least box with its sides along the axes that holds the first point and the others, and a margin of 10 around it
abbrev pub framed : ℤ × ℤ → List (ℤ × ℤ) → Box
framed p ps =
    let left = fold int_min p.0 (map (λ q. q.0) ps) in
    let right = fold int_max p.0 (map (λ q. q.0) ps) in
    let top = fold int_min p.1 (map (λ q. q.1) ps) in
    let bottom = fold int_max p.1 (map (λ q. q.1) ps) in
    record { x = left -ℤ pos 10; y = top -ℤ pos 10; width = right -ℤ left +ℤ pos 20; height = bottom -ℤ top +ℤ pos 20 }

-- the box of a picture, which holds the projected origin too
abbrev pub box : Lattice → List Segment → Box
box l gs = framed (projected l origin) (segment_ends l gs)
