-- A turtle of the code as that of the definitions, and what a step of it answers.
use Rattle.std.specs.Prelude.{◌≡◌, ℕ, ℤ, pos, Bool, true, false, Option, Some, None, Result, Ok, Err, List, ◌<◌, ◌≤◌, ◌+◌, ◌-◌, length, option_map, nat_lt, unsigned_abs, if◌then◌else◌, MatchResult}
use Rattle.lsys_syntax.specs.Strings as S
use Rattle.lsys_syntax.specs.Limits.{greatest_coordinate}
use Rattle.lsys_spec.specs.Lattices.{Lattice, Turn, Vector, vector, IsWithin, turn_by}
use Rattle.lsys_spec.specs.Pictures as P
use Rattle.lsys_lattice.specs.Views.{vector_of, turn_of}
use Rattle.lsys_turtle.specs.declared.act.Act.{Act}
use Rattle.lsys_turtle.specs.declared.act.Act.TheVariants.{Draws, Moves, Turns, Widens, Rests}
use Rattle.lsys_turtle.specs.declared.segment.Segment.{Segment}
use Rattle.lsys_turtle.specs.declared.segment.Far.{Far}

-- a turtle, and how many poses it has room for
pub record RoomyTurtle : Type 0 where
  pub turtle : P.Turtle
  pub room : ℕ

abbrev pub segment_of : Segment → P.Segment
segment_of g = record { from = vector_of g.from; to = vector_of g.to; width = g.width }

-- the step of the definitions that an answer stands for; None where it is too far
abbrev pub stepped_of : Result (Option Segment) Far → P.Turtle → Option P.Stepped
stepped_of (Ok g) t = Some (record { turtle = t; segment = option_map segment_of g })
stepped_of (Err far) t = None

-- the step is that of the definitions, from one turtle to the next
abbrev pub IsStepOf : Lattice → S.Symbol ℤ → RoomyTurtle → RoomyTurtle → Result (Option Segment) Far → Type 0
IsStepOf l s old new r = P.turtle_step l s old.turtle ≡ stepped_of r new.turtle

-- both ends of a segment can be projected
pub record IsReached (g : Segment) : Type 0 where
  pub from : IsWithin greatest_coordinate (vector_of g.from)
  pub to : IsWithin greatest_coordinate (vector_of g.to)

-- the segment of an answer
abbrev pub OnSegment : Result (Option Segment) Far → (Segment → Type 0) → Type 0
OnSegment (Ok (Some g)) P = P g
OnSegment r P = Unit {0}

-- a turtle has room for one more pose at `[`, and has one to restore at `]`
abbrev pub CanStep : S.Symbol ℤ → RoomyTurtle → Type 0
CanStep S.Push w = length w.turtle.saved < w.room
CanStep S.Pop w = 0 < length w.turtle.saved
CanStep s w = Unit {0}

-- how many poses are saved after a symbol, where so many were before
abbrev pub saved_after : S.Symbol ℤ → ℕ → ℕ
saved_after S.Push n = n + 1
saved_after S.Pop n = n - 1
saved_after s n = n

-- so many are saved
abbrev pub SavesAsMany : S.Symbol ℤ → RoomyTurtle → RoomyTurtle → Type 0
SavesAsMany s old new = length new.turtle.saved ≡ saved_after s (length old.turtle.saved)

abbrev pub act_of : Act → P.Act
act_of (Draws n) = P.draws n
act_of (Moves n) = P.moves n
act_of (Turns kind n) = P.turns (turn_of kind) n
act_of (Widens w) = P.widens w
act_of Rests = P.rests

-- a coordinate, where it isn't too far
abbrev pub in_reach : ℤ → Option ℤ
in_reach z = if nat_lt greatest_coordinate (unsigned_abs z) then None else Some z

-- a place, where it isn't too far
abbrev pub place_in_reach : Vector → Option Vector
place_in_reach v = if P.is_far v then None else Some v

-- the place with these coordinates, where all are within reach
abbrev pub vector_from : Option ℤ → Option ℤ → Option ℤ → Option Vector
vector_from (Some x) (Some y) (Some z) = Some (vector x y z)
vector_from x y z = None

-- a pose, turned where it is
abbrev pub pose_turned : Lattice → Turn → ℤ → P.Pose → P.Pose
pose_turned l kind count p = record p { frame = turn_by l kind count p.frame }

-- it goes so many steps ahead, or stays where that is too far
abbrev pub GoesUnlessFar : {T E : Type 0} → ℤ → P.Pose → P.Pose → Result T E → Type 0
GoesUnlessFar steps old new r =
    let ahead = P.place_ahead steps old in
    MatchResult r (λ _. (P.is_far ahead ≡ false) × (new ≡ record old { place = ahead }))
    (λ _. (P.is_far ahead ≡ true) × (new ≡ old))
