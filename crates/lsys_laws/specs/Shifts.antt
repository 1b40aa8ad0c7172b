-- Turtles and segments that stand elsewhere by a vector.
use Rattle.std.specs.Prelude.{◌+ℤ◌, map}
use Rattle.lsys_spec.specs.Lattices.{Vector, vector}
use Rattle.lsys_spec.specs.Pictures.{Pose, Turtle, Segment}

abbrev pub shifted : Vector → Vector → Vector
shifted by v = vector (v.x +ℤ by.x) (v.y +ℤ by.y) (v.z +ℤ by.z)

abbrev pub shifted_pose : Vector → Pose → Pose
shifted_pose by p = record p { place = shifted by p.place }

-- its pose, and those that it saved
abbrev pub shifted_turtle : Vector → Turtle → Turtle
shifted_turtle by t = record { pose = shifted_pose by t.pose; saved = map (shifted_pose by) t.saved }

abbrev pub shifted_segment : Vector → Segment → Segment
shifted_segment by g = record { from = shifted by g.from; to = shifted by g.to; width = g.width }
