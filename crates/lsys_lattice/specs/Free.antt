-- The turtle of a picture and the way without a bound on coordinates.
use Rattle.std.specs.Prelude.{ℕ, ℤ, Bool, true, false, Option, Some, None, List, [], ◌∷◌, map, flat_map, if◌then◌else◌}
use Rattle.lsys_syntax.specs.Strings as S
use Rattle.lsys_spec.specs.Lattices.{Lattice, Vector}
use Rattle.lsys_spec.specs.Pictures.{Act, draws, moves, turns, widens, rests, act, Pose, Turtle, Segment, is_far, modules_to}
use Rattle.lsys_lattice.specs.Effects.{Stand, Walker, stepped}

-- a turtle draws 1 wide where no width was set
abbrev pub width_or_one : Option ℕ → ℕ
width_or_one None = 1
width_or_one (Some w) = w

abbrev pub pose_of : Stand → Pose
pose_of h = record { place = h.place; frame = h.frame; width = width_or_one h.width }

-- the turtle of a picture that stands so
abbrev pub turtle_of : Walker → Turtle
turtle_of w = record { pose = pose_of w.here; saved = map pose_of w.saved }

-- a move leads to a place that is too far
abbrev pub leads_far : Act → Vector → Bool
leads_far (draws n) v = is_far v
leads_far (moves n) v = is_far v
leads_far (turns turn n) v = false
leads_far (widens w) v = false
leads_far rests v = false

abbrev pub goes_far : Lattice → S.Symbol ℤ → Walker → Bool
goes_far l (S.Module n ps) w = leads_far (act n ps) (stepped l (S.Module n ps) w).here.place
goes_far l S.Push w = false
goes_far l S.Pop w = false
goes_far l S.Cut w = false

-- the number of the first module of the way that leads too far, where n modules stand before these symbols
abbrev pub first_far : Lattice → ℕ → Walker → List (S.Symbol ℤ) → Option ℕ
first_far l n w [] = None
first_far l n w (x ∷ xs) = if goes_far l x w then Some (modules_to n x) else first_far l (modules_to n x) (stepped l x w) xs

-- both ends of each segment
abbrev pub ends_of : List Segment → List Vector
ends_of gs = flat_map (λ g. g.from ∷ g.to ∷ []) gs
