-- What a string does to any turtle: the way over it without a bound on coordinates.
use Rattle.std.specs.Prelude.{ℕ, ℤ, Option, Some, None, List, [], ◌∷◌, ◌++◌, map}
use Rattle.lsys_syntax.specs.Strings as S
use Rattle.lsys_spec.specs.Lattices.{Lattice, Vector, Frame, first_frame, turn_by}
use Rattle.lsys_spec.specs.Pictures.{Act, draws, moves, turns, widens, rests, act, origin}
use Rattle.lsys_lattice.specs.Rotations.{plus, scaled, carried, frame_within}

-- where a turtle is, and its width where one was set
pub record Stand : Type 0 where
  pub place : Vector
  pub frame : Frame
  pub width : Option ℕ

pub record Walker : Type 0 where
  pub here : Stand
  pub saved : List Stand  -- one for each open branch, the innermost first

abbrev pub steps_ahead : ℤ → Stand → Vector
steps_ahead n h = plus h.place (scaled n h.frame.heading)

abbrev pub done : Lattice → Act → Stand → Stand
done l (draws n) h = record h { place = steps_ahead n h }
done l (moves n) h = record h { place = steps_ahead n h }
done l (turns turn n) h = record h { frame = turn_by l turn n h.frame }
done l (widens w) h = record h { width = Some w }
done l rests h = h

-- (In a balanced string there is a stand.)
abbrev pub back : Walker → List Stand → Walker
back w [] = w
back w (h ∷ hs) = record { here = h; saved = hs }

abbrev pub stepped : Lattice → S.Symbol ℤ → Walker → Walker
stepped l S.Push w = record w { saved = w.here ∷ w.saved }
stepped l S.Pop w = back w w.saved
stepped l S.Cut w = w
stepped l (S.Module n ps) w = record w { here = done l (act n ps) w.here }

-- the way over a string
abbrev pub walked : Lattice → List (S.Symbol ℤ) → Walker → Walker
walked l [] w = w
walked l (x ∷ xs) w = walked l xs (stepped l x w)

abbrev pub drawn_ends : Act → Stand → List Vector
drawn_ends (draws n) h = h.place ∷ steps_ahead n h ∷ []
drawn_ends (moves n) h = []
drawn_ends (turns turn n) h = []
drawn_ends (widens w) h = []
drawn_ends rests h = []

abbrev pub place_reached : Act → Stand → List Vector
place_reached (draws n) h = steps_ahead n h ∷ []
place_reached (moves n) h = steps_ahead n h ∷ []
place_reached (turns turn n) h = []
place_reached (widens w) h = []
place_reached rests h = []

-- what is told of the places of a symbol: of a module by what it does
abbrev pub symbol_places : (Act → Stand → List Vector) → S.Symbol ℤ → Stand → List Vector
symbol_places told (S.Module n ps) h = told (act n ps) h
symbol_places told S.Push h = []
symbol_places told S.Pop h = []
symbol_places told S.Cut h = []

abbrev pub places : (Act → Stand → List Vector) → Lattice → List (S.Symbol ℤ) → Walker → List Vector
places told l [] w = []
places told l (x ∷ xs) w = symbol_places told x w.here ++ places told l xs (stepped l x w)

-- both ends of each segment of the way, and all places that are reached
abbrev pub ends : Lattice → List (S.Symbol ℤ) → Walker → List Vector
ends l xs w = places drawn_ends l xs w

abbrev pub places_reached : Lattice → List (S.Symbol ℤ) → Walker → List Vector
places_reached l xs w = places place_reached l xs w

abbrev pub first_walker : Lattice → Walker
first_walker l = record { here = record { place = origin; frame = first_frame l; width = None }; saved = [] }

-- 1. a stand, seen from another one

abbrev pub width_after : Option ℕ → Option ℕ → Option ℕ
width_after before None = before
width_after before (Some w) = Some w

abbrev pub place_from : Lattice → Stand → Vector → Vector
place_from l from v = plus from.place (carried l from.frame v)

abbrev pub stand_from : Lattice → Stand → Stand → Stand
stand_from l from h = record { place = place_from l from h.place; frame = frame_within l from.frame h.frame; width = width_after from.width h.width }

abbrev pub walker_from : Lattice → Stand → List Stand → Walker → Walker
walker_from l from below w = record { here = stand_from l from w.here; saved = map (stand_from l from) w.saved ++ below }

-- 2. the effect of a string: where it leads from the start, which ends it draws, and which places it reaches

abbrev pub effect : Lattice → List (S.Symbol ℤ) → Stand
effect l xs = (walked l xs (first_walker l)).here

abbrev pub drawn : Lattice → List (S.Symbol ℤ) → List Vector
drawn l xs = ends l xs (first_walker l)

abbrev pub reach : Lattice → List (S.Symbol ℤ) → List Vector
reach l xs = places_reached l xs (first_walker l)

abbrev pub walker : Stand → List Stand → Walker
walker h hs = record { here = h; saved = hs }
