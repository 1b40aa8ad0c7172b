-- What is kept of a string so that its whole is told by its parts: how many symbols it has, where it leads, and how far.
use Rattle.std.specs.Prelude.{◌≡◌, ℕ, ℤ, ◌+◌, ◌+ℤ◌, ◌*ℤ◌, if◌then◌else◌, Option, Some, None, List, [], ◌∷◌, length}
use Rattle.std.specs.Int.{int_min, int_max}
use Rattle.std.specs.Ordering.{int_eq}
use Rattle.lsys_syntax.specs.Strings as S
use Rattle.lsys_spec.specs.Lattices.{Lattice, square, hexagonal, cubic, Vector, vector, Frame}
use Rattle.lsys_spec.specs.Pictures.{Act}
use Rattle.lsys_lattice.specs.Rotations.{plus, carried, measures}
use Rattle.lsys_lattice.specs.Extents.{Extents, extents, AreCarried}
use Rattle.lsys_lattice.specs.Effects.{Stand, done, drawn_ends, place_reached, first_walker, stand_from, effect, drawn, reach}

pub record Motion : Type 0 where
  pub symbols : ℕ
  pub effect : Stand  -- where it leads from the start
  pub drawn : Option Extents  -- of the ends that it draws
  pub reached : Option Extents  -- of the places that it reaches

-- None for no places
abbrev pub extents_or_none : Lattice → List Vector → Option Extents
extents_or_none l [] = None
extents_or_none l (v ∷ vs) = Some (extents l v vs)

abbrev pub motion : Lattice → List (S.Symbol ℤ) → Motion
motion l xs = record { symbols = length xs; effect = effect l xs; drawn = extents_or_none l (drawn l xs); reached = extents_or_none l (reach l xs) }

-- 1. of no symbol, of one, and of a branch

abbrev pub at_rest : Lattice → ℕ → Motion
at_rest l n = record { symbols = n; effect = (first_walker l).here; drawn = None; reached = None }

abbrev pub motion_of_act : Lattice → Act → Motion
motion_of_act l a =
    let start = (first_walker l).here in
    record { symbols = 1; effect = done l a start; drawn = extents_or_none l (drawn_ends a start); reached = extents_or_none l (place_reached a start) }

abbrev pub branched : Lattice → Motion → Motion
branched l m = record { symbols = m.symbols + 2; effect = (first_walker l).here; drawn = m.drawn; reached = m.reached }

-- 2. of two strings one after the other

abbrev pub each_of : (ℤ → ℤ → ℤ) → Vector → Vector → Vector
each_of f v w = vector (f v.x w.x) (f v.y w.y) (f v.z w.z)

abbrev pub both : Extents → Extents → Extents
both d e = record { low = each_of int_min d.low e.low; high = each_of int_max d.high e.high }

abbrev pub united : Option Extents → Option Extents → Option Extents
united None e = e
united (Some d) None = Some d
united (Some d) (Some e) = Some (both d e)

-- by the measures of the vector
abbrev pub shifted_by : Lattice → Vector → Extents → Extents
shifted_by l v e = record { low = plus (measures l v) e.low; high = plus (measures l v) e.high }

-- the extents as they are seen from a stand: carried by its frame, and shifted by its place
abbrev pub AreSeen : Lattice → Stand → Option Extents → Option Extents → Type 0
AreSeen l from None after = after ≡ None
AreSeen l from (Some e) after = (carried : Extents) × AreCarried l from.frame e carried × (after ≡ Some (shifted_by l from.place carried))

-- the extents of both strings: those of the second are seen from where the first one leads
abbrev pub AreUnited : Lattice → Stand → Option Extents → Option Extents → Option Extents → Type 0
AreUnited l from first second whole = (seen : Option Extents) × AreSeen l from second seen × (whole ≡ united first seen)

pub record IsJoined (l : Lattice) (m n whole : Motion) : Type 0 where
  pub symbols : whole.symbols ≡ m.symbols + n.symbols
  pub effect : whole.effect ≡ stand_from l m.effect n.effect
  pub drawn : AreUnited l m.effect m.drawn n.drawn whole.drawn
  pub reached : AreUnited l m.effect m.reached n.reached whole.reached

-- 3. the extents of what a frame has carried

abbrev pub corners : Vector → Vector → Extents
corners v w = record { low = each_of int_min v w; high = each_of int_max v w }

-- one measure of what a hexagonal frame carries, told by the measures there: where it is as much ahead as to the left, by the third one
abbrev pub measured_along : ℤ → ℤ → Vector → ℤ
measured_along a b m = if int_eq a b then m.z *ℤ a else m.x *ℤ a +ℤ m.y *ℤ b

-- Each measure becomes one of the three, or the opposite of one.
abbrev pub carried_measures : Lattice → Frame → Vector → Vector
carried_measures square f m = carried square f m
carried_measures hexagonal f m =
    vector (measured_along f.heading.x f.left.x m) (measured_along f.heading.y f.left.y m) (measured_along (f.heading.x +ℤ f.heading.y) (f.left.x +ℤ f.left.y) m)
carried_measures cubic f m = carried cubic f m

abbrev pub carried_extents : Lattice → Frame → Extents → Extents
carried_extents l f e = corners (carried_measures l f e.low) (carried_measures l f e.high)

abbrev pub seen_from : Lattice → Stand → Option Extents → Option Extents
seen_from l from None = None
seen_from l from (Some e) = Some (shifted_by l from.place (carried_extents l from.frame e))

abbrev pub joined_motions : Lattice → Motion → Motion → Motion
joined_motions l m n = record {
  symbols = m.symbols + n.symbols;
  effect = stand_from l m.effect n.effect;
  drawn = united m.drawn (seen_from l m.effect n.drawn);
  reached = united m.reached (seen_from l m.effect n.reached);
}
