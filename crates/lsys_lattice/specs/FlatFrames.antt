-- The headings of the flat lattices as frames.
use Rattle.std.specs.Prelude.{◌≡◌, ℤ, pos, negsuc, if◌then◌else◌, refl, Contains}
use Rattle.std.specs.Ordering.{int_eq}
use Rattle.std.proofs.Common.{ap, sym, ◌∙◌}
use Rattle.lsys_spec.specs.Lattices.{Vector, vector, Frame, frame, frames, IsUpright}
use Rattle.lsys_spec.specs.Lattices as lattices
use Rattle.lsys_spec.proofs.Frames.{among}
use Rattle.lsys_lattice.specs.declared.square.SquareFrame.{SquareFrame}
use Rattle.lsys_lattice.specs.declared.square.SquareFrame.TheVariants as square
use Rattle.lsys_lattice.specs.declared.hexagonal.HexagonalFrame.{HexagonalFrame}
use Rattle.lsys_lattice.specs.declared.hexagonal.HexagonalFrame.TheVariants as hexagonal

-- a frame of a flat lattice, by its heading and by the next heading to the left
abbrev pub flat_frame : Vector → Vector → Frame
flat_frame heading left = frame heading left (vector (pos 0) (pos 0) (pos 1))

abbrev pub square_frame : SquareFrame → Frame
square_frame square.North = flat_frame (vector (pos 0) (pos 1) (pos 0)) (vector (negsuc 0) (pos 0) (pos 0))
square_frame square.West = flat_frame (vector (negsuc 0) (pos 0) (pos 0)) (vector (pos 0) (negsuc 0) (pos 0))
square_frame square.South = flat_frame (vector (pos 0) (negsuc 0) (pos 0)) (vector (pos 1) (pos 0) (pos 0))
square_frame square.East = flat_frame (vector (pos 1) (pos 0) (pos 0)) (vector (pos 0) (pos 1) (pos 0))

pub square_upright : (f : SquareFrame) → IsUpright (square_frame f)
square_upright square.North = refl
square_upright square.West = refl
square_upright square.South = refl
square_upright square.East = refl

pub square_known : (f : SquareFrame) → Contains (frames lattices.square) (square_frame f)
square_known square.North = among (frames lattices.square) (square_frame square.North) refl
square_known square.West = among (frames lattices.square) (square_frame square.West) refl
square_known square.South = among (frames lattices.square) (square_frame square.South) refl
square_known square.East = among (frames lattices.square) (square_frame square.East) refl

-- the heading, read from the first two coordinates
abbrev square_at : ℤ → ℤ → SquareFrame
square_at x y = if int_eq x (pos 0) then (if int_eq y (pos 1) then square.North else square.South) else (if int_eq x (pos 1) then square.East else square.West)

square_read : (f : SquareFrame) → square_at (square_frame f).heading.x (square_frame f).heading.y ≡ f
square_read square.North = refl
square_read square.West = refl
square_read square.South = refl
square_read square.East = refl

pub square_faithful : (f g : SquareFrame) → square_frame f ≡ square_frame g → f ≡ g
square_faithful f g e = sym (square_read f) ∙ ap (λ h. square_at h.heading.x h.heading.y) e ∙ square_read g

abbrev pub hexagonal_frame : HexagonalFrame → Frame
hexagonal_frame hexagonal.East = flat_frame (vector (pos 1) (pos 0) (pos 0)) (vector (pos 0) (pos 1) (pos 0))
hexagonal_frame hexagonal.NorthEast = flat_frame (vector (pos 0) (pos 1) (pos 0)) (vector (negsuc 0) (pos 1) (pos 0))
hexagonal_frame hexagonal.NorthWest = flat_frame (vector (negsuc 0) (pos 1) (pos 0)) (vector (negsuc 0) (pos 0) (pos 0))
hexagonal_frame hexagonal.West = flat_frame (vector (negsuc 0) (pos 0) (pos 0)) (vector (pos 0) (negsuc 0) (pos 0))
hexagonal_frame hexagonal.SouthWest = flat_frame (vector (pos 0) (negsuc 0) (pos 0)) (vector (pos 1) (negsuc 0) (pos 0))
hexagonal_frame hexagonal.SouthEast = flat_frame (vector (pos 1) (negsuc 0) (pos 0)) (vector (pos 1) (pos 0) (pos 0))

pub hexagonal_upright : (f : HexagonalFrame) → IsUpright (hexagonal_frame f)
hexagonal_upright hexagonal.East = refl
hexagonal_upright hexagonal.NorthEast = refl
hexagonal_upright hexagonal.NorthWest = refl
hexagonal_upright hexagonal.West = refl
hexagonal_upright hexagonal.SouthWest = refl
hexagonal_upright hexagonal.SouthEast = refl

pub hexagonal_known : (f : HexagonalFrame) → Contains (frames lattices.hexagonal) (hexagonal_frame f)
hexagonal_known hexagonal.East = among (frames lattices.hexagonal) (hexagonal_frame hexagonal.East) refl
hexagonal_known hexagonal.NorthEast = among (frames lattices.hexagonal) (hexagonal_frame hexagonal.NorthEast) refl
hexagonal_known hexagonal.NorthWest = among (frames lattices.hexagonal) (hexagonal_frame hexagonal.NorthWest) refl
hexagonal_known hexagonal.West = among (frames lattices.hexagonal) (hexagonal_frame hexagonal.West) refl
hexagonal_known hexagonal.SouthWest = among (frames lattices.hexagonal) (hexagonal_frame hexagonal.SouthWest) refl
hexagonal_known hexagonal.SouthEast = among (frames lattices.hexagonal) (hexagonal_frame hexagonal.SouthEast) refl

-- the heading, read from the first two coordinates
abbrev hexagonal_at : ℤ → ℤ → HexagonalFrame
hexagonal_at x y =
    if int_eq x (pos 0) then (if int_eq y (pos 1) then hexagonal.NorthEast else hexagonal.SouthWest)
    else if int_eq x (pos 1) then (if int_eq y (pos 0) then hexagonal.East else hexagonal.SouthEast)
    else if int_eq y (pos 0) then hexagonal.West else hexagonal.NorthWest

hexagonal_read : (f : HexagonalFrame) → hexagonal_at (hexagonal_frame f).heading.x (hexagonal_frame f).heading.y ≡ f
hexagonal_read hexagonal.East = refl
hexagonal_read hexagonal.NorthEast = refl
hexagonal_read hexagonal.NorthWest = refl
hexagonal_read hexagonal.West = refl
hexagonal_read hexagonal.SouthWest = refl
hexagonal_read hexagonal.SouthEast = refl

pub hexagonal_faithful : (f g : HexagonalFrame) → hexagonal_frame f ≡ hexagonal_frame g → f ≡ g
hexagonal_faithful f g e = sym (hexagonal_read f) ∙ ap (λ h. hexagonal_at h.heading.x h.heading.y) e ∙ hexagonal_read g
