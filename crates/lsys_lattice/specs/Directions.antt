-- Directions along the axes.
use Rattle.std.specs.Prelude.{◌≡◌, pos, negsuc, if◌then◌else◌, refl}
use Rattle.std.specs.Ordering.{int_eq}
use Rattle.std.proofs.Common.{ap, sym, ◌∙◌}
use Rattle.lsys_spec.specs.Lattices.{Vector, vector}
use Rattle.lsys_lattice.specs.declared.cubic_frame.Direction.{Direction}
use Rattle.lsys_lattice.specs.declared.cubic_frame.Direction.TheVariants.{East, West, North, South, Up, Down}

abbrev pub along : Direction → Vector
along East = vector (pos 1) (pos 0) (pos 0)
along West = vector (negsuc 0) (pos 0) (pos 0)
along North = vector (pos 0) (pos 1) (pos 0)
along South = vector (pos 0) (negsuc 0) (pos 0)
along Up = vector (pos 0) (pos 0) (pos 1)
along Down = vector (pos 0) (pos 0) (negsuc 0)

-- the direction, read from its coordinates
abbrev pub direction_at : Vector → Direction
direction_at v =
    if int_eq v.x (pos 1) then East
    else if int_eq v.x (negsuc 0) then West
    else if int_eq v.y (pos 1) then North
    else if int_eq v.y (negsuc 0) then South
    else if int_eq v.z (pos 1) then Up else Down

pub direction_read : (d : Direction) → direction_at (along d) ≡ d
direction_read East = refl
direction_read West = refl
direction_read North = refl
direction_read South = refl
direction_read Up = refl
direction_read Down = refl

pub along-faithful : (d e : Direction) → along d ≡ along e → d ≡ e
along-faithful d e h = sym (direction_read d) ∙ ap direction_at h ∙ direction_read e
