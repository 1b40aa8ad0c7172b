-- Three directions that make a frame are one of the 24, so that their turns make a frame too: all 216 are tested.
use Rattle.std.proofs.Common.{◌≡◌, Bool, true, false, not, ◌||◌, ◌&&◌, refl}
use Rattle.std.specs.Prelude.{Contains}
use Rattle.std.proofs.Common.{arith}
use Rattle.std.proofs.lemmas.Bool.Decides.{nat_tests}
use Rattle.lsys_spec.specs.Lattices.{cubic, cross, Frame, frame, frames, IsUpright, Turn, turned}
use Rattle.lsys_spec.proofs.Frames.{among, is_among, turned_among, upright, upright_among, vector_decides}
use Rattle.lsys_lattice.specs.Directions.{along}
use Rattle.lsys_lattice.specs.declared.cubic_frame.Direction.{Direction}
use Rattle.lsys_lattice.specs.declared.cubic_frame.Direction.TheVariants.{East, West, North, South, Up, Down}

-- whether a test holds of each direction
abbrev each : (Direction → Bool) → Bool
each p = p East && (p West && (p North && (p South && (p Up && p Down))))

each_at : (p : Direction → Bool) → each p ≡ true → (d : Direction) → p d ≡ true
each_at p t East = grind (arith, nat_tests)
each_at p t West = grind (arith, nat_tests)
each_at p t North = grind (arith, nat_tests)
each_at p t South = grind (arith, nat_tests)
each_at p t Up = grind (arith, nat_tests)
each_at p t Down = grind (arith, nat_tests)

abbrev pub frame_along : Direction → Direction → Direction → Frame
frame_along heading left up = frame (along heading) (along left) (along up)

-- a frame that is upright is one of the 24
abbrev is_known : Frame → Bool
is_known f = not (upright f) || is_among (frames cubic) f

all_known : each (λ heading. each (λ left. each (λ up. is_known (frame_along heading left up)))) ≡ true
all_known = refl

known : (heading left up : Direction) → is_known (frame_along heading left up) ≡ true
known heading left up =
    each_at (λ u. is_known (frame_along heading left u))
    (each_at (λ l. each (λ u. is_known (frame_along heading l u)))
    (each_at (λ h. each (λ l. each (λ u. is_known (frame_along h l u)))) all_known heading) left) up

either : (a b : Bool) → (not a || b) ≡ true → a ≡ true → b ≡ true
either true b t e = t
either false b t e = cc

pub upright_known : (heading left up : Direction) → IsUpright (frame_along heading left up) → Contains (frames cubic) (frame_along heading left up)
upright_known heading left up h =
    let f = frame_along heading left up in
    let test : upright f ≡ true = (vector_decides (cross f.heading f.left) f.up).1 h in
    among (frames cubic) f (either (upright f) (is_among (frames cubic) f) (known heading left up) test)

pub turned_upright : (heading left up : Direction) (turn : Turn) → IsUpright (frame_along heading left up) → IsUpright (turned cubic turn (frame_along heading left up))
turned_upright heading left up turn h =
    let f = frame_along heading left up in
    upright_among cubic (turned cubic turn f) (turned_among cubic turn f (upright_known heading left up h))
