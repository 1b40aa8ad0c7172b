-- How frames carry vectors, and follow one another.
use Rattle.std.specs.Prelude.{◌≡◌, ℤ, Contains}
use Rattle.lsys_spec.specs.Lattices.{Lattice, Vector, Frame, frames, Turn, turned}
use Rattle.lsys_lattice.specs.Rotations.{plus, carried, scaled, frame_within}

-- sums are carried to sums
abbrev pub FramesCarrySumsToSums : Type 0
FramesCarrySumsToSums =
    (l : Lattice) (f : Frame) (v w : Vector)
    → carried l f (plus v w) ≡ plus (carried l f v) (carried l f w)

-- multiples are carried to multiples
abbrev pub FramesCarryMultiplesToMultiples : Type 0
FramesCarryMultiplesToMultiples =
    (l : Lattice) (f : Frame) (n : ℤ) (v : Vector)
    → carried l f (scaled n v) ≡ scaled n (carried l f v)

-- frames that follow one another carry one after the other
abbrev pub FollowedFramesCarryInTurn : Type 0
FollowedFramesCarryInTurn =
    (l : Lattice) (f g : Frame) (v : Vector)
    → carried l (frame_within l f g) v ≡ carried l f (carried l g v)

-- it doesn't matter which frames follow one another first
abbrev pub FollowingIsAssociative : Type 0
FollowingIsAssociative =
    (l : Lattice) (f g h : Frame) → frame_within l (frame_within l f g) h ≡ frame_within l f (frame_within l g h)

-- a turn of what follows is what follows the turn
abbrev pub TurnsPassThroughFollowing : Type 0
TurnsPassThroughFollowing =
    (l : Lattice) (k : Turn) (f g : Frame) → Contains (frames l) f
    → turned l k (frame_within l f g) ≡ frame_within l f (turned l k g)

-- where a frame of the lattice follows one, what comes of it is one
abbrev pub FollowingStaysAmongFrames : Type 0
FollowingStaysAmongFrames =
    (l : Lattice) (f g : Frame) → Contains (frames l) f → Contains (frames l) g
    → Contains (frames l) (frame_within l f g)
