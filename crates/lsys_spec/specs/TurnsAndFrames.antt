-- What turns make of frames.
use Rattle.std.specs.Prelude.{◌≡◌, ℕ, pos, ℤ, neg_ℤ, List, Contains, negsuc, [], ◌∷◌, map}
use Rattle.lsys_spec.specs.Lattices.{Lattice, Frame, Turn, turned, inverse, full_turn, times, turn_by, frame_after, frames, hexagonal, vector, ways, cubic, pitch_down, pitch_up}

-- a turn and its inverse give the frame back
abbrev pub InverseTurnsGiveTheFrameBack : Type 0
InverseTurnsGiveTheFrameBack =
    (lattice : Lattice) (turn : Turn) (f : Frame)
    → turned lattice (inverse turn) (turned lattice turn f) ≡ f

-- a full turn gives the frame back, whichever way it goes
abbrev pub FullTurnsGiveTheFrameBack : Type 0
FullTurnsGiveTheFrameBack =
    (lattice : Lattice) (turn : Turn) (f : Frame)
    → times (full_turn lattice) (turned lattice turn) f ≡ f

-- a turn by a count is as many turns, one after another
abbrev pub CountedTurnsAreThatManyTurns : Type 0
CountedTurnsAreThatManyTurns =
    (lattice : Lattice) (turn : Turn) (n : ℕ) (f : Frame)
    → turn_by lattice turn (pos n) f ≡ times n (turned lattice turn) f

-- a turn by a negative count is the inverse turn
abbrev pub NegativeCountsTurnTheOtherWay : Type 0
NegativeCountsTurnTheOtherWay =
    (lattice : Lattice) (turn : Turn) (n : ℤ) (f : Frame)
    → turn_by lattice turn (neg_ℤ n) f ≡ turn_by lattice (inverse turn) n f

-- no turns lead out of the frames of the lattice
abbrev pub TurnsLeadToKnownFrames : Type 0
TurnsLeadToKnownFrames =
    (lattice : Lattice) (turns : List Turn)
    → Contains (frames lattice) (frame_after lattice turns)

-- left turns go round a hexagon
abbrev pub LeftTurnsGoRoundAHexagon : Type 0
LeftTurnsGoRoundAHexagon =
    map (λ turns. (frame_after hexagonal turns).heading) (ways hexagonal)
    ≡ vector (pos 1) (pos 0) (pos 0) ∷ vector (pos 0) (pos 1) (pos 0)
    ∷ vector (negsuc 0) (pos 1) (pos 0) ∷ vector (negsuc 0) (pos 0) (pos 0)
    ∷ vector (pos 0) (negsuc 0) (pos 0) ∷ vector (pos 1) (negsuc 0) (pos 0) ∷ []

-- in space a turtle that pitches down and up again heads where it did
abbrev pub PitchingUpUndoesPitchingDown : Type 0
PitchingUpUndoesPitchingDown =
    (frame_after cubic (pitch_down ∷ pitch_up ∷ [])).heading ≡ vector (pos 0) (pos 1) (pos 0)
