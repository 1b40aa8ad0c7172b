-- Pieces of an image: each knows how many symbols are in it and where it begins, seen from where the piece around it begins.
use Rattle.std.specs.Prelude.{ℕ, zero, suc, ◌<◌, ◌-◌, ◌==◌, nat_lt, Bool, true, false, List, [], ◌∷◌, ◌++◌, if◌then◌else◌}
use Rattle.lsys_syntax.specs.Limits.{greatest_coordinate}
use Rattle.lsys_spec.specs.Lattices.{Lattice, IsWithin}
use Rattle.lsys_spec.specs.Pictures.{Pose}
use Rattle.lsys_lattice.specs.Effects.{Stand, first_walker, stand_from}
use Rattle.lsys_lattice.specs.Free.{pose_of}

-- A piece stands before those that are in it. One symbol is a piece with none in it.
pub record ImagePiece : Type 0 where
  pub symbols : ℕ
  pub pieces : ℕ  -- it, and those that are in it
  pub start : Stand

abbrev pub single : Stand → ImagePiece
single h = record { symbols = 1; pieces = 1; start = h }

-- 1. where a turtle stands before a symbol

-- Pieces stand side by side, the first of them after so many that are passed, and are seen from a stand: the stand before symbol n of
-- them, counted from 0. It is in the first piece that has more symbols than are left, and there in one of those that are in it.
abbrev pub found : Lattice → ℕ → List ImagePiece → ℕ → Stand → Stand
found l passed [] n h = h
found l (suc passed) (p ∷ ps) n h = found l passed ps n h
found l zero (p ∷ ps) n h =
    if nat_lt n p.symbols then (if p.pieces == 1 then stand_from l h p.start else found l zero ps n (stand_from l h p.start))
    else found l (p.pieces - 1) ps (n - p.symbols) h

abbrev pub pose_at : Lattice → List ImagePiece → ℕ → Pose
pose_at l ps n = pose_of (found l 0 ps n (first_walker l).here)

-- the poses before so many symbols from symbol n on
abbrev pub poses_before : Lattice → List ImagePiece → ℕ → ℕ → List Pose
poses_before l ps n zero = []
poses_before l ps n (suc count) = pose_at l ps n ∷ poses_before l ps (suc n) count

-- before each of so many symbols, and at the end
abbrev pub all_poses : Lattice → List ImagePiece → ℕ → Stand → List Pose
all_poses l ps count end = poses_before l ps 0 count ++ pose_of end ∷ []

-- 2. within reach

abbrev pub IsNear : Stand → Type 0
IsNear h = IsWithin greatest_coordinate h.place

abbrev pub Either : Bool → Type 0 → Type 0 → Type 0
Either true P Q = P
Either false P Q = Q

-- all stands on the way down to symbol n are within reach
abbrev pub IsNearTo : Lattice → ℕ → List ImagePiece → ℕ → Stand → Type 0
IsNearTo l passed [] n h = Unit {0}
IsNearTo l (suc passed) (p ∷ ps) n h = IsNearTo l passed ps n h
IsNearTo l zero (p ∷ ps) n h =
    Either (nat_lt n p.symbols) (IsNear (stand_from l h p.start) × Either (p.pieces == 1) (Unit {0}) (IsNearTo l zero ps n (stand_from l h p.start)))
    (IsNearTo l (p.pieces - 1) ps (n - p.symbols) h)

-- all stands that are found, and the one at the end
pub record IsInReach (l : Lattice) (ps : List ImagePiece) (count : ℕ) (end : Stand) : Type 0 where
  pub found : (n : ℕ) → n < count → IsNearTo l 0 ps n (first_walker l).here
  pub at_end : IsNear end
