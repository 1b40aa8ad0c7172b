-- One of the poses that are told.
use Rattle.std.proofs.Common.{◌≡◌, ◌≢◌, ◌≤◌, ◌<◌, ◌+◌, ℕ, zero, suc, Some, List, [], ◌∷◌, ◌++◌, length, length-append, slice_get, refl, ap, ◌∙◌, arith}
use Rattle.lsys_spec.specs.Lattices.{Lattice}
use Rattle.lsys_spec.specs.Pictures.{Pose}
use Rattle.lsys_lattice.specs.Effects.{Stand}
use Rattle.lsys_lattice.specs.Free.{pose_of}
use Rattle.lsys_motion.specs.Pieces.{ImagePiece, pose_at, poses_before, all_poses}

length-poses : (l : Lattice) (ps : List ImagePiece) (n count : ℕ) → length (poses_before l ps n count) ≡ count
length-poses l ps n zero = refl
length-poses l ps n (suc count) = ap suc (length-poses l ps (suc n) count)

pub length-all : (l : Lattice) (ps : List ImagePiece) (count : ℕ) (end : Stand) → length (all_poses l ps count end) ≡ count + 1
length-all l ps count end = length-append (poses_before l ps 0 count) (pose_of end ∷ []) ∙ ap (λ n. n + 1) (length-poses l ps 0 count)

from_here : (l : Lattice) (ps : List ImagePiece) (start count k : ℕ) (more : List Pose) → k < count → slice_get (poses_before l ps start count ++ more) k ≡ Some (pose_at l ps (start + k))
from_here l ps start zero k more h = absurd (omega arith)
from_here l ps start (suc count) zero more h = let e : start ≡ start + 0 = omega arith in ap (λ n. Some (pose_at l ps n)) e
from_here l ps start (suc count) (suc k) more h =
    let e : suc start + k ≡ start + suc k = omega arith in from_here l ps (suc start) count k more (omega arith) ∙ ap (λ n. Some (pose_at l ps n)) e

pub pose_before : (l : Lattice) (ps : List ImagePiece) (count : ℕ) (end : Stand) (n : ℕ) → n ≤ count → n ≢ count → slice_get (all_poses l ps count end) n ≡ Some (pose_at l ps n)
pose_before l ps count end n h k = let e : 0 + n ≡ n = omega arith in from_here l ps 0 count n (pose_of end ∷ []) (omega arith) ∙ ap (λ m. Some (pose_at l ps m)) e

past_all : (l : Lattice) (ps : List ImagePiece) (start count : ℕ) (p : Pose) → slice_get (poses_before l ps start count ++ p ∷ []) count ≡ Some p
past_all l ps start zero p = refl
past_all l ps start (suc count) p = past_all l ps (suc start) count p

pub pose_last : (l : Lattice) (ps : List ImagePiece) (count : ℕ) (end : Stand) (n : ℕ) → n ≡ count → slice_get (all_poses l ps count end) n ≡ Some (pose_of end)
pose_last l ps count end n e = ap (slice_get (all_poses l ps count end)) e ∙ past_all l ps 0 count (pose_of end)
