-- What is kept of a whole image tells where its turtle stands.
use Rattle.std.proofs.Common.{◌≡◌, ◌<◌, Ok, List, [], ◌∷◌, ◌++◌, length, map, refl, ap, sym, ◌∙◌, subst}
use Rattle.std.specs.Prelude.{ℤ}
use Rattle.std.proofs.lemmas.List.{append-nil}
use Rattle.lsys_syntax.specs.Strings as S
use Rattle.lsys_spec.specs.Lattices.{Lattice}
use Rattle.lsys_spec.specs.Pictures.{Segment, segments_of}
use Rattle.lsys_lattice.specs.Effects.{walked, first_walker}
use Rattle.lsys_lattice.specs.Free.{pose_of}
use Rattle.lsys_lattice.proofs.Fronts.{stand_there}
use Rattle.lsys_motion.specs.Told.{poses_of}
use Rattle.lsys_motion.specs.Pieces.{all_poses, poses_before, IsNear, IsNearTo, IsInReach}
use Rattle.lsys_motion.specs.Trees.{pieces_of, stands_of}
use Rattle.lsys_motion.specs.Keepers.{Keeper, heres, up, IsWhole, Holds, HasTaken}
use Rattle.lsys_motion.proofs.Finding.{near_there, poses_there}
use Rattle.lsys_motion.proofs.Steps.{length-heres, taken_near}
use Rattle.lsys_motion.proofs.Telling.{all_told}

module _ (l : Lattice) (total : List (S.Symbol ℤ)) (k : Keeper) (taken : HasTaken l total total k) (none : k.marks ≡ []) where
  whole : IsWhole l k.pieces (heres l total (first_walker l))
  whole = subst (λ ms. Holds l ms k.pieces (heres l total (first_walker l))) none taken.holds

  here_is : k.here ≡ (walked l total (first_walker l)).here
  here_is = ap (λ ms. up l ms k.here) (sym none) ∙ taken.here

  count : k.symbols ≡ length (stands_of l whole.trees)
  unfolding whole
  count = taken.count ∙ sym (length-heres l total (first_walker l)) ∙ ap length whole.stands_are

  pub kept_poses : (gs : List Segment) → segments_of l total ≡ Ok gs → all_poses l k.pieces k.symbols k.here ≡ poses_of l total
  unfolding whole
  kept_poses gs drawn =
      ap (λ ps. poses_before l ps 0 k.symbols ++ pose_of k.here ∷ []) whole.pieces_are
      ∙ ap (λ n. poses_before l (pieces_of l whole.trees) 0 n ++ pose_of k.here ∷ []) count
      ∙ ap (λ ps. ps ++ pose_of k.here ∷ []) (poses_there l whole.trees [] (stands_of l whole.trees) refl)
      ∙ ap (λ hs. map pose_of hs ++ pose_of k.here ∷ []) (sym whole.stands_are)
      ∙ ap (λ h. map pose_of (heres l total (first_walker l)) ++ pose_of h ∷ []) here_is
      ∙ all_told l total gs drawn

  pub kept_near : IsInReach l k.pieces k.symbols k.here
  unfolding whole
  kept_near = record {
    found = λ n less.
        subst (λ ps. IsNearTo l 0 ps n (first_walker l).here) (append-nil (pieces_of l whole.trees) ∙ sym whole.pieces_are)
        (near_there l whole.trees [] n (first_walker l).here (λ h. h) (λ g. sym (stand_there l g)) whole.near (subst (λ m. n < m) count less));
    at_end = subst IsNear (sym here_is) (taken_near l total total k taken);
  }
