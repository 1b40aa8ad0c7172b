-- The whole image is taken from its start.
use Rattle.std.proofs.Common.{◌≡◌, ℕ, None, List, [], ap, sym, ◌∙◌, subst}
use Rattle.std.specs.Prelude.{ℤ}
use Rattle.lsys_syntax.specs.Strings as S
use Rattle.lsys_spec.specs.Systems.{Homomorphism, System}
use Rattle.lsys_spec.specs.Lattices.{Lattice}
use Rattle.lsys_lattice.specs.Extents.{Extents}
use Rattle.lsys_lattice.specs.Effects.{Stand}
use Rattle.lsys_spec.specs.Pictures.{Pose}
use Rattle.lsys_level.specs.Spots.{Spotted, spots_at}
use Rattle.lsys_hom.specs.Coming.{Coming, coming_from}
use Rattle.lsys_hom.specs.Ways.{bare_level}
use Rattle.lsys_out.specs.Drawings.{last_drawing, last_image}
use Rattle.lsys_motion.specs.Told.{Track, poses_of}
use Rattle.lsys_motion.specs.Pieces.{ImagePiece, IsInReach, all_poses}
use Rattle.lsys_motion.specs.Keepers.{Keeper, empty, HasTaken, IsUnderway}
use Rattle.lsys_motion.specs.Going.{IsGoing, GoesOn}
use Rattle.lsys_motion.proofs.Keeping.{start_underway, ended_whole}
use Rattle.lsys_motion.proofs.Telling.{is_drawn, stays_near, few_symbols}
use Rattle.lsys_motion.proofs.Ending.{kept_poses, kept_near}

pub walk_begun : (s : System) (levels : List (List Spotted)) (c : Coming) (hs : List Homomorphism) (d : ℕ) → c ≡ coming_from hs 0 0 (bare_level (spots_at levels d)) → hs ≡ s.homomorphisms → d ≡ s.depth
    → c ≡ last_image s levels
walk_begun s levels c hs d e f g =
    e ∙ ap (λ hs. coming_from hs 0 0 (bare_level (spots_at levels d))) f ∙ ap (λ d. coming_from s.homomorphisms 0 0 (bare_level (spots_at levels d))) g

module _ (l : Lattice) (s : System) (levels : List (List Spotted)) (drawn : (last_drawing l s levels).refusal ≡ None) where
  abbrev total : List (S.Symbol ℤ)
  total = (last_image s levels).symbols

  start : (k : Keeper) → k ≡ empty l → IsUnderway l (last_image s levels).symbols (last_image s levels).symbols k
  start k e = start_underway l total k e (stays_near l total (last_drawing l s levels).segments (is_drawn (λ tag. []) l s levels drawn).segments) (few_symbols s levels)

  pub start_going : (c : Coming) (k : Keeper) → c ≡ last_image s levels → k ≡ empty l → IsGoing l c k
  start_going c k e f = record {
    busy = record { total = total; is = subst (λ (c : Coming). IsUnderway l (last_image s levels).symbols c.symbols k) (sym e) (start k f) };
    refusal = ap (λ (c : Coming). c.refusal) e ∙ (is_drawn (λ tag. []) l s levels drawn).refusal;
  }

  pub whole_taken : (c c' : Coming) (k k' : Keeper) → c ≡ last_image s levels → k ≡ empty l → GoesOn l c k c' k' → c'.symbols ≡ [] → HasTaken l (last_image s levels).symbols (last_image s levels).symbols k'
  whole_taken c c' k k' e f g none =
      let u : IsUnderway l (last_image s levels).symbols c'.symbols k' = g.keeps total (subst (λ (c : Coming). IsUnderway l (last_image s levels).symbols c.symbols k) (sym e) (start k f)) in
      ended_whole l total k' (subst (λ xs. IsUnderway l (last_image s levels).symbols xs k') none u)

  -- what is kept of it
  pub told_poses : (k : Keeper) → HasTaken l (last_image s levels).symbols (last_image s levels).symbols k → k.marks ≡ [] → all_poses l k.pieces k.symbols k.here ≡ poses_of l (last_image s levels).symbols
  told_poses k t none = kept_poses l total k t none (last_drawing l s levels).segments (is_drawn (λ tag. []) l s levels drawn).segments

  pub told_near : (k : Keeper) → HasTaken l (last_image s levels).symbols (last_image s levels).symbols k → k.marks ≡ [] → IsInReach l k.pieces k.symbols k.here
  told_near k t none = kept_near l total k t none

same_told : (a b : Extents) (p q : List Pose) → a ≡ b → p ≡ q → (let t : Track = record { bounds = a; poses = p } in t) ≡ record { bounds = b; poses = q }
same_told a b p q e f = cc

-- the same by its parts
pub by_parts : (l : Lattice) (ps qs : List ImagePiece) (n m : ℕ) (h j : Stand) (a b : Extents) (poses : List Pose) → ps ≡ qs → n ≡ m → h ≡ j → a ≡ b → all_poses l qs m j ≡ poses
    → (let t : Track = record { bounds = a; poses = all_poses l ps n h } in t) ≡ record { bounds = b; poses = poses }
by_parts l ps qs n m h j a b poses e f g same is = same_told a b (all_poses l ps n h) poses same (ap (λ rs. all_poses l rs n h) e ∙ ap (λ i. all_poses l qs i h) f ∙ ap (λ k. all_poses l qs m k) g ∙ is)

pub near_by_parts : (l : Lattice) (ps qs : List ImagePiece) (n m : ℕ) (h j : Stand) → ps ≡ qs → n ≡ m → h ≡ j → IsInReach l qs m j → IsInReach l ps n h
near_by_parts l ps qs n m h j e f g r =
    subst (λ rs. IsInReach l rs n h) (sym e) (subst (λ i. IsInReach l qs i h) (sym f) (subst (λ k. IsInReach l qs m k) (sym g) r))
