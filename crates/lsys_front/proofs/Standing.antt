-- Nodes that stand on a complete level of a forest.
use Rattle.std.proofs.Common.{◌≡◌, ◌-◌, ◌<◌, ◌++◌, ℕ, List, length, refl, sym, ap, ◌∙◌, subst, arith}
use Rattle.std.specs.Prelude.{IsSome}
use Rattle.lsys_spec.specs.Rows.{In}
use Rattle.lsys_level.specs.Spots.{IsSpot}
use Rattle.lsys_forest.specs.Groves.{Grove, IsLive, IsRooted, changes_in, now_of}
use Rattle.lsys_forest.specs.Rows.{depth_in, level_nodes, complete_levels, level_of_node, place_of_node, IsAtSpot}
use Rattle.lsys_forest.proofs.RowLemmas.{In_left, In_right, In_split, level_depth}
use Rattle.lsys_forest.proofs.ViewLemmas.{is_spot}
use Rattle.lsys_reads.specs.Looks.{IsOnLevelOf}
use Rattle.lsys_front.specs.Fronts.{StandOn}

module _ {A : Type 0} where
  -- a node of level t stands on it, and lives
  pub at_level : (f : Grove A) (t k : ℕ) → IsRooted f.root (changes_in f) (now_of f) → In k (level_nodes (now_of f) f.root t) → level_of_node f k ≡ t
  at_level f t k sound among =
      let d = level_depth f.root (changes_in f) (now_of f) sound t k among in
      ap (λ o. depth_in o - 1) d.1 ∙ omega (arith, d.2)

  pub live_at : (f : Grove A) (t k : ℕ) → IsRooted f.root (changes_in f) (now_of f) → In k (level_nodes (now_of f) f.root t) → IsLive f k
  live_at f t k sound among = let d = level_depth f.root (changes_in f) (now_of f) sound t k among in subst IsSome (sym d.1) refl

  pub spot_at : (f : Grove A) (t k : ℕ) → IsRooted f.root (changes_in f) (now_of f) → t < length (complete_levels f) → In k (level_nodes (now_of f) f.root t) → IsAtSpot f k
  spot_at f t k sound complete among =
      let s = In_split k (level_nodes (now_of f) f.root t) among in
      let at = is_spot f t k s.0 s.1 sound complete s.2 in
      subst (λ u. IsSpot (complete_levels f) u (place_of_node f k)) (sym at.level_is) (subst (IsSpot (complete_levels f) t) (sym at.place_is) at.spot)

  module _ (f : Grove A) (t : ℕ) (nodes : List ℕ) (s : StandOn f t nodes) where
    pub stand_spots : (q : ℕ) → In q nodes → IsAtSpot f q
    stand_spots q i = spot_at f t q s.sound s.complete (s.among q i)

    pub stand_lives : (q : ℕ) → In q nodes → IsLive f q
    stand_lives q i = live_at f t q s.sound (s.among q i)

    pub stand_levels : (q : ℕ) → In q nodes → IsOnLevelOf f t q
    stand_levels q i = record { level_is = at_level f t q s.sound (s.among q i); among = s.among q i }

  -- the first of them, and the others
  pub stand_left : (f : Grove A) (t : ℕ) (xs ys : List ℕ) → StandOn f t (xs ++ ys) → StandOn f t xs
  stand_left f t xs ys s = record { sound = s.sound; complete = s.complete; among = λ q i. s.among q (In_left q xs ys i) }

  pub stand_right : (f : Grove A) (t : ℕ) (xs ys : List ℕ) → StandOn f t (xs ++ ys) → StandOn f t ys
  stand_right f t xs ys s = record { sound = s.sound; complete = s.complete; among = λ q i. s.among q (In_right q xs ys i) }
