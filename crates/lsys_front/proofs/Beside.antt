-- Who is beside a node, as the view of a forest answers.
use Rattle.std.proofs.Common.{◌≡◌, ◌+◌, ◌<◌, ℕ, length, Option, Some, None, sym, ap, ◌∙◌, arith}
use Rattle.std.specs.Prelude.{MatchOption}
use Rattle.lsys_level.specs.Spots.{spots_at}
use Rattle.lsys_forest.specs.Groves.{Grove}
use Rattle.lsys_forest.specs.Rows.{complete_levels, level_of_node, place_of_node}
use Rattle.lsys_reads.specs.Neighbours.{neighbours_in, IsOnLevel}
use Rattle.lsys_reads.proofs.SeatLemmas.{told_other, told_own}
use Rattle.lsys_reads.proofs.LevelLemmas.{left_is, left_none, right_is, right_none}

module _ {A : Type 0} where
  pub left_told : (f : Grove A) (k : ℕ) (o : Option ℕ) → IsOnLevel f k
      → MatchOption o (place_of_node f k ≡ 0) (λ s. (level_of_node f s ≡ level_of_node f k) × (place_of_node f s + 1 ≡ place_of_node f k)) → o ≡ (neighbours_in f k).left
  left_told f k None h e = sym (told_own k) ∙ left_none f k e
  left_told f k (Some s) h r = sym (told_other k s (λ e. omega (arith, ap (place_of_node f) e, r.1))) ∙ left_is f k s h r

  pub right_told : (f : Grove A) (k : ℕ) (o : Option ℕ) → IsOnLevel f k
      → MatchOption o (place_of_node f k + 1 ≡ length (spots_at (complete_levels f) (level_of_node f k)))
      (λ s. (level_of_node f s ≡ level_of_node f k) × (place_of_node f s ≡ place_of_node f k + 1) × (place_of_node f s < length (spots_at (complete_levels f) (level_of_node f k))))
      → o ≡ (neighbours_in f k).right
  right_told f k None h e = sym (told_own k) ∙ right_none f k h e
  right_told f k (Some s) h r = sym (told_other k s (λ e. omega (arith, ap (place_of_node f) e, r.1))) ∙ right_is f k s h r
