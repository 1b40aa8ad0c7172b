-- The last level of a pass at rest.
use Rattle.std.proofs.Common.{◌≡◌, ◌+◌, ◌<◌, ◌^◌, ℕ, length, refl, sym, subst, arith}
use Rattle.lsys_match.specs.Kept.{Kept}
use Rattle.lsys_forest.specs.Groves.{Grove}
use Rattle.lsys_forest.specs.Rows.{complete_levels}
use Rattle.lsys_pass.specs.declared.state.PassState.TheVariants.{Rest}
use Rattle.lsys_pass.specs.Passes.{PassView, IsPass}
use Rattle.lsys_pass.specs.Views.{pass_levels}
use Rattle.lsys_pass.proofs.Viewing.{shows, below}
use Rattle.lsys_pass.proofs.Deriving.{count}

-- the forest of a pass at rest has a level for each of its system's
pub last_level : (v : PassView) (f : Grove Kept) (depth : ℕ) → IsPass v → v.state ≡ Rest → f ≡ v.forest → depth ≡ v.system.depth → depth < 2 ^ 32 → depth < length (complete_levels f)
last_level v f depth h rest same is small =
    subst (λ (g : Grove Kept). depth < length (complete_levels g)) (sym same)
    (below v.forest (v.system.depth + 1) (pass_levels v) (shows v (v.system.depth + 1) v.forest h refl) depth
    (omega (arith, is, many))).1
  where
    many : length (pass_levels v) ≡ v.system.depth + 1
    many = count v h (record { state = rest; small = omega (arith, is, small) })
