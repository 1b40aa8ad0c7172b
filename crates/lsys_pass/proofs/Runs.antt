-- Which runs are live at rest.
use Rattle.std.proofs.Common.{◌≡◌, ℕ, List, [], Some, subst}
use Rattle.lsys_walks.specs.Stores.{Store}
use Rattle.lsys_match.specs.Kept.{Kept}
use Rattle.lsys_forest.specs.Nodes.{Nodes}
use Rattle.lsys_forest.specs.Answers.{AtNode, answers}
use Rattle.lsys_forest.specs.Changes.{Change}
use Rattle.lsys_pass.specs.declared.state.PassState.TheVariants.{Rest}
use Rattle.lsys_pass.specs.Stages.{IsStored}
use Rattle.lsys_pass.specs.Passes.{PassView, stage_of, HoldsAt, IsStill, AreOwnRuns, HasOwnRuns, IsPass}
use Rattle.lsys_pass.proofs.Keepers.{live_run, only_node}

-- where no change is kept
pub own_runs : (m : Nodes Kept) (changes : List (Change Kept)) (root : ℕ) (store : Store) → IsStored m changes root store → changes ≡ [] → AreOwnRuns m store
own_runs m changes root store stored still = record {
  live = λ k a r e of. live_run store a (stored.made (AtNode k) a e) r of;
  only = λ r not. stored.freed r (λ of.
      let n = only_node m of.0 of.1 (subst (λ (cs : List (Change Kept)). answers m cs of.0 ≡ Some of.1) still of.2) in
      not n.0 of.1 n.1 of.3);
}

pub runs_at_rest : (v : PassView) → IsPass v → v.state ≡ Rest → HasOwnRuns v
runs_at_rest v h state = still.runs
  where
    still : IsStill (stage_of v)
    still = subst (HoldsAt (stage_of v)) state h.holds
