use Rattle.lsys_forest.proofs.WalkLemmas.{get_In}
use Rattle.lsys_tests_derivations.proofs.scripts.ask_pending.Goals as goal

pub step-requires-clause-pending : goal.step-requires-clause-pending
step-requires-clause-pending g c = get_In _ _ _ c.nth_pending-node.ensures
