-- A level that was made is the system's next one.
use Rattle.std.proofs.Common.{◌≡◌, ◌+◌, ◌≤◌, ℕ, List, None, length, sum_by}
use Rattle.lsys_spec.specs.Rows.{In}
use Rattle.lsys_spec.specs.Systems.{System}
use Rattle.lsys_walks.specs.Stores.{Store}
use Rattle.lsys_match.specs.Kept.{Kept}
use Rattle.lsys_forest.specs.Nodes.{Nodes}
use Rattle.lsys_forest.specs.Rows.{level_nodes}
use Rattle.lsys_reads.specs.Meant.{meant_to}
use Rattle.lsys_children.specs.Nexts.{Successors, AreClosed, wanted_in, HaveWanted}
use Rattle.lsys_children.specs.Answers.{kept_successors, AreAnswered}
use Rattle.lsys_children.specs.MadeLevels.{AreLevelsTo, IsLevelMade}
use Rattle.lsys_children.proofs.Finishing.{finished_meant, finished_levels}
use Rattle.lsys_children.proofs.Walks.{level_alone, level_walked}

module _ (s : System) (limit t root : ℕ) (old new : Nodes Kept) (store : Store) (by : Successors) (done : List ℕ) (a : AreAnswered s limit t old root store) (made : IsLevelMade s old new root t by done) where
  made_level : HaveWanted s.numbering s.seed new (kept_successors old) None (level_nodes new root t) → sum_by length (meant_to s limit t) + length (level_nodes new root (t + 1)) ≤ limit → AreLevelsTo s limit (t + 1) new root
  made_level wanted fits = record {
    is = finished_meant s limit t old new root store by done a made.renewals wanted fits;
    levels = finished_levels s limit t old new root store by done a made.renewals wanted fits;
  }

  pub made_walked : ((k : ℕ) → by k ≡ wanted_in old (kept_successors old) None (level_nodes old root t) k) → sum_by length (meant_to s limit t) + length (level_nodes new root (t + 1)) ≤ limit → AreLevelsTo s limit (t + 1) new root
  made_walked is = made_level (level_walked root a.levels.changes s.numbering s.seed old new t by done a.levels.sound made.renewals made.others (kept_successors old) is)

  pub made_alone : ((k : ℕ) → In k (level_nodes old root t) → by k ≡ kept_successors old k) → AreClosed by (level_nodes old root t) → sum_by length (meant_to s limit t) + length (level_nodes new root (t + 1)) ≤ limit
      → AreLevelsTo s limit (t + 1) new root
  made_alone is closed = made_level (level_alone root a.levels.changes s.numbering s.seed old new t by done a.levels.sound made.renewals made.others (kept_successors old) is closed)
