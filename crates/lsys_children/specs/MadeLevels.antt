-- The level that is made of what is wanted of the nodes of a level.
use Rattle.std.specs.Prelude.{◌≡◌, ◌⊎◌, ◌+◌, ◌≤◌, ℕ, List, length, sum_by, None, Ok}
use Rattle.lsys_spec.specs.Rows.{In}
use Rattle.lsys_spec.specs.Systems.{System}
use Rattle.lsys_spec.specs.Meaning.{meaning_to}
use Rattle.lsys_walks.specs.Stores.{Store}
use Rattle.lsys_match.specs.Kept.{Kept}
use Rattle.lsys_forest.specs.Nodes.{Nodes}
use Rattle.lsys_forest.specs.Rows.{level_nodes}
use Rattle.lsys_reads.specs.Levels.{HaveLevels, answer_at}
use Rattle.lsys_reads.specs.Meant.{meant_to}
use Rattle.lsys_children.specs.Nexts.{Successors, HasWanted, AreClosed, wanted_in}
use Rattle.lsys_children.specs.Renewals.{AreRenewals}
use Rattle.lsys_children.specs.Answers.{kept_successors, AreAnswered}

-- the nodes are the levels of a system up to level t, which are within the limit
pub record AreLevelsTo (s : System) (limit t : ℕ) (m : Nodes Kept) (root : ℕ) : Type 0 where
  pub is : meaning_to s limit t ≡ Ok (meant_to s limit t)
  pub levels : HaveLevels m root s.seed (meant_to s limit t)

-- Some nodes of level t had their children made; each other one had those that are wanted of it.
pub record IsLevelMade (s : System) (old new : Nodes Kept) (root t : ℕ) (by : Successors) (done : List ℕ) : Type 0 where
  pub renewals : AreRenewals s.numbering s.seed old new root (t + 1) by done
  pub others : (k : ℕ) → In k (level_nodes old root t) → In k done ⊎ HasWanted s.numbering s.seed old k (by k)

-- The children that a walk of the level finds to be wanted are the next level, within the limit.
abbrev pub WalkedLevelIsTheNext : Type 0
WalkedLevelIsTheNext =
    (s : System) (limit t root : ℕ) (old new : Nodes Kept) (store : Store)
    (by : Successors) (done : List ℕ)
    → AreAnswered s limit t old root store
    → IsLevelMade s old new root t by done
    → ((k : ℕ) → by k ≡ wanted_in old (kept_successors old) None (level_nodes old root t) k)
    → sum_by length (meant_to s limit t) + length (level_nodes new root (t + 1)) ≤ limit
    → AreLevelsTo s limit (t + 1) new root

-- So are those of what replaces each node, where no cut reaches what stands after its children.
abbrev pub ClosedLevelIsTheNext : Type 0
ClosedLevelIsTheNext =
    (s : System) (limit t root : ℕ) (old new : Nodes Kept) (store : Store)
    (by : Successors) (done : List ℕ)
    → AreAnswered s limit t old root store
    → IsLevelMade s old new root t by done
    → ((k : ℕ) → In k (level_nodes old root t) → by k ≡ kept_successors old k)
    → AreClosed by (level_nodes old root t)
    → sum_by length (meant_to s limit t) + length (level_nodes new root (t + 1)) ≤ limit
    → AreLevelsTo s limit (t + 1) new root

-- Where a level was made, answers stay.
abbrev pub MadeLevelKeepsAnswers : Type 0
MadeLevelKeepsAnswers =
    (s : System) (t root : ℕ) (old new : Nodes Kept)
    (by : Successors) (done : List ℕ)
    → IsLevelMade s old new root t by done → (k : ℕ) → answer_at new k ≡ answer_at old k
