-- The nodes of a level as parents, by what replaces them.
use Rattle.std.specs.Prelude.{◌≡◌, ◌≤◌, ℕ, List, ◌++◌, length, None, Vec}
use Rattle.std.specs.declared.alloc.Global.{Global}
use Rattle.lsys_spec.specs.Rows.{In}
use Rattle.lsys_spec.specs.Draws.{number_base}
use Rattle.lsys_match.specs.Kept.{Kept}
use Rattle.lsys_forest.specs.Nodes.{Nodes}
use Rattle.lsys_forest.specs.Groves.{Grove, now_of}
use Rattle.lsys_children.specs.Nexts.{AreClosed}
use Rattle.lsys_children.specs.Answers.{kept_successors}
use Rattle.lsys_children.specs.declared.parent.Parent.{Parent}
use Rattle.lsys_children.specs.Parents.{cut_parents}

-- what replaces each of these nodes has no more symbols than there are numbers for a code
abbrev pub HaveShortSuccessors : Nodes Kept → List ℕ → Type 0
HaveShortSuccessors m nodes = (k : ℕ) → In k nodes → length (kept_successors m k) ≤ number_base

-- no cut among what replaces one of these reaches what stands after it
abbrev pub NoneReaches : Nodes Kept → List ℕ → Type 0
NoneReaches m nodes = AreClosed (kept_successors m) nodes

-- the nodes came after some parents, as a walk from the left finds which of them are cut off
abbrev pub AreWalked : Grove Kept → List ℕ → Vec Parent Global → Vec Parent Global → Type 0
AreWalked f nodes old new = new.items ≡ old.items ++ cut_parents (now_of f) None nodes
