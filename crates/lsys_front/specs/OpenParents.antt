-- Nodes of a level as parents: which there are, and whether a cut reaches further than one's own children.
use Rattle.std.specs.Prelude.{◌≡◌, ℕ, true, false, List, Vec}
use Rattle.std.specs.declared.alloc.Global.{Global}
use Rattle.lsys_spec.specs.Rows.{In}
use Rattle.lsys_laws.specs.Children.{is_open}
use Rattle.lsys_match.specs.Kept.{Kept}
use Rattle.lsys_forest.specs.Nodes.{Nodes}
use Rattle.lsys_reads.specs.declared.seat.Seat.{Seat}
use Rattle.lsys_children.specs.Answers.{kept_successors}
use Rattle.lsys_front.specs.Finds.{Gathers}
use Rattle.lsys_front.specs.Fronts.{Differences, MayHaveOthers}

-- a cut among what replaces none of these nodes reaches what stands after it
abbrev pub NoneOpens : Nodes Kept → List ℕ → Type 0
NoneOpens m nodes = (k : ℕ) → In k nodes → is_open (kept_successors m k) ≡ false

-- one among what replaces some of them does
abbrev pub OneOpens : Nodes Kept → List ℕ → Type 0
OneOpens m nodes = (k : ℕ) × In k nodes × (is_open (kept_successors m k) ≡ true)

-- those whose children may be others were marked and added to a list
abbrev pub GathersParents : Differences → List ℕ → List Seat → List Seat
    → Vec ℕ Global → Vec ℕ Global → Type 0
GathersParents d renewed before after old new =
    Gathers (MayHaveOthers d renewed) before after old.items new.items
