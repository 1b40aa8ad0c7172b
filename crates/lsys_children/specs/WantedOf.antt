-- The children that are wanted of one parent.
use Rattle.std.specs.Prelude.{ℕ, List, [], ◌∷◌}
use Rattle.lsys_reading.specs.declared.parts.Lineage.{Lineage as Numbering}
use Rattle.lsys_reading.specs.Commands.{numbering_of}
use Rattle.lsys_match.specs.Kept.{Kept}
use Rattle.lsys_forest.specs.Groves.{Grove, now_of}
use Rattle.lsys_forest.specs.Rows.{spot_in}
use Rattle.lsys_children.specs.declared.child.Child.{Child}
use Rattle.lsys_children.specs.Wishes.{AreWanted, itself}
use Rattle.lsys_children.specs.Nexts.{node_key}
use Rattle.lsys_children.specs.Answers.{kept_successors}
use Rattle.lsys_children.specs.declared.parent.Parent.{Parent}
use Rattle.lsys_children.specs.Parents.{wants}

-- those of what replaces it, and none where they are cut off
abbrev pub WantsOf : Numbering → Grove Kept → Parent → List Child → Type 0
WantsOf g f p children =
    AreWanted (numbering_of g) (node_key (now_of f) p.node) (wants (now_of f) p) children

-- those of what replaces a node
abbrev pub WantsWhole : Numbering → Grove Kept → ℕ → List Child → Type 0
WantsWhole g f k children =
    AreWanted (numbering_of g) (node_key (now_of f) k) (kept_successors (now_of f) k) children

-- the node itself, where nothing replaces it
abbrev pub WantsItself : Numbering → Grove Kept → ℕ → List Child → Type 0
WantsItself g f k children =
    AreWanted (numbering_of g) (node_key (now_of f) k)
    (itself (spot_in k (now_of f k)).seen ∷ []) children
