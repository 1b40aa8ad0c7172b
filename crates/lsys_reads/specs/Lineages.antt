-- Lineages of the nodes of a forest. One naming serves for the levels of the last rest and for those of now.
use Rattle.std.specs.Prelude.{ℕ, ◌+◌, ◌*◌, List, option_map}
use Rattle.lsys_spec.specs.Draws.{number_base}
use Rattle.lsys_laws.specs.Nodes.{Kin, Kins, naming}
use Rattle.lsys_forest.specs.Nodes.{Node, Nodes}

module _ {A : Type 0} where
  -- a node's number under its parent: its count where it has no code, as by places
  abbrev pub kin_of : Node A → Kin
  kin_of n = record { parent = n.parent; number = number_base * n.code + n.count; depth = n.depth }

  abbrev pub kins : Nodes A → Kins
  kins m = λ k. option_map kin_of (m k)

  -- the lineage of each node
  abbrev pub names : Nodes A → ℕ → List ℕ
  names m = naming (kins m)
