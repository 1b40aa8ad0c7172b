-- Lists of what is told, as they grow.
use Rattle.std.specs.Prelude.{ℕ, List, [], ◌∷◌, ◌++◌}
use Rattle.lsys_children.specs.Children.{ToldNodes}

-- nothing is told, with so much room
abbrev pub nothing_told : ℕ → ToldNodes
nothing_told room = record { touched = []; changed = []; added = []; gone = []; room = room }

-- this node, or these nodes, are told too, and so much room is left
abbrev pub with_touched : ToldNodes → ℕ → ℕ → ToldNodes
with_touched t k room = record t { touched = t.touched ++ k ∷ []; room = room }

abbrev pub with_changed : ToldNodes → ℕ → ℕ → ToldNodes
with_changed t k room = record t { changed = t.changed ++ k ∷ []; room = room }

abbrev pub with_added : ToldNodes → ℕ → ℕ → ToldNodes
with_added t k room = record t { added = t.added ++ k ∷ []; room = room }

abbrev pub with_gone : ToldNodes → List ℕ → ℕ → ToldNodes
with_gone t ks room = record t { gone = t.gone ++ ks; room = room }
