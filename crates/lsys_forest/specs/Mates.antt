-- The mates of brackets on a level of nodes.
use Rattle.std.specs.Prelude.{◌≡◌, ℕ, zero, suc, List, ◌∷◌, ◌++◌, Option, Some, None}
use Rattle.lsys_spec.specs.Levels.{AreMates}
use Rattle.lsys_spec.specs.Levels as L
use Rattle.lsys_level.specs.Spots.{Push, Pop, level_by}
use Rattle.lsys_forest.specs.declared.node.NodeKind.{NodeKind}
use Rattle.lsys_forest.specs.declared.node.NodeKind.TheVariants as kinds
use Rattle.lsys_forest.specs.declared.walk.Way.{Way}
use Rattle.lsys_forest.specs.declared.walk.Way.TheVariants.{Left, Right}
use Rattle.lsys_forest.specs.Nodes.{Node, Nodes}
use Rattle.lsys_forest.specs.Rows.{spot_in, index_in}
use Rattle.std.specs.Prelude.{map, ◌<◌}

-- one branch less, if there is one
abbrev pub one_less : ℕ → Option ℕ
one_less zero = None
one_less (suc n) = Some n

-- how many branches are open after a symbol, that way; none where the symbol ends the branch that is walked along
abbrev pub nested : Way → NodeKind → ℕ → Option ℕ
nested Right kinds.Push n = Some (suc n)
nested Right kinds.Pop n = one_less n
nested Left kinds.Push n = one_less n
nested Left kinds.Pop n = Some (suc n)
nested way (kinds.Module name) n = Some n

-- which way the mate of a bracket is
abbrev pub mate_way : NodeKind → Way
mate_way kinds.Push = Right
mate_way kinds.Pop = Left
mate_way (kinds.Module name) = Right

module _ {A : Type 0} where
  -- a bracket whose mate is that way
  abbrev pub IsBracketThat : Way → Option (Node A) → Type 0
  IsBracketThat way None = ⊥
  IsBracketThat Right (Some n) = n.seen ≡ Push
  IsBracketThat Left (Some n) = n.seen ≡ Pop

  -- these nodes as a level, whatever the lineages are
  abbrev pub seen_level : (ℕ → List ℕ) → Nodes A → List ℕ → List L.LevelSymbol
  seen_level naming m xs = level_by naming (map (λ k. spot_in k (m k)) xs)

  -- the second node is the mate of the first, that way
  pub record IsMateThat (way : Way) (m : Nodes A) (level : List ℕ) (node mate : ℕ) : Type 0 where
    pub before : List ℕ
    pub after : List ℕ
    pub whole : level ≡ before ++ mate ∷ after
    pub ends : way ≡ Right → (index_in node level < index_in mate level) × ((naming : ℕ → List ℕ) → AreMates (seen_level naming m level) (index_in node level) (index_in mate level))
    pub begins : way ≡ Left → (index_in mate level < index_in node level) × ((naming : ℕ → List ℕ) → AreMates (seen_level naming m level) (index_in mate level) (index_in node level))
