-- What replaces a node, by the answer that it keeps.
use Rattle.std.specs.Prelude.{◌≡◌, ℕ, slice_get, ℤ, List, [], ◌∷◌, Option, Some, None}
use Rattle.lsys_syntax.specs.Strings as S
use Rattle.lsys_spec.specs.Systems.{System}
use Rattle.lsys_module.specs.Views.{string_of}
use Rattle.lsys_level.specs.Spots.{Seen, Push, Pop, Module}
use Rattle.lsys_forest.specs.Nodes.{Nodes}
use Rattle.lsys_forest.specs.Rows.{spot_in, level_nodes}
use Rattle.lsys_walks.specs.Stores.{Store}
use Rattle.lsys_match.specs.Kept.{Kept}
use Rattle.lsys_children.specs.Wishes.{itself}
use Rattle.lsys_reads.specs.Levels.{AnsweredAt, answer_at}
use Rattle.lsys_children.specs.Nexts.{Successors, AreLevels}

-- a module by its answer, and else itself, as each bracket
abbrev pub kept_successor : Seen → Option Kept → List (S.Symbol ℤ)
kept_successor Push o = itself Push ∷ []
kept_successor Pop o = itself Pop ∷ []
kept_successor (Module v) None = itself (Module v) ∷ []
kept_successor (Module v) (Some a) = string_of a.successor

abbrev pub kept_successors : Nodes Kept → Successors
kept_successors m k = kept_successor (spot_in k (m k)).seen (answer_at m k)

-- The nodes hang together and are the system's levels up to level t, with their keys; no two of a depth have one lineage; and the
-- questions of level t are answered.
pub record AreAnswered (s : System) (limit t : ℕ) (m : Nodes Kept) (root : ℕ)
    (store : Store) : Type 0 where
  pub levels : AreLevels s limit t m root
  pub answered : (p k : ℕ) → slice_get (level_nodes m root t) p ≡ Some k
      → AnsweredAt s t m root store p k
