-- What a contract sees of a derivation whose levels stand in a forest.
use Rattle.std.specs.Prelude.{◌≡◌, ◌<◌, ◌≤◌, ◌+◌, ◌^◌, ◌⊎◌, ℕ, zero, suc, List, [], ◌∷◌, ◌++◌, Option, Some, None, length, map, take, cond, nat_lt, Ok, slice_get}
use Rattle.lsys_spec.specs.Rows.{In}
use Rattle.lsys_spec.specs.Draws.{key_of}
use Rattle.lsys_spec.specs.Systems.{System}
use Rattle.lsys_spec.specs.Levels.{LevelSymbol}
use Rattle.lsys_spec.specs.Meaning.{meaning}
use Rattle.lsys_spec.specs.Questions.{questions}
use Rattle.lsys_laws.specs.Seeds.{HasNoWeights, reseeded}
use Rattle.lsys_level.specs.Spots.{Spotted, spots_at}
use Rattle.lsys_match.specs.Kept.{Kept}
use Rattle.lsys_forest.specs.Nodes.{Node, Nodes}
use Rattle.lsys_forest.specs.Groves.{Grove, now_of, IsLive}
use Rattle.lsys_forest.specs.Rows.{index_in, level_nodes, complete_levels}
use Rattle.lsys_reads.specs.Lineages.{names}
use Rattle.lsys_reads.specs.Levels.{AnsweredAt, answer_at}
use Rattle.lsys_pass.specs.declared.state.PassState.TheVariants.{Rest}
use Rattle.lsys_pass.specs.Passes.{PassView, now_in}

-- 1. where a symbol stands, by its tag

-- the tags of a level's symbols
abbrev pub tags_on : List Spotted → List ℕ
tags_on xs = map (λ (x : Spotted). x.tag) xs

-- at which place of a level the tag stands first; how many symbols there are, where it is not
-- among theirs
abbrev pub tag_place : ℕ → List Spotted → ℕ
tag_place tag xs = index_in tag (tags_on xs)

-- on which level it stands first; how many levels there are, where it is on none
abbrev pub level_in : ℕ → List (List Spotted) → ℕ
level_in tag [] = 0
level_in tag (x ∷ xs) = cond (nat_lt (tag_place tag x) (length x)) 0 (suc (level_in tag xs))

-- at which place of that level
abbrev pub place_among : ℕ → List (List Spotted) → ℕ
place_among tag levels = tag_place tag (spots_at levels (level_in tag levels))

-- 2. a derivation

-- the system, the limit, and the levels, of which each symbol has its node's number as its tag, and the
-- key of its lineage by the system's seed; and the nodes of each level, with the answers that they keep
pub record ForestView : Type 0 where
  pub system : System
  pub limit : ℕ
  pub levels : List (List Spotted)
  pub nodes : List (List (Option (Node Kept)))

-- the nodes of so many levels
abbrev pub nodes_of_levels : Nodes Kept → ℕ → ℕ → List (List (Option (Node Kept)))
nodes_of_levels m root zero = []
nodes_of_levels m root (suc t) = nodes_of_levels m root t ++ map m (level_nodes m root t) ∷ []

-- the levels of a pass: those of its forest, up to the depth of its system
abbrev pub pass_levels : PassView → List (List Spotted)
pass_levels v = take (v.system.depth + 1) (complete_levels v.forest)

-- a symbol of these nodes, with the key of its lineage by a seed
abbrev pub keyed_by : ℕ → Nodes Kept → Spotted → Spotted
keyed_by seed m x = record x { key = key_of seed (names m x.tag) }

-- the levels of a forest, up to the depth of this system, with the keys by its seed
abbrev pub levels_for : System → Grove Kept → List (List Spotted)
levels_for s f = map (map (keyed_by s.seed (now_of f))) (take (s.depth + 1) (complete_levels f))

-- what a derivation of this system is seen as that keeps this pass
abbrev pub view_of : System → PassView → ForestView
view_of s v = record {
  system = s;
  limit = v.limit;
  levels = levels_for s v.forest;
  nodes = nodes_of_levels (now_in v) v.forest.root (s.depth + 1);
}

-- A pass may derive this in place of a system: the system itself or, where no rule has a weight, the
-- system with another seed.
abbrev pub IsPosed : System → System → Type 0
IsPosed s posed = (posed ≡ s) ⊎ (HasNoWeights s × (posed ≡ reseeded posed.seed s))

-- the pass is at rest, and its forest has a level for each of its system's
pub record IsQuiet (v : PassView) : Type 0 where
  pub state : v.state ≡ Rest
  pub small : v.system.depth < 2 ^ 32

-- so many questions the levels have that the system means
abbrev pub CountsAnswered : ForestView → ℕ → Type 0
CountsAnswered v n =
    (x : List (List LevelSymbol)) → meaning v.system v.limit ≡ Ok x → n ≡ length (questions v.system x)

-- 3. what its pass keeps

-- no node lives but the root, and those of the levels up to the system's depth
abbrev pub KeepsLevelsAlone : PassView → Type 0
KeepsLevelsAlone v =
    (k : ℕ) → IsLive v.forest k
    → (k ≡ v.forest.root)
    ⊎ ((t : ℕ) × (t ≤ v.system.depth) × In k (level_nodes (now_in v) v.forest.root t))

-- each node above the last level keeps an answer exactly where it has a question, and it is the answer to that
abbrev pub AnswersItsQuestions : PassView → Type 0
AnswersItsQuestions v =
    (t p k : ℕ) → t < v.system.depth → slice_get (level_nodes (now_in v) v.forest.root t) p ≡ Some k
    → AnsweredAt v.system t (now_in v) v.forest.root v.store p k

-- the root has no question, nor has a node of the last level, and they keep no answers
abbrev pub KeepsNoOtherAnswer : PassView → Type 0
KeepsNoOtherAnswer v =
    (k : ℕ) → (k ≡ v.forest.root) ⊎ In k (level_nodes (now_in v) v.forest.root v.system.depth)
    → answer_at (now_in v) k ≡ None
