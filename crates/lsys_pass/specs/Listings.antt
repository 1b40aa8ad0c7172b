-- Who read what, as it is listed from the answers that nodes keep.
use Rattle.std.specs.Prelude.{◌≡◌, ◌<◌, ◌≤◌, ◌++◌, ℕ, List, [], Option, Some, None, length, flat_map}
use Rattle.lsys_spec.specs.Rows.{In}
use Rattle.lsys_walks.specs.Stores.{Store, AreLive}
use Rattle.lsys_match.specs.Kept.{Kept}
use Rattle.lsys_match.specs.Stored.{runs_of}
use Rattle.lsys_reads.specs.declared.Pair.{Pair}
use Rattle.lsys_reads.specs.Relations.{Relations}
use Rattle.lsys_forest.specs.Nodes.{Nodes}
use Rattle.lsys_forest.specs.Groves.{Grove, now_of}
use Rattle.lsys_forest.specs.Rows.{level_nodes, complete_levels}
use Rattle.lsys_reads.specs.Levels.{answer_at, tags_read}
use Rattle.lsys_pass.specs.Read.{pairs_of, AddsPairs}
use Rattle.lsys_pass.specs.Others.{AllLive}

-- what an answer read, if there is one
abbrev pub tags_if_any : Store → Option Kept → List ℕ
tags_if_any store None = []
tags_if_any store (Some a) = tags_read store a

abbrev pub tags_read_at : Nodes Kept → Store → ℕ → List ℕ
tags_read_at m store k = tags_if_any store (answer_at m k)

-- each of these nodes with what its answer read
abbrev pub pairs_at : Nodes Kept → Store → List ℕ → List Pair
pairs_at m store ks = flat_map (λ k. pairs_of k (tags_read_at m store k)) ks

-- the traces of all answers are live
abbrev pub AreAnswersLive : Nodes Kept → Store → Type 0
AreAnswersLive m store = (k : ℕ) (a : Kept) → answer_at m k ≡ Some a → AreLive store (runs_of a)

-- what a node read is pending, after what was
abbrev pub ListsOne : Grove Kept → Store → ℕ → Relations → Relations → Type 0
ListsOne f store k old new = AddsPairs old new k (tags_read_at (now_of f) store k)

-- what the nodes of level t read is pending, after what was
abbrev pub ListsOn : Grove Kept → Store → ℕ → Relations → Relations → Type 0
ListsOn f store t old new =
    new.pending ≡ old.pending ++ pairs_at (now_of f) store (level_nodes (now_of f) f.root t)

-- Which nodes keep answers: some of so many levels, which are complete. Their traces are live.
pub record HaveAnswersTo (f : Grove Kept) (store : Store) (depth : ℕ) : Type 0 where
  pub complete : depth ≤ length (complete_levels f)
  pub nodes : (t : ℕ) → t < depth → AllLive f (level_nodes (now_of f) f.root t)
  pub live : AreAnswersLive (now_of f) store
  pub there : (k : ℕ) (a : Kept) → answer_at (now_of f) k ≡ Some a
      → (t : ℕ) × (t < depth) × In k (level_nodes (now_of f) f.root t)
