-- The nodes of a level whose children were renewed, as those of the next level.
use Rattle.std.proofs.Common.{◌≡◌, ◌+◌, ◌<◌, ◌≤◌, ◌^◌, ℕ, List, [], ◌∷◌, length, None, Ok, arith, sum_by}
use Rattle.lsys_spec.specs.Systems.{System, WellSpelled}
use Rattle.lsys_spec.specs.Meaning.{meaning_to}
use Rattle.lsys_laws.specs.Nodes.{Extends}
use Rattle.lsys_walks.specs.Stores.{Store}
use Rattle.lsys_match.specs.Kept.{Kept}
use Rattle.lsys_forest.specs.Nodes.{Nodes}
use Rattle.lsys_forest.specs.Rows.{level_nodes, level_spots}
use Rattle.lsys_reads.specs.Lineages.{kins}
use Rattle.lsys_reads.specs.Levels.{HaveLevels, answer_at}
use Rattle.lsys_reads.specs.Meant.{meant_to}
use Rattle.lsys_children.specs.Nexts.{Successors, HasWanted, HaveWanted}
use Rattle.lsys_children.specs.Answers.{kept_successors, AreAnswered}
use Rattle.lsys_children.specs.Renewals.{AreRenewals, KeepsUpper, KeepsDeeper}
use Rattle.lsys_children.proofs.Finishing.{finished_meant, finished_levels, answers_stay, deeper_now}
use Rattle.lsys_children.proofs.Renewing.{keeps_upper}
use Rattle.lsys_children.proofs.Above.{upper_nodes, upper_spots}
use Rattle.lsys_children.proofs.Depths.{still}
use Rattle.lsys_children.proofs.Firsts.{first_meant, first_levels}
use Rattle.lsys_pass.specs.Stages.{HasTree}

-- what lies deeper is as it was
pub deeper_of : (m o : Nodes Kept) (root : ℕ) (new : System) (limit t : ℕ) → HasTree m o root new limit t → KeepsDeeper o m (t + 1)
deeper_of m o root new limit t h = record { kids = h.kids; new_kids = h.new_kids; deeper = h.deeper; none_deeper = h.none_deeper }

module _ (m m' o : Nodes Kept) (root : ℕ) (s : System) (limit t : ℕ) (store : Store) (by : Successors) (done : List ℕ)
    (tree : HasTree m o root s limit t) (ready : AreAnswered s limit t m root store) (h : AreRenewals s.numbering s.seed m m' root (t + 1) by done) where
  keeps : KeepsUpper m m' (t + 1)
  keeps = keeps_upper s.numbering s.seed m m' root (t + 1) by done h

  -- the levels up to level t stay, and the answers
  pub nodes_above : (u : ℕ) → u ≤ t → level_nodes m' root u ≡ level_nodes m root u
  nodes_above u l = upper_nodes root ready.levels.changes m m' ready.levels.sound t keeps u l

  pub spots_above : (u : ℕ) → u ≤ t → level_spots m' root u ≡ level_spots m root u
  spots_above u l = upper_spots root ready.levels.changes m m' ready.levels.sound t keeps u l

  pub answers_on : (k : ℕ) → answer_at m' k ≡ answer_at m k
  answers_on k = answers_stay s.numbering s.seed m m' root (t + 1) by done h k

  pub stays_on : Extends (kins o) (kins m')
  stays_on k n e = h.stay k n (tree.stay k n e)

  pub deeper_next : KeepsDeeper o m' (t + 1 + 1)
  deeper_next = deeper_now s.numbering s.seed o m m' root (t + 1) by done tree.stay (deeper_of m o root s limit t tree) h

  module _ (wanted : HaveWanted s.numbering s.seed m' (kept_successors m) None (level_nodes m' root t)) (few : sum_by length (meant_to s limit t) + length (level_nodes m' root (t + 1)) ≤ limit) where
    pub next_is : meaning_to s limit (t + 1) ≡ Ok (meant_to s limit (t + 1))
    next_is = finished_meant s limit t m m' root store by done ready h wanted few

    pub next_have : HaveLevels m' root s.seed (meant_to s limit (t + 1))
    next_have = finished_levels s limit t m m' root store by done ready h wanted few

    -- it is a level whose questions are to be asked
    pub next_tree : t + 1 < s.depth → t + 1 < 2 ^ 32 → HasTree m' o root s limit (t + 1)
    next_tree below small = record {
      spelled = tree.spelled;
      below = below;
      small = small;
      is = next_is;
      levels = next_have;
      counts = h.small;
      once = h.once;
      stay = stays_on;
      kids = deeper_next.kids;
      new_kids = deeper_next.new_kids;
      deeper = deeper_next.deeper;
      none_deeper = deeper_next.none_deeper;
    }

-- the first level, where the root is the only parent
module _ (m m' : Nodes Kept) (root : ℕ) (s : System) (limit : ℕ) (by : Successors) (spelled : WellSpelled s) (h : AreRenewals s.numbering s.seed m m' root 0 by (root ∷ []))
    (wanted : HasWanted s.numbering s.seed m' root s.axiom_string) (few : length (level_nodes m' root 0) ≤ limit) where
  pub first_is : meaning_to s limit 0 ≡ Ok (meant_to s limit 0)
  first_is = first_meant s limit m' root h.once wanted few

  pub first_have : HaveLevels m' root s.seed (meant_to s limit 0)
  first_have = first_levels s limit m' root spelled h.once wanted few

  pub first_deeper : KeepsDeeper m m' (0 + 1)
  first_deeper = deeper_now s.numbering s.seed m m m' root 0 by (root ∷ []) (λ k n e. e) (still m 0) h

  pub first_tree : 0 < s.depth → HasTree m' m root s limit 0
  first_tree below = record {
    spelled = spelled;
    below = below;
    small = omega arith;
    is = first_is;
    levels = first_have;
    counts = h.small;
    once = h.once;
    stay = h.stay;
    kids = first_deeper.kids;
    new_kids = first_deeper.new_kids;
    deeper = first_deeper.deeper;
    none_deeper = first_deeper.none_deeper;
  }
