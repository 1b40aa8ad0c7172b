-- Which nodes of a level that was made are asked, and which lost their answers.
use Rattle.std.specs.Prelude.{◌≡◌, ◌⊎◌, ◌↔◌, ◌++◌, ℕ, List, None, IsSome, option_map}
use Rattle.std.specs.Option.{option_and_then}
use Rattle.lsys_spec.specs.Rows.{In, AreApart}
use Rattle.lsys_spec.specs.Systems.{System}
use Rattle.lsys_forest.specs.Nodes.{Nodes, with_answer}
use Rattle.lsys_forest.specs.Answers.{answer_of}
use Rattle.lsys_forest.specs.Groves.{Grove, IsLive}
use Rattle.lsys_forest.specs.Rows.{level_of_node, IsAtSpot}
use Rattle.lsys_reads.specs.Levels.{AnsweredAt, answer_at, level_of}
use Rattle.lsys_reads.specs.Meant.{IsCandidate, IsNeeded}
use Rattle.lsys_front.specs.Repairs.{Repair, now, rest, root}
use Rattle.lsys_front.specs.Candidates.{AsksOn}
use Rattle.lsys_front.specs.Found.{IsAmong}
use Rattle.lsys_front.specs.Fronts.{Differences}

-- 1. a level

-- The node at a place of the level is still to be asked: its question is a candidate, and it has the answer that it had.
pub record IsToAsk (r : Repair) (pending : List ℕ) (p k : ℕ) : Type 0 where
  pub among : In k pending
  pub candidate : IsCandidate r.old r.new r.limit r.level p
  pub same : answer_at (now r) k ≡ answer_at (rest r) k

-- Or it is not: what it keeps is right, and it has no question that the old system didn't answer.
pub record IsUnasked (r : Repair) (pending : List ℕ) (p k : ℕ) : Type 0 where
  pub done : In k pending → ⊥
  pub answered : AnsweredAt r.new r.level (now r) (root r) r.store p k
  pub unneeded : IsNeeded r.old r.new r.limit r.level (level_of (now r) (root r) r.level) p → ⊥

-- 2. who may have to be asked

-- those that came or turned, those beside one that changed, and readers; and others
abbrev pub MayBeAsked : Differences → List ℕ → List ℕ → List ℕ → ℕ → Type 0
MayBeAsked d beside readers others k = In k others ⊎ IsAmong d.changes d.turned beside readers k

-- all of this kind live, and stand on one complete level
pub record StandTogether {A : Type 0} (f : Grove A) (kind : ℕ → Type 0) : Type 0 where
  pub level : ℕ
  pub lives : (k : ℕ) → kind k → IsLive f k
  pub spots : (k : ℕ) → kind k → IsAtSpot f k
  pub levels : (k : ℕ) → kind k → level_of_node f k ≡ level

-- 3. who lost an answer

module _ {A : Type 0} where
  -- the node keeps an answer, and has no question on level t of the system
  pub record IsIdle (s : System) (t : ℕ) (m : Nodes A) (k : ℕ) : Type 0 where
    pub keeps : IsSome (option_and_then answer_of (m k))
    pub unasked : AsksOn s t m k → ⊥

  -- Those of these nodes that kept an answer without a question keep none now, and came after two lists. No other node changed.
  pub record Loses (s : System) (t : ℕ) (old new : Nodes A) (nodes bare bare' dropped dropped' : List ℕ) : Type 0 where
    pub lost : List ℕ
    pub bare_is : bare' ≡ bare ++ lost
    pub dropped_is : dropped' ≡ dropped ++ lost
    pub apart : AreApart lost
    pub are : (k : ℕ) → In k lost ↔ (In k nodes × IsIdle s t old k)
    pub here : (k : ℕ) → In k lost → new k ≡ option_map (with_answer None) (old k)
    pub others : (k : ℕ) → (In k lost → ⊥) → new k ≡ old k
