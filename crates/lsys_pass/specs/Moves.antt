-- What the calls of a pass do.
use Rattle.std.specs.Prelude.{◌≡◌, ◌≢◌, ◌<◌, ◌+◌, ℕ, List, ◌++◌, ◌∷◌, length, Result, Ok, Err, Some, slice_get, if◌then◌else◌}
use Rattle.lsys_spec.specs.Systems.{System}
use Rattle.lsys_spec.specs.Levels.{ModuleValue, Module}
use Rattle.lsys_spec.specs.Questions.{Question, questions, is_needed}
use Rattle.lsys_rewrite.specs.declared.count.EditCount.{EditCount}
use Rattle.lsys_match.specs.Derivations.{IsCount}
use Rattle.lsys_match.specs.Asks.{ByDefinition, by_definition}
use Rattle.lsys_reads.specs.Relations.{SettledStay}
use Rattle.lsys_forest.specs.Groves.{Reached}
use Rattle.lsys_forest.specs.Rows.{level_nodes}
use Rattle.lsys_reads.specs.Levels.{level_of}
use Rattle.lsys_reads.specs.Meant.{levels_meant, level_to}
use Rattle.lsys_pass.specs.declared.state.PassState.{PassState}
use Rattle.lsys_pass.specs.declared.state.PassState.TheVariants.{Rest, Level, Done, Failed}
use Rattle.lsys_pass.specs.Stages.{fault_in}
use Rattle.lsys_pass.specs.Passes.{PassView, now_in, rest_in}

-- it stands at some level
abbrev pub AtLevel : PassState → Type 0
AtLevel (Level t) = Unit {0}
AtLevel Rest = ⊥
AtLevel Done = ⊥
AtLevel Failed = ⊥

-- the last rest stays, and both systems
pub record SameRun (old new : PassView) : Type 0 where
  pub system : new.system ≡ old.system
  pub next : new.next ≡ old.next
  pub limit : new.limit ≡ old.limit
  pub root : new.forest.root ≡ old.forest.root
  pub was : rest_in new ≡ rest_in old

-- it is at rest, with the nodes of the last rest
pub record IsBack (old new : PassView) : Type 0 where
  pub state : new.state ≡ Rest
  pub system : new.system ≡ old.system
  pub limit : new.limit ≡ old.limit
  pub root : new.forest.root ≡ old.forest.root
  pub now : now_in new ≡ rest_in old

-- 1. one question

-- a node less is pending; nothing else changes of the other nodes, nor of the levels
pub record StepsOver (old new : PassView) (node : ℕ) : Type 0 where
  pub run : SameRun old new
  pub state : new.state ≡ old.state
  pub before : List ℕ
  pub after : List ℕ
  pub pending_old : old.pending ≡ before ++ node ∷ after
  pub pending : new.pending ≡ before ++ after
  pub nodes : (k : ℕ) → k ≢ node → now_in new k ≡ now_in old k
  pub levels : (t : ℕ) → level_of (now_in new) new.forest.root t ≡ level_of (now_in old) old.forest.root t
  pub faults : (k : ℕ) → k ≢ node → fault_in k new.faults ≡ fault_in k old.faults

-- for lack of memory nothing was kept
pub record Waits (old new : PassView) : Type 0 where
  pub run : SameRun old new
  pub state : new.state ≡ old.state
  pub pending : new.pending ≡ old.pending
  pub nodes : now_in new ≡ now_in old
  pub faults : new.faults ≡ old.faults
  pub renewed : new.renewed ≡ old.renewed
  pub reads : new.reads.pending ≡ old.reads.pending
  pub settled : SettledStay old.reads new.reads

-- so many where there is a result, and none where there is a fault
abbrev pub if_fine : {A E : Type 0} → Result A E → ℕ → ℕ
if_fine (Ok a) n = n
if_fine (Err e) n = 0

-- one for a question that the old system didn't answer, of a module that has no fault
abbrev pub one_if_new : List Question → ByDefinition → ℕ
one_if_new olds d = if_fine d.successor (if is_needed olds d.question then 1 else 0)

-- What asking a node moves the counters by: how many answers are new, and how many entries are read. It is a function of the two
-- systems, the level, and the node's lineage.
abbrev pub Moves : PassView → PassState → ℕ → (ℕ → ℕ → Type 0) → Type 0
Moves v (Level t) node by =
    (p : ℕ) (l : List ℕ) (m : ModuleValue)
    → slice_get (level_nodes (now_in v) v.forest.root t) p ≡ Some node
    → slice_get (level_to v.next v.limit t) p ≡ Some (Module l m)
    → let d = by_definition v.next t (level_to v.next v.limit t) p l m in
    by (one_if_new (questions v.system (levels_meant v.system v.limit)) d) (length d.question.trace)
Moves v Rest node by = Unit {0}
Moves v Done node by = Unit {0}
Moves v Failed node by = Unit {0}

abbrev pub MovesOnce : PassView → ℕ → (ℕ → ℕ → Type 0) → Type 0
MovesOnce v node by = Moves v v.state node by

-- both counters are moved by this
abbrev pub MovesBoth : PassView → ℕ → ℕ → ℕ → ℕ → ℕ → Type 0
MovesBoth v node asked asked' visited visited' =
    MovesOnce v node (λ asks reads. (asked' ≡ asked + asks) × (visited' ≡ visited + reads))

-- 2. the levels

-- it stands at this level, or it is done where this is the last one
abbrev pub ArrivesAt : System → ℕ → PassState → Type 0
ArrivesAt s t (Level u) = (u ≡ t) × (t < s.depth)
ArrivesAt s t Done = s.depth ≡ t
ArrivesAt s t Rest = ⊥
ArrivesAt s t Failed = ⊥

-- at the next one, where it stood at some level
abbrev pub Follows : System → PassState → PassState → Type 0
Follows s (Level t) next = ArrivesAt s (t + 1) next
Follows s Rest next = ⊥
Follows s Done next = ⊥
Follows s Failed next = ⊥

-- another level is made, and no answer is new
pub record Finishes (old new : PassView) : Type 0 where
  pub run : SameRun old new
  pub state : Follows old.next old.state new.state
  pub renewed : new.renewed ≡ old.renewed

-- the new system has no levels, or memory was wanted
pub record Fails (old new : PassView) : Type 0 where
  pub run : SameRun old new
  pub state : new.state ≡ Failed

-- 3. the end

-- it is at rest with the new system, and the nodes that are reached are what they were
pub record ComesToRest (old new : PassView) : Type 0 where
  pub state : new.state ≡ Rest
  pub system : new.system ≡ old.next
  pub limit : new.limit ≡ old.limit
  pub root : new.forest.root ≡ old.forest.root
  pub nodes : (k : ℕ) → Reached (now_in old) old.forest.root k → now_in new k ≡ now_in old k

-- it counts the questions of the new system, and those that the old one didn't answer
abbrev pub CountsBoth : PassView → EditCount → Type 0
CountsBoth v count =
    IsCount (questions v.system (levels_meant v.system v.limit)) (questions v.next (levels_meant v.next v.limit))
    count
