-- A level of a pass as one that is being repaired.
use Rattle.std.proofs.Common.{◌≡◌, ◌⊎◌, ◌+◌, ◌<◌, ◌≤◌, ℕ, Bool, List, [], Option, Some, None, refl, sym, ◌∙◌, subst, inl, inr, arith}
use Rattle.std.proofs.lemmas.Option.{none-some}
use Rattle.lsys_spec.specs.Rows.{In}
use Rattle.lsys_spec.specs.Systems.{System}
use Rattle.lsys_match.specs.Kept.{Kept}
use Rattle.lsys_reads.specs.Relations.{Relations}
use Rattle.lsys_forest.specs.Nodes.{Node, Nodes}
use Rattle.lsys_forest.specs.Groves.{AreSound, changes_in}
use Rattle.lsys_forest.specs.Rows.{level_nodes}
use Rattle.lsys_reads.specs.Levels.{answer_at}
use Rattle.lsys_reads.specs.declared.seat.Seat.{Seat}
use Rattle.lsys_front.specs.Repairs.{Repair, SteppingSpots, rest, root}
use Rattle.lsys_front.specs.Repairs as R
use Rattle.lsys_children.specs.Renewals.{KeepsDeeper}
use Rattle.lsys_pass.specs.declared.state.PassState.TheVariants.{Level}
use Rattle.lsys_pass.specs.Rests.{IsResting}
use Rattle.lsys_pass.specs.Stages.{Stage, was, IsStored, HasTree, HasLists, IsAtLevel}
use Rattle.lsys_pass.specs.Passes.{PassView, stage_of, HoldsAt, repair_of, HasFront, FrontAt, IsPass}

-- 1. what is known of the level before its nodes are found

-- by the parts of a stage
pub stepping_sound : {listed : Bool} (r : Repair) (reads : Relations) (seats : List Seat) → AreSound (root r) (changes_in r.forest) (R.now r) → IsResting listed r.old r.limit (rest r) (root r) r.store reads seats
    → HasTree (R.now r) (rest r) (root r) r.new r.limit r.level → SteppingSpots r
stepping_sound r reads seats sound rests tree = record {
  sound = sound;
  old_spelled = rests.spelled;
  new_spelled = tree.spelled;
  old_is = rests.is;
  new_is = tree.is;
  old_levels = rests.levels;
  new_levels = tree.levels;
  once = rests.once;
  once_now = tree.once;
  stay = tree.stay;
  answered = λ p k less e. rests.answered r.level p k less e;
}

pub stepping_stored : {listed : Bool} (r : Repair) (reads : Relations) (seats : List Seat) → IsStored (R.now r) (changes_in r.forest) (root r) r.store → IsResting listed r.old r.limit (rest r) (root r) r.store reads seats
    → HasTree (R.now r) (rest r) (root r) r.new r.limit r.level → SteppingSpots r
stepping_stored r reads seats stored = stepping_sound r reads seats stored.sound

module _ (v : PassView) (t : ℕ) (h : IsPass v) (state : v.state ≡ Level t) where
  at_level : IsAtLevel (stage_of v) t
  at_level = subst (HoldsAt (stage_of v)) state h.holds

  pub stepping : SteppingSpots (repair_of v t)
  stepping = stepping_stored (repair_of v t) v.reads v.seats h.stored at_level.rest at_level.tree

-- 2. what lies deeper

pub keeps_deeper : (m o : Nodes Kept) (root : ℕ) (new : System) (limit t : ℕ) → HasTree m o root new limit t → KeepsDeeper o m (t + 1)
keeps_deeper m o root new limit t h = record { kids = h.kids; new_kids = h.new_kids; deeper = h.deeper; none_deeper = h.none_deeper }

-- what a tree of levels up to level t has to tell of what lies deeper
pub record IsDeeperKept (m o : Nodes Kept) (t : ℕ) : Type 0 where
  pub kids : (k : ℕ) (n p : Node Kept) → m k ≡ Some n → o k ≡ Some p → n.depth ≡ t + 1 → n.kids ≡ p.kids
  pub new_kids : (k : ℕ) (n : Node Kept) → m k ≡ Some n → o k ≡ None → n.depth ≡ t + 1 → n.kids ≡ []
  pub deeper : (k : ℕ) (n : Node Kept) → o k ≡ Some n → t + 1 < n.depth → m k ≡ Some n
  pub none_deeper : (k : ℕ) (n : Node Kept) → m k ≡ Some n → o k ≡ None → n.depth ≤ t + 1

-- 3. answers

-- Each node of the level has a new answer, or is one of these, or keeps what it kept.
abbrev pub AreKept : Stage → ℕ → List ℕ → Type 0
AreKept s t bare =
    (k : ℕ) → In k (level_nodes s.now s.root t)
    → In k s.renewed ⊎ In k bare ⊎ (answer_at s.now k ≡ answer_at (was s) k)

-- by the lists of a stage, where those that lost their answer are among these
pub answers_kept_by : (s : Stage) (t : ℕ) (bare : List ℕ) → HasLists s t
    → ((k : ℕ) (a : Kept) → In k (level_nodes s.now s.root t) → answer_at (was s) k ≡ Some a → answer_at s.now k ≡ None → In k bare) → AreKept s t bare
answers_kept_by s t bare h lost k on = by (answer_at (was s) k) (answer_at s.now k) refl refl
  where
    by : (o n : Option Kept) → answer_at (was s) k ≡ o → answer_at s.now k ≡ n → In k s.renewed ⊎ In k bare ⊎ (answer_at s.now k ≡ answer_at (was s) k)
    by None None e f = inr (inr (f ∙ sym e))
    by None (Some b) e f = elim (h.fresh k b f) [
      | inl i ↦ inl i
      | inr g ↦ absurd (none-some b (sym e ∙ g))
    ]
    by (Some a) n e f = elim (h.kept k a e) [
      | inl i ↦ inl i
      | inr (inl d) ↦ inr (inl (lost k a on e (h.dropped_are k t d (omega arith) on)))
      | inr (inr same) ↦ inr (inr (same ∙ sym e))
    ]

pub answers_kept : (v : PassView) (t : ℕ) → IsPass v → v.state ≡ Level t → AreKept (stage_of v) t v.front.bare
answers_kept v t h state =
    let told : HasFront v t = subst (FrontAt v) state h.front in
    answers_kept_by (stage_of v) t v.front.bare (at_level v t h state).lists (λ k a on e n. told.front.bare k a on e n)
