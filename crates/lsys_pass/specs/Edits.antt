-- An edit by a pass.
use Rattle.std.specs.Prelude.{◌≡◌, ◌<◌, ◌^◌, ℕ, List, Result, IfOk, OnOk}
use Rattle.lsys_spec.specs.Systems.{System}
use Rattle.lsys_spec.specs.Levels.{LevelSymbol}
use Rattle.lsys_spec.specs.LevelLaws.{candidate_visits}
use Rattle.lsys_spec.specs.Questions.{least_visits, questions}
use Rattle.lsys_rewrite.specs.declared.count.EditCount.{EditCount}
use Rattle.lsys_match.specs.Derivations.{AreMeant, IsCount, Rises}
use Rattle.lsys_laws.specs.Nodes.{Kins, AreOnce, Extends}
use Rattle.lsys_reads.specs.Lineages.{kins}
use Rattle.lsys_pass.specs.Passes.{PassView, now_in}

-- The nodes of two views belong together: all that live in either have a parent and a number each, the same in both, and no two
-- have one parent and one number.
pub record AreOneFamily (old new : Kins) (root : ℕ) : Type 0 where
  pub all : Kins
  pub once : AreOnce all root
  pub old_in : Extends old all
  pub new_in : Extends new all

-- It has the levels of this system now, which are fewer than a number of 32 bits can count. A node that stays has the parent and
-- the number that it had.
pub record IsEdited (old new : PassView) (s : System) : Type 0 where
  pub system : new.system ≡ s
  pub small : new.system.depth < 2 ^ 32
  pub root : new.forest.root ≡ old.forest.root
  pub family : AreOneFamily (kins (now_in old)) (kins (now_in new)) old.forest.root

-- it counts the questions that it asked, and those that the new system has
abbrev pub CountsEdited : {E : Type 0} → System → System → ℕ → Result EditCount E → Type 0
CountsEdited old new limit r =
    (x y : List (List LevelSymbol)) → AreMeant old new limit x y
    → IfOk r (IsCount (questions old x) (questions new y))

-- it reads at least the entries of the new traces, and at most those of the candidates
abbrev pub ReadsEdited : {T E : Type 0} → System → System → ℕ → ℕ → ℕ → Result T E → Type 0
ReadsEdited old new limit before after r =
    (x y : List (List LevelSymbol)) → AreMeant old new limit x y
    → OnOk r (Rises (least_visits (questions old x) (questions new y))
    (candidate_visits old new x y) before after)
