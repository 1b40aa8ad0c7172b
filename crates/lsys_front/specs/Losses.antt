-- Answers that are kept no more.
use Rattle.std.specs.Prelude.{◌≡◌, ◌≤◌, ◌+◌, Option, Some, Vec, vec_len, vec_capacity}
use Rattle.std.specs.declared.alloc.Global.{Global}
use Rattle.lsys_forest.specs.Answers.{AnswerKeeper}
use Rattle.lsys_forest.specs.Groves.{Grove, rest_of, kept_in, live_nodes}

module _ {A : Type 0} where
  -- Each answer that is kept was kept before, by the same keeper or by another one, and no two keepers have one of those;
  -- and none is lost.
  pub record KeepsOld (old new : AnswerKeeper → Option A) : Type 0 where
    pub from : AnswerKeeper → AnswerKeeper
    pub came : (h : AnswerKeeper) (a : A) → new h ≡ Some a → old (from h) ≡ Some a
    pub apart : (h i : AnswerKeeper) (a b : A) → new h ≡ Some a → new i ≡ Some b
        → from h ≡ from i → h ≡ i
    pub still : (h : AnswerKeeper) (a : A) → old h ≡ Some a → (i : AnswerKeeper) × (new i ≡ Some a)

  -- No answer is new and no node came, and the last rest stays.
  pub record LosesOnly (old new : Grove A) : Type 0 where
    pub kept : KeepsOld (kept_in old) (kept_in new)
    pub rest : rest_of new ≡ rest_of old
    pub root : new.root ≡ old.root
    pub live : live_nodes new ≤ live_nodes old

  -- of the places of a list that were free at most one is taken
  abbrev pub TakesOnePlace : Vec A Global → Vec A Global → Type 0
  TakesOnePlace old new =
      vec_len new + vec_capacity old ≤ vec_len old + vec_capacity new + 1
