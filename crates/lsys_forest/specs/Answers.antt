-- Which runs of a store the answers of nodes and of changes hold.
use Rattle.std.specs.Prelude.{◌≡◌, ◌⊎◌, ℕ, List, [], Option, Some, None, IsSome, slice_get}
use Rattle.std.specs.Option.{option_and_then}
use Rattle.lsys_forest.specs.Nodes.{Node, Nodes}
use Rattle.lsys_forest.specs.Changes.{Missing, OldSeen, OldKey, OldKids, OldAnswer, Change}

-- who keeps an answer: a node, or a change, by its place
pub data AnswerKeeper : Type 0 where
  AtNode : ℕ → AnswerKeeper
  AtChange : ℕ → AnswerKeeper

module _ {A : Type 0} where
  abbrev pub answer_of : Node A → Option A
  answer_of n = n.answer

  abbrev pub old_answer : Change A → Option A
  old_answer c = elim c.before [ Missing ↦ None | OldSeen x ↦ None | OldKey x ↦ None | OldKids x ↦ None | OldAnswer x ↦ x ]

  -- the answers that nodes keep, and those that they kept before a change
  abbrev pub answers : Nodes A → List (Change A) → AnswerKeeper → Option A
  answers m changes (AtNode k) = option_and_then answer_of (m k)
  answers m changes (AtChange i) = option_and_then old_answer (slice_get changes i)

  -- the answers that nodes keep
  abbrev pub kept_by : Nodes A → AnswerKeeper → Option A
  kept_by m h = answers m [] h

  module _ {Store Name Run : Type 0} (run_at : Store → Name → Option Run) (holds : A → Name → Type 0) where
    -- an answer that is kept holds the run
    abbrev pub IsHeld : (AnswerKeeper → Option A) → Name → Type 0
    IsHeld kept r = (h : AnswerKeeper) × (a : A) × (kept h ≡ Some a) × holds a r

    -- each answer was made with this store, and no two hold one run
    pub record LiveApart (store : Store) (kept : AnswerKeeper → Option A) : Type 0 where
      pub made : (h : AnswerKeeper) (a : A) (r : Name) → kept h ≡ Some a → holds a r → IsSome (run_at store r)
      pub once : (h i : AnswerKeeper) (a b : A) (r : Name) → kept h ≡ Some a → kept i ≡ Some b → holds a r → holds b r → h ≡ i

    -- the answer, if there is one, was made with this store: its runs are live
    abbrev pub Lives : Store → Option A → Type 0
    Lives store answer = (a : A) → answer ≡ Some a → (r : Name) → holds a r → IsSome (run_at store r)

    -- the runs of this answer, if there is one, are live no more, and all others stay
    pub record Releases (answer : Option A) (old new : Store) : Type 0 where
      pub gone : (a : A) → answer ≡ Some a → (r : Name) → holds a r → run_at new r ≡ None
      pub others : (r : Name) → ((a : A) → answer ≡ Some a → holds a r → ⊥) → run_at new r ≡ run_at old r

    -- of the runs that answers held first, exactly those that are held no more are live no more, and all others stay
    pub record FreesUnheld (first : AnswerKeeper → Option A) (start : Store) (kept : AnswerKeeper → Option A) (store : Store) : Type 0 where
      pub sub : (r : Name) → IsHeld kept r → IsHeld first r
      pub stay : (r : Name) → IsHeld kept r → run_at store r ≡ run_at start r
      pub cases : (r : Name) → IsHeld first r → IsHeld kept r ⊎ (run_at store r ≡ None)
      pub others : (r : Name) → (IsHeld first r → ⊥) → run_at store r ≡ run_at start r

    -- exactly the runs that these answers hold, and not those that are kept, are live no more, and all others stay
    pub record FreesAllBut (held kept : AnswerKeeper → Option A) (old new : Store) : Type 0 where
      pub freed : (r : Name) → IsHeld held r → (IsHeld kept r → ⊥) → run_at new r ≡ None
      pub kept_runs : (r : Name) → IsHeld kept r → run_at new r ≡ run_at old r
      pub others : (r : Name) → (IsHeld held r → ⊥) → run_at new r ≡ run_at old r
