-- What is kept of answers while others come and go.
use Rattle.std.specs.Prelude.{◌≡◌, ◌↔◌, ℕ, Some, List, Option}
use Rattle.lsys_walks.specs.Stores.{Store, OtherTracesStay}
use Rattle.lsys_walks.specs.Agreements.{AgreeTags}
use Rattle.lsys_match.specs.Kept.{Kept}
use Rattle.lsys_match.specs.Stored.{answer_in, runs_of}
use Rattle.lsys_match.specs.TagQuestions.{TagQuestion, question_by}
use Rattle.lsys_match.specs.Asks.{IsMade, IsNew, StaysAsKept}

-- the two answers hold no run in common; the run of an empty list has no number, and is nobody's
pub record HoldOwnRuns (a b : Kept) : Type 0 where
  pub entries : (n : ℕ) → a.entries ≡ Some n → b.entries ≡ Some n → ⊥
  pub values : (n : ℕ) → a.values ≡ Some n → b.values ≡ Some n → ⊥

-- it was made with the new store as well, and is the same answer there
pub record StaysMade (before after : Store) (a : Kept) : Type 0 where
  pub made : IsMade after a
  pub answer : answer_in after a ≡ answer_in before a

-- the tag of a question's module and those of its trace are equal to another question's exactly where their lineages are
pub record AgreeQuestions (before after : ℕ → List ℕ) (p q : TagQuestion) : Type 0 where
  pub own : (p.posed.tag ≡ q.posed.tag) ↔ (before p.posed.tag ≡ after q.posed.tag)
  pub traces : AgreeTags before after p.trace q.trace

-- an answer stays when a new one is made
abbrev pub StaysMadeBesideNew : Type 0
StaysMadeBesideNew =
    (before after : Store) (old : Option Kept) (a b : Kept)
    → IsNew before after old b
    → IsMade before a
    → StaysMade before after a

-- a new answer holds its own runs
abbrev pub NewHoldsOwnRuns : Type 0
NewHoldsOwnRuns =
    (before after : Store) (old : Option Kept) (a b : Kept)
    → IsNew before after old b
    → IsMade before a
    → HoldOwnRuns b a

-- an answer stays when another one, which holds its own runs, is released
abbrev pub StaysMadeAfterRelease : Type 0
StaysMadeAfterRelease =
    (before after : Store) (a b : Kept)
    → OtherTracesStay before after (runs_of b)
    → HoldOwnRuns b a
    → IsMade before a
    → StaysMade before after a

-- an answer stays when the store gets more room
abbrev pub StaysMadeInMoreRoom : Type 0
StaysMadeInMoreRoom =
    (before after : Store) (a : Kept)
    → StaysAsKept before after
    → IsMade before a
    → StaysMade before after a

-- questions whose tags agree are the same by tags exactly where they are by lineages
abbrev pub AreSameByLineages : Type 0
AreSameByLineages =
    (before after : ℕ → List ℕ) (t : ℕ) (p q : TagQuestion)
    → AgreeQuestions before after p q
    → (p ≡ q) ↔ (question_by before t p ≡ question_by after t q)
