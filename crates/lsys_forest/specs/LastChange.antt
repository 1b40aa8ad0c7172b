-- What befalls the last change of a stock, and which answers are given back with it.
use Rattle.std.specs.Prelude.{◌≡◌, ℕ, List, [], ◌∷◌, ◌++◌, Option, Some}
use Rattle.lsys_forest.specs.declared.journal.Line.{Line}
use Rattle.lsys_forest.specs.declared.journal.Value.{Value}
use Rattle.lsys_forest.specs.declared.note.Look.{Look}
use Rattle.lsys_forest.specs.declared.note.Note.{Note}
use Rattle.lsys_forest.specs.declared.note.Remnant.{Remnant}
use Rattle.lsys_forest.specs.declared.note.Was.{Was}
use Rattle.lsys_forest.specs.Notes.{Notes, PutsBy, remnant_of}
use Rattle.lsys_forest.specs.Nodes.{Node}
use Rattle.lsys_forest.specs.Changes.{Change}
use Rattle.lsys_forest.specs.Answers.{AnswerKeeper, old_answer, answers, Lives, Releases, FreesUnheld}
use Rattle.lsys_forest.specs.Stocks.{Stock, nodes_of, changes_of, dropped, noted_answer, Undoes, TakesUp, Removes}

module _ {A : Type 0} where
  -- the answers that the nodes of a stock keep, and those that they kept before a change
  abbrev pub answers_in : Stock A → AnswerKeeper → Option A
  answers_in t = answers (nodes_of t) (changes_of t)

  -- this holds of the last change, if there is one
  abbrev pub ForLastChange : Stock A → (Change A → Type 0) → Type 0
  ForLastChange t IsSo =
      (c : Change A) (earlier : List (Change A)) → changes_of t ≡ earlier ++ c ∷ [] → IsSo c

  -- there is no change, and all stays
  abbrev pub StaysUnchanged : {Store : Type 0} → Stock A → Stock A → Store → Store → Type 0
  StaysUnchanged old new before after = (changes_of old ≡ []) × (new ≡ old) × (after ≡ before)

  module _ {Store Name Run : Type 0} (run_at : Store → Name → Option Run)
      (holds : A → Name → Type 0) where
    -- the answer that is kept no more once the last change is undone was made with this store
    abbrev pub UndoDropsMade : Stock A → Store → Type 0
    UndoDropsMade t store =
        ForLastChange t (λ c. Lives run_at holds store (dropped c (nodes_of t)))

    -- a change was undone, and the answer that is kept no more was released
    abbrev pub GoesBack : Stock A → Stock A → Store → Store → Type 0
    GoesBack old new before after =
        (c : Change A) × Undoes old new c
        × Releases run_at holds (dropped c (nodes_of old)) before after

    -- a commit took a change up, and looks at these nodes, and the answer that it kept was released
    abbrev pub TakesOneUp : Stock A → Stock A → Store → Store → Look → Type 0
    TakesOneUp old new before after look =
        (c : Change A) × TakesUp old new c look × Releases run_at holds (old_answer c) before after

    -- the same, whichever nodes a commit looks at
    abbrev pub ForgetsOne : Stock A → Stock A → Store → Store → Type 0
    ForgetsOne old new before after = (look : Look) × TakesOneUp old new before after look

    -- the last note was taken up: its answer was released, and this is left of it
    abbrev pub TakesNoteUp : Notes A → Notes A → Store → Store → Remnant → Type 0
    TakesNoteUp old new before after left =
        (n : Note A) × (old.notes ≡ new.notes ++ n ∷ []) × (left ≡ remnant_of n.node n.was)
        × Releases run_at holds (noted_answer n.was) before after

    -- the answer of the last note, if it has one, was made with this store
    abbrev pub LastNoteLives : List (Note A) → Store → Type 0
    LastNoteLives notes store =
        (n : Note A) (earlier : List (Note A)) → notes ≡ earlier ++ n ∷ []
        → Lives run_at holds store (noted_answer n.was)

    -- the answer of the last line, if it has one, was made with this store
    abbrev pub LineLives : Line → List Value → List A → Store → Type 0
    LineLives l values answers store =
        (w : Was A) (vs : List Value) (xs : List A) → PutsBy l.sort w vs values xs answers
        → Lives run_at holds store (noted_answer w)

    -- the node at a number was removed, and its answer released
    abbrev pub RemovesNode : Stock A → Stock A → ℕ → Store → Store → Type 0
    RemovesNode old new k before after =
        (n : Node A) → nodes_of old k ≡ Some n
        → Removes old new k n × Releases run_at holds n.answer before after

    -- of the runs that the answers of a stock hold, a store lost those that are held no more
    abbrev pub StoreFollows : Stock A → Store → Stock A → Store → Type 0
    StoreFollows old before new after =
        FreesUnheld run_at holds (answers_in old) before (answers_in new) after
