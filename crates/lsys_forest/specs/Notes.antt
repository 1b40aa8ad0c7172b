-- How the notes of a journal stand in their parts.
use Rattle.std.specs.Prelude.{◌≡◌, ◌+◌, ◌-◌, ℕ, List, [], ◌∷◌, ◌++◌, length, min, Option, Some, None, slice_get}
use Rattle.lsys_forest.specs.declared.note.Note.{Note}
use Rattle.lsys_forest.specs.declared.note.Was.{Was}
use Rattle.lsys_forest.specs.declared.note.Was.TheVariants as was
use Rattle.lsys_forest.specs.declared.note.Remnant.{Remnant}
use Rattle.lsys_forest.specs.declared.note.Remnant.TheVariants as remnant
use Rattle.lsys_forest.specs.declared.journal.Line.{Line}
use Rattle.lsys_forest.specs.declared.journal.Sort.{Sort}
use Rattle.lsys_forest.specs.declared.journal.Sort.TheVariants as sort
use Rattle.lsys_forest.specs.declared.journal.Value.{Value}
use Rattle.lsys_forest.specs.declared.journal.Value.TheVariants as value

-- Notes, and how many more find room.
pub record Notes (A : Type 0) : Type 0 where
  pub notes : List (Note A)
  pub room : ℕ

-- how many values and how many answers a line has
abbrev pub value_count : Sort → ℕ
value_count sort.Value = 1
value_count s = 0

abbrev pub answer_count : Sort → ℕ
answer_count sort.Answer = 1
answer_count s = 0

-- how many lists of children
abbrev pub kids_noted : Sort → ℕ
kids_noted sort.Kids = 1
kids_noted s = 0

-- the values and the answers that are left after a line
abbrev pub values_left : Sort → List Value → List Value
values_left sort.Value [] = []
values_left sort.Value (v ∷ values) = values
values_left s values = values

abbrev pub answers_left : {A : Type 0} → Sort → List A → List A
answers_left sort.Answer [] = []
answers_left sort.Answer (a ∷ answers) = answers
answers_left s answers = answers

-- what is left of a note with this value
abbrev pub lists_valued : Value → Remnant
lists_valued (value.Kind x) = remnant.Params
lists_valued (value.Key x) = remnant.Nothing

-- how many of them lines have
abbrev pub values_taken : List Line → ℕ
values_taken [] = 0
values_taken (l ∷ lines) = value_count l.sort + values_taken lines

abbrev pub answers_taken : List Line → ℕ
answers_taken [] = 0
answers_taken (l ∷ lines) = answer_count l.sort + answers_taken lines

module _ {A : Type 0} where
  -- what a value tells
  abbrev pub as_was : Value → Was A
  as_was (value.Kind x) = was.Kind x
  as_was (value.Key x) = was.Key x

  -- what a node was, by the sort of a line whose value or answer is the first of these
  abbrev pub was_told : Sort → List Value → List A → Was A
  was_told sort.Missing values answers = was.Missing
  was_told sort.Kids values answers = was.Kids
  was_told sort.Bare values answers = was.Answer None
  was_told sort.Value [] answers = was.Missing
  was_told sort.Value (v ∷ values) answers = as_was v
  was_told sort.Answer values [] = was.Answer None
  was_told sort.Answer values (a ∷ answers) = was.Answer (Some a)

  -- the notes that lines tell, which take the values and the answers in turn
  abbrev pub notes_told : List Line → List Value → List A → List (Note A)
  notes_told [] values answers = []
  notes_told (l ∷ lines) values answers =
      record { node = l.node; was = was_told l.sort values answers }
      ∷ notes_told lines (values_left l.sort values) (answers_left l.sort answers)

  -- the notes, where lines, values and answers have so many places
  abbrev pub notes_of : List Line → List Value → List A → ℕ → ℕ → ℕ → Notes A
  notes_of lines values answers line_places value_places answer_places = record {
    notes = notes_told lines values answers;
    room = min (line_places - length lines) (min (value_places - length values) (answer_places - length answers));
  }

  -- each line has its value or its answer
  pub record HaveTheirValues (lines : List Line) (values : List Value) (answers : List A) : Type 0 where
    pub values_long : length values ≡ values_taken lines
    pub answers_long : length answers ≡ answers_taken lines

  -- what a node was stands after the values and the answers that were there, by the sort of its line
  pub record PutsBy (s : Sort) (w : Was A) (values new_values : List Value) (answers new_answers : List A) : Type 0 where
    pub value : List Value
    pub answer : List A
    pub values_are : new_values ≡ values ++ value
    pub answers_are : new_answers ≡ answers ++ answer
    pub tells : was_told s value answer ≡ w
    pub one_value : length value ≡ value_count s
    pub one_answer : length answer ≡ answer_count s

  -- the note of a line that has neither a value nor an answer
  abbrev pub bare_note : Line → Note A
  bare_note l = record { node = l.node; was = was_told l.sort [] [] }

  -- the note that a node kept this answer, or none
  abbrev pub answer_note : ℕ → Option A → Note A
  answer_note k answer = record { node = k; was = was.Answer answer }

  -- what is left of a note once its answer is gone
  abbrev pub remnant_of : ℕ → Was A → Remnant
  remnant_of k was.Missing = remnant.Node k
  remnant_of k (was.Kind x) = remnant.Params
  remnant_of k (was.Key x) = remnant.Nothing
  remnant_of k was.Kids = remnant.Kids
  remnant_of k (was.Answer x) = remnant.Nothing

  -- what the last line tells stood after the values and the answers that are left, and this is left of its note
  pub record IsPopped (l : Line) (left : Remnant) (values old_values : List Value)
      (answers old_answers : List A) : Type 0 where
    pub told : Was A
    pub puts : PutsBy l.sort told values old_values answers old_answers
    pub left_is : left ≡ remnant_of l.node told

  -- the answer of the last line, if it has one
  abbrev pub answer_by : Sort → List A → Option A
  answer_by sort.Answer answers = slice_get answers (length answers - 1)
  answer_by s answers = None

  abbrev pub last_held : Line → List A → Option A
  last_held l answers = answer_by l.sort answers

  -- this holds of the last note, if there is one
  abbrev pub ForLastNote : List (Note A) → (Note A → Type 0) → Type 0
  ForLastNote notes IsSo = (n : Note A) → slice_get notes (length notes - 1) ≡ Some n → IsSo n
