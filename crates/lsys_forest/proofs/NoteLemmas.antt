-- What is written at the end of a journal, and taken back from there.
use Rattle.std.proofs.Common.{◌≡◌, ◌+◌, ◌-◌, ◌≤◌, append-nil, ℕ, zero, suc, List, [], ◌∷◌, ◌++◌, length, length-append, Option, Some, None, refl, sym, ap, ◌∙◌, arith, subst}
use Rattle.std.specs.Prelude.{slice_get, IfSome, IfNone}
use Rattle.std.proofs.lemmas.Option.{none-some, same_Some}
use Rattle.lsys_region.proofs.ListLemmas.{slice_get-push_new}
use Rattle.lsys_forest.specs.declared.note.Note.{Note}
use Rattle.lsys_forest.specs.declared.note.Was.{Was}
use Rattle.lsys_forest.specs.declared.note.Was.TheVariants as was
use Rattle.lsys_forest.specs.declared.journal.Line.{Line}
use Rattle.lsys_forest.specs.declared.journal.Sort.{Sort}
use Rattle.lsys_forest.specs.declared.journal.Sort.TheVariants as sort
use Rattle.lsys_forest.specs.declared.journal.Value.{Value}
use Rattle.lsys_forest.specs.declared.journal.Value.TheVariants as value
use Rattle.lsys_forest.specs.Stocks.{kid_lists, noted_answer}
use Rattle.lsys_forest.specs.Notes.{value_count, answer_count, kids_noted, lists_valued, remnant_of, answer_by, values_left, answers_left, values_taken, answers_taken, as_was, was_told, notes_told, HaveTheirValues, PutsBy, ForLastNote}

pub value_count_le : (s : Sort) → value_count s ≤ 1
value_count_le sort.Missing = omega arith
value_count_le sort.Value = omega arith
value_count_le sort.Kids = omega arith
value_count_le sort.Answer = omega arith
value_count_le sort.Bare = omega arith

pub answer_count_le : (s : Sort) → answer_count s ≤ 1
answer_count_le sort.Missing = omega arith
answer_count_le sort.Value = omega arith
answer_count_le sort.Kids = omega arith
answer_count_le sort.Answer = omega arith
answer_count_le sort.Bare = omega arith

pub values_taken_le : (lines : List Line) → values_taken lines ≤ length lines
values_taken_le [] = omega arith
values_taken_le (l ∷ lines) = omega (arith, value_count_le l.sort, values_taken_le lines)

pub answers_taken_le : (lines : List Line) → answers_taken lines ≤ length lines
answers_taken_le [] = omega arith
answers_taken_le (l ∷ lines) = omega (arith, answer_count_le l.sort, answers_taken_le lines)

pub values_push : (lines : List Line) (l : Line) → values_taken (lines ++ l ∷ []) ≡ values_taken lines + value_count l.sort
values_push [] l = omega arith
values_push (m ∷ lines) l = omega (arith, values_push lines l)

pub answers_push : (lines : List Line) (l : Line) → answers_taken (lines ++ l ∷ []) ≡ answers_taken lines + answer_count l.sort
answers_push [] l = omega arith
answers_push (m ∷ lines) l = omega (arith, answers_push lines l)

-- what is left of a note with a value
pub lists_of_value : (A : Type 0) (k : ℕ) (x : Value) → lists_valued x ≡ remnant_of {A = A} k (as_was x)
lists_of_value A k (value.Kind x) = refl
lists_of_value A k (value.Key x) = refl

module _ {A : Type 0} where
  pub told_long : (lines : List Line) (values : List Value) (answers : List A) → length (notes_told lines values answers) ≡ length lines
  told_long [] values answers = refl
  told_long (l ∷ lines) values answers = let rest = told_long lines (values_left l.sort values) (answers_left l.sort answers) in omega (arith, rest)

  told_step : (k : ℕ) (l : Line) (lines : List Line) (s : Sort) (values more : List Value) (answers more' : List A) → ((vs : List Value) (xs : List A) → length vs ≡ values_taken lines → length xs ≡ answers_taken lines → notes_told (lines ++ l ∷ []) (vs ++ more) (xs ++ more') ≡ notes_told lines vs xs ++ notes_told (l ∷ []) more more') → length values ≡ value_count s + values_taken lines → length answers ≡ answer_count s + answers_taken lines → ◌≡◌ {A = List (Note A)} (record { node = k; was = was_told s (values ++ more) (answers ++ more') } ∷ notes_told (lines ++ l ∷ []) (values_left s (values ++ more)) (answers_left s (answers ++ more'))) (record { node = k; was = was_told s values answers } ∷ notes_told lines (values_left s values) (answers_left s answers) ++ notes_told (l ∷ []) more more')
  told_step k l lines sort.Missing values more answers more' rec p q = ap (λ (ns : List (Note A)). record { node = k; was = was.Missing } ∷ ns) (rec values answers (omega (arith, p)) (omega (arith, q)))
  told_step k l lines sort.Kids values more answers more' rec p q = ap (λ (ns : List (Note A)). record { node = k; was = was.Kids } ∷ ns) (rec values answers (omega (arith, p)) (omega (arith, q)))
  told_step k l lines sort.Bare values more answers more' rec p q = ap (λ (ns : List (Note A)). record { node = k; was = was.Answer None } ∷ ns) (rec values answers (omega (arith, p)) (omega (arith, q)))
  told_step k l lines sort.Value [] more answers more' rec p q = absurd (omega (arith, p))
  told_step k l lines sort.Value (v ∷ values) more answers more' rec p q = ap (λ (ns : List (Note A)). record { node = k; was = as_was v } ∷ ns) (rec values answers (omega (arith, p)) (omega (arith, q)))
  told_step k l lines sort.Answer values more [] more' rec p q = absurd (omega (arith, q))
  told_step k l lines sort.Answer values more (a ∷ answers) more' rec p q = ap (λ (ns : List (Note A)). record { node = k; was = was.Answer (Some a) } ∷ ns) (rec values answers (omega (arith, p)) (omega (arith, q)))

  -- the value and the answer of one line more stand after those of the others
  told_more : (lines : List Line) (l : Line) (values more : List Value) (answers more' : List A) → length values ≡ values_taken lines → length answers ≡ answers_taken lines → notes_told (lines ++ l ∷ []) (values ++ more) (answers ++ more') ≡ notes_told lines values answers ++ notes_told (l ∷ []) more more'
  told_more [] l [] more [] more' p q = refl
  told_more [] l (v ∷ values) more answers more' p q = absurd (omega (arith, p))
  told_more [] l [] more (a ∷ answers) more' p q = absurd (omega (arith, q))
  told_more (m ∷ lines) l values more answers more' p q = told_step m.node l lines m.sort values more answers more' (λ vs xs. told_more lines l vs more xs more') p q

  -- a line more, with what it keeps
  pub record Noted (lines : List Line) (l : Line) (w : Was A) (values new_values : List Value) (answers new_answers : List A) : Type 0 where
    pub earlier : HaveTheirValues lines values answers
    pub noted : HaveTheirValues (lines ++ l ∷ []) new_values new_answers
    pub told : notes_told (lines ++ l ∷ []) new_values new_answers ≡ notes_told lines values answers ++ record { node = l.node; was = w } ∷ []

  pub written : (lines : List Line) (l : Line) (w : Was A) (values new_values : List Value) (answers new_answers : List A) → PutsBy l.sort w values new_values answers new_answers → HaveTheirValues lines values answers → Noted lines l w values new_values answers new_answers
  written lines l w values new_values answers new_answers keeps are =
      let vs = ap length keeps.values_are in
      let xs = ap length keeps.answers_are in
      record {
        earlier = are;
        noted = record {
          values_long = vs ∙ length-append values keeps.value ∙ omega (arith, are.values_long, keeps.one_value, values_push lines l);
          answers_long = xs ∙ length-append answers keeps.answer ∙ omega (arith, are.answers_long, keeps.one_answer, answers_push lines l);
        };
        told =
            ap (λ (x : List Value). notes_told (lines ++ l ∷ []) x new_answers) keeps.values_are
            ∙ ap (notes_told (lines ++ l ∷ []) (values ++ keeps.value)) keeps.answers_are
            ∙ told_more lines l values keeps.value answers keeps.answer are.values_long are.answers_long
            ∙ ap (λ (x : Was A). notes_told lines values answers ++ record { node = l.node; was = x } ∷ []) keeps.tells;
      }

  pub taken_back : (lines : List Line) (l : Line) (w : Was A) (values new_values : List Value) (answers new_answers : List A) → PutsBy l.sort w values new_values answers new_answers → HaveTheirValues (lines ++ l ∷ []) new_values new_answers → Noted lines l w values new_values answers new_answers
  taken_back lines l w values new_values answers new_answers keeps are =
      let vs = ap length keeps.values_are ∙ length-append values keeps.value in
      let xs = ap length keeps.answers_are ∙ length-append answers keeps.answer in
      written lines l w values new_values answers new_answers keeps (record {
        values_long = omega (arith, vs, are.values_long, keeps.one_value, values_push lines l);
        answers_long = omega (arith, xs, are.answers_long, keeps.one_answer, answers_push lines l);
      })

  -- what is kept with each sort of line
  pub keeps_none : (s : Sort) (values : List Value) (answers : List A) → value_count s ≡ 0 → answer_count s ≡ 0 → PutsBy s (was_told s [] []) values values answers answers
  keeps_none s values answers v a = record {
    value = [];
    answer = [];
    values_are = sym (append-nil values);
    answers_are = sym (append-nil answers);
    tells = refl;
    one_value = sym v;
    one_answer = sym a;
  }

  pub keeps_value : (x : Value) (values new_values : List Value) (answers : List A) → new_values ≡ values ++ x ∷ [] → PutsBy sort.Value (as_was x) values new_values answers answers
  keeps_value x values new_values answers pushed = record {
    value = x ∷ [];
    answer = [];
    values_are = pushed;
    answers_are = sym (append-nil answers);
    tells = refl;
    one_value = refl;
    one_answer = refl;
  }

  pub keeps_answer : (x : A) (values : List Value) (answers new_answers : List A) → new_answers ≡ answers ++ x ∷ [] → PutsBy sort.Answer (was.Answer (Some x)) values values answers new_answers
  keeps_answer x values answers new_answers pushed = record {
    value = [];
    answer = x ∷ [];
    values_are = sym (append-nil values);
    answers_are = pushed;
    tells = refl;
    one_value = refl;
    one_answer = refl;
  }

  no_answer_valued : (values : List Value) (answers : List A) → noted_answer (was_told sort.Value values answers) ≡ None
  no_answer_valued [] answers = refl
  no_answer_valued (value.Kind x ∷ values) answers = refl
  no_answer_valued (value.Key x ∷ values) answers = refl

  -- the answer that a note keeps is that of its line
  pub noted_by : (s : Sort) (w : Was A) (values new_values : List Value) (answers new_answers : List A) → PutsBy s w values new_values answers new_answers → noted_answer w ≡ answer_by s new_answers
  noted_by sort.Missing w vs values xs answers p = ap noted_answer (sym p.tells)
  noted_by sort.Kids w vs values xs answers p = ap noted_answer (sym p.tells)
  noted_by sort.Bare w vs values xs answers p = ap noted_answer (sym p.tells)
  noted_by sort.Value w vs values xs answers p = ap noted_answer (sym p.tells) ∙ no_answer_valued p.value p.answer
  noted_by sort.Answer w vs values xs answers p = ap noted_answer (sym p.tells) ∙ go p.answer p.one_answer p.answers_are
    where
      go : (answer : List A) → length answer ≡ 1 → answers ≡ xs ++ answer → noted_answer (was_told sort.Answer p.value answer) ≡ slice_get answers (length answers - 1)
      go [] one are = absurd (omega (arith, one))
      go (a ∷ []) one are =
          let long : length xs ≡ length answers - 1 = omega (arith, ap length are, length-append xs (a ∷ [])) in
          sym (ap (λ (l : List A). slice_get l (length answers - 1)) are ∙ ap (slice_get (xs ++ a ∷ [])) (sym long) ∙ slice_get-push_new xs a)
      go (a ∷ b ∷ answer) one are = absurd (omega (arith, one))

  kids_told : (s : Sort) (values : List Value) (answers : List A) → kid_lists (was_told s values answers) ≡ kids_noted s
  kids_told sort.Missing values answers = refl
  kids_told sort.Kids values answers = refl
  kids_told sort.Bare values answers = refl
  kids_told sort.Value [] answers = refl
  kids_told sort.Value (value.Kind x ∷ values) answers = refl
  kids_told sort.Value (value.Key x ∷ values) answers = refl
  kids_told sort.Answer values [] = refl
  kids_told sort.Answer values (a ∷ answers) = refl

  -- a line tells of which node a note is, and whether of children
  pub record IsLineOf (l : Line) (n : Note A) : Type 0 where
    pub node : n.node ≡ l.node
    pub kids : kid_lists n.was ≡ kids_noted l.sort

  line_of : (lines : List Line) (values : List Value) (answers : List A) (i : ℕ) (n : Note A) → slice_get (notes_told lines values answers) i ≡ Some n → (l : Line) × (slice_get lines i ≡ Some l) × IsLineOf l n
  line_of [] values answers i n there = absurd (none-some n there)
  line_of (m ∷ lines) values answers zero n there =
      let tells = same_Some (record { node = m.node; was = was_told m.sort values answers }) n there in
      (m, refl, subst (λ (x : Note A). IsLineOf m x) tells (record { node = refl; kids = kids_told m.sort values answers }))
  line_of (m ∷ lines) values answers (suc i) n there = line_of lines (values_left m.sort values) (answers_left m.sort answers) i n there

  -- the last line, where there is one
  last_line : (lines : List Line) (values : List Value) (answers : List A) (n : Note A) → slice_get (notes_told lines values answers) (length (notes_told lines values answers) - 1) ≡ Some n → (l : Line) × (slice_get lines (length lines - 1) ≡ Some l) × IsLineOf l n
  last_line lines values answers n there =
      line_of lines values answers (length lines - 1) n (subst (λ j. slice_get (notes_told lines values answers) (j - 1) ≡ Some n) (told_long lines values answers) there)

  tells_last : (lines : List Line) (values : List Value) (answers : List A) (l : Line) (n : Note A) → slice_get lines (length lines - 1) ≡ Some l → slice_get (notes_told lines values answers) (length (notes_told lines values answers) - 1) ≡ Some n → IsLineOf l n
  tells_last lines values answers l n here there =
      let last = last_line lines values answers n there in
      subst (λ (x : Line). IsLineOf x n) (same_Some last.0 l (sym last.1 ∙ here)) last.2

  -- the node that the last note is of, if that is one of children
  pub last_is : (node : Option ℕ) (lines : List Line) (values : List Value) (answers : List A) (l : Line) → slice_get lines (length lines - 1) ≡ Some l → IfSome node (λ k. l.node ≡ k) → IfSome node (λ k. ForLastNote (notes_told lines values answers) (λ n. n.node ≡ k))
  last_is None lines values answers l here is = tt
  last_is (Some k) lines values answers l here is = λ n there. (tells_last lines values answers l n here there).node ∙ is

  pub last_none : (node : Option ℕ) (lines : List Line) (values : List Value) (answers : List A) (l : Line) → slice_get lines (length lines - 1) ≡ Some l → IfNone node (kids_noted l.sort ≡ 0) → IfNone node (ForLastNote (notes_told lines values answers) (λ n. kid_lists n.was ≡ 0))
  last_none None lines values answers l here is = λ n there. (tells_last lines values answers l n here there).kids ∙ is
  last_none (Some k) lines values answers l here is = tt

  pub no_line : (lines : List Line) (values : List Value) (answers : List A) → slice_get lines (length lines - 1) ≡ None → ForLastNote (notes_told lines values answers) (λ n. kid_lists n.was ≡ 0)
  no_line lines values answers none = λ n there. (let last = last_line lines values answers n there in absurd (none-some last.0 (sym none ∙ last.1)))
