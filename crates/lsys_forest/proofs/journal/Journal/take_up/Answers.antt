use Rattle.std.proofs.Common.{◌≡◌, ◌-◌, ◌≤◌, ◌++◌, ◌∷◌, [], List, Option, length, length-append, sym, ap, ◌∙◌, subst, arith}
use Rattle.std.proofs.lemmas.List.{length_push}
use Rattle.std.specs.Prelude.{min, vec_capacity}
use Rattle.lsys_forest.specs.declared.journal.Line.{Line}
use Rattle.lsys_forest.specs.declared.note.Note.{Note}
use Rattle.lsys_forest.specs.Stocks.{noted_answer}
use Rattle.lsys_forest.specs.Answers.{Lives, Releases}
use Rattle.lsys_forest.specs.Notes.{Notes, notes_told, HaveTheirValues}
use Rattle.lsys_forest.proofs.NoteLemmas.{values_push, answers_push, taken_back, noted_by}
use Rattle.lsys_forest.proofs.journal.Journal.take_up.Goals as goal

pub take_told-requires-clause-values : goal.take_told-requires-clause-values
take_told-requires-clause-values g c =
    let i = c.self.inside in
    let are = subst (λ (lines : List Line). HaveTheirValues lines i.values.items i.answers.items) c.in-Some.ensures.items c.self.invariant in
    omega (arith, are.values_long, values_push c.pop.new.self.items c.in-Some.line)

pub take_told-requires-clause-answers : goal.take_told-requires-clause-answers
take_told-requires-clause-answers g c =
    let i = c.self.inside in
    let are = subst (λ (lines : List Line). HaveTheirValues lines i.values.items i.answers.items) c.in-Some.ensures.items c.self.invariant in
    omega (arith, are.answers_long, answers_push c.pop.new.self.items c.in-Some.line)

pub take_told-requires-clause-made : goal.take_told-requires-clause-made
take_told-requires-clause-made g c = λ w vs xs puts.
    let i = c.self.inside in
    let l = c.in-Some.line in
    let are = subst (λ (lines : List Line). HaveTheirValues lines i.values.items i.answers.items) c.in-Some.ensures.items c.self.invariant in
    let done = taken_back c.pop.new.self.items l w vs i.values.items xs i.answers.items puts are in
    let note : Note g.row.A.Denot = record { node = l.node; was = w } in
    let told = ap (λ (lines : List Line). notes_told lines i.values.items i.answers.items) c.in-Some.ensures.items ∙ done.told in
    let made = subst (λ (n : Notes g.row.A.Denot). (m : Note g.row.A.Denot) (earlier : List (Note g.row.A.Denot)) → n.notes ≡ earlier ++ m ∷ [] → Lives g.A.Kept.run_at g.A.Kept.Holds c.args.store.now (noted_answer m.was)) (sym c.self.view_is) c.requires.made in
    made note (notes_told c.pop.new.self.items vs xs) told

pub invariant_of-self : goal.invariant_of-self
invariant_of-self g c =
    let i = c.self.inside in
    let took = c.take_told.ensures.was in
    let are = subst (λ (lines : List Line). HaveTheirValues lines i.values.items i.answers.items) c.in-Some.ensures.items c.self.invariant in
    (taken_back c.pop.new.self.items c.in-Some.line took.told c.take_told.new.values.items i.values.items c.take_told.new.kept.items i.answers.items took.puts are).earlier

pub returns-in-Some-clause-some : goal.returns-in-Some-clause-some
returns-in-Some-clause-some g c =
    let i = c.self.inside in
    let took = c.take_told.ensures.was in
    let are = subst (λ (lines : List Line). HaveTheirValues lines i.values.items i.answers.items) c.in-Some.ensures.items c.self.invariant in
    let done = taken_back c.pop.new.self.items c.in-Some.line took.told c.take_told.new.values.items i.values.items c.take_told.new.kept.items i.answers.items took.puts are in
    let note : Note g.row.A.Denot = record { node = c.in-Some.line.node; was = took.told } in
    let is = subst (λ (n : Notes g.row.A.Denot). n.notes ≡ notes_told c.pop.new.self.items c.take_told.new.values.items c.take_told.new.kept.items ++ note ∷ []) c.self.view_is
    (ap (λ (lines : List Line). notes_told lines i.values.items i.answers.items) c.in-Some.ensures.items ∙ done.told) in
    let answer = noted_by c.in-Some.line.sort took.told c.take_told.new.values.items i.values.items c.take_told.new.kept.items i.answers.items took.puts in
    (note, is, took.left_is, subst (λ (o : Option g.row.A.Denot). Releases g.A.Kept.run_at g.A.Kept.Holds o c.args.store.now c.take_told.new.store) (sym answer) c.take_told.ensures.freed)

pub returns-in-Some-clause-room : goal.returns-in-Some-clause-room
returns-in-Some-clause-room g c =
    let i = c.self.inside in
    let kept = c.take_told.ensures.was.puts in
    let popped = ap length c.in-Some.ensures.items in
    let values = ap length kept.values_are in
    let answers = ap length kept.answers_are in
    subst (λ (n : Notes g.row.A.Denot). n.room ≤ min (vec_capacity c.pop.new.self - length c.pop.new.self.items) (min (vec_capacity c.take_told.new.values - length c.take_told.new.values.items) (vec_capacity c.take_told.new.kept - length c.take_told.new.kept.items))) c.self.view_is
    (omega (arith, popped, length_push c.pop.new.self.items c.in-Some.line, values, answers, length-append c.take_told.new.values.items kept.value, length-append c.take_told.new.kept.items kept.answer, c.in-Some.ensures.capacity, c.take_told.ensures.places, c.take_told.ensures.answer_places))
