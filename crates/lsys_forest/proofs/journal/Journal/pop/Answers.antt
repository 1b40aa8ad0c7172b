use Rattle.std.proofs.lemmas.List.{length_push}
use Rattle.std.proofs.Common.{◌≡◌, ◌-◌, ◌≤◌, ◌++◌, ◌∷◌, [], List, length, length-append, ap, ◌∙◌, subst, arith}
use Rattle.std.specs.Prelude.{min, vec_capacity}
use Rattle.lsys_forest.specs.declared.journal.Line.{Line}
use Rattle.lsys_forest.specs.declared.note.Note.{Note}
use Rattle.lsys_forest.specs.Notes.{Notes, notes_told, HaveTheirValues}
use Rattle.lsys_forest.proofs.NoteLemmas.{values_push, answers_push, taken_back}
use Rattle.lsys_forest.proofs.journal.Journal.pop.Goals as goal

pub take-was-requires-clause-values : goal.take-was-requires-clause-values
take-was-requires-clause-values g c =
    let i = c.self.inside in
    let are = subst (λ (lines : List Line). HaveTheirValues lines i.values.items i.answers.items) c.in-Some.ensures.items c.self.invariant in
    omega (arith, are.values_long, values_push c.pop.new.self.items c.in-Some.line)

pub take-was-requires-clause-answers : goal.take-was-requires-clause-answers
take-was-requires-clause-answers g c =
    let i = c.self.inside in
    let are = subst (λ (lines : List Line). HaveTheirValues lines i.values.items i.answers.items) c.in-Some.ensures.items c.self.invariant in
    omega (arith, are.answers_long, answers_push c.pop.new.self.items c.in-Some.line)

pub invariant_of-self : goal.invariant_of-self
invariant_of-self g c =
    let i = c.self.inside in
    let are = subst (λ (lines : List Line). HaveTheirValues lines i.values.items i.answers.items) c.in-Some.ensures.items c.self.invariant in
    (taken_back c.pop.new.self.items c.in-Some.line c.take-was.result c.take-was.new.values.items i.values.items c.take-was.new.kept.items i.answers.items c.take-was.ensures.tells are).earlier

pub returns-in-Some-clause-some : goal.returns-in-Some-clause-some
returns-in-Some-clause-some g c =
    let i = c.self.inside in
    let are = subst (λ (lines : List Line). HaveTheirValues lines i.values.items i.answers.items) c.in-Some.ensures.items c.self.invariant in
    let done = taken_back c.pop.new.self.items c.in-Some.line c.take-was.result c.take-was.new.values.items i.values.items c.take-was.new.kept.items i.answers.items c.take-was.ensures.tells are in
    let note : Note g.row.A.Denot = record { node = c.in-Some.line.node; was = c.take-was.result } in
    subst (λ (n : Notes g.row.A.Denot). n.notes ≡ notes_told c.pop.new.self.items c.take-was.new.values.items c.take-was.new.kept.items ++ note ∷ []) c.self.view_is
    (ap (λ (lines : List Line). notes_told lines i.values.items i.answers.items) c.in-Some.ensures.items ∙ done.told)

pub returns-in-Some-clause-room : goal.returns-in-Some-clause-room
returns-in-Some-clause-room g c =
    let i = c.self.inside in
    let kept = c.take-was.ensures.tells in
    let popped = ap length c.in-Some.ensures.items in
    let values = ap length kept.values_are in
    let answers = ap length kept.answers_are in
    subst (λ (n : Notes g.row.A.Denot). n.room ≤ min (vec_capacity c.pop.new.self - length c.pop.new.self.items) (min (vec_capacity c.take-was.new.values - length c.take-was.new.values.items) (vec_capacity c.take-was.new.kept - length c.take-was.new.kept.items))) c.self.view_is
    (omega (arith, popped, length_push c.pop.new.self.items c.in-Some.line, values, answers, length-append c.take-was.new.values.items kept.value, length-append c.take-was.new.kept.items kept.answer, c.in-Some.ensures.capacity, c.take-was.ensures.places, c.take-was.ensures.answer_places))
