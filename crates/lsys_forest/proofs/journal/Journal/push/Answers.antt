use Rattle.std.proofs.Common.{◌≡◌, ◌+◌, ◌-◌, ◌≤◌, ◌<◌, ◌++◌, ◌∷◌, [], List, length, length-append, sym, ap, ◌∙◌, subst, arith}
use Rattle.std.proofs.lemmas.List.{length_push}
use Rattle.std.specs.Prelude.{min, vec_capacity}
use Rattle.lsys_forest.specs.declared.journal.Line.{Line}
use Rattle.lsys_forest.specs.Notes.{Notes, notes_told, HaveTheirValues}
use Rattle.lsys_forest.proofs.NoteLemmas.{value_count_le, answer_count_le, written}
use Rattle.lsys_forest.proofs.journal.Journal.push.Goals as goal

pub keep-sort-requires-clause-values : goal.keep-sort-requires-clause-values
keep-sort-requires-clause-values g c =
    let i = c.self.inside in
    let room = subst (λ (n : Notes g.row.A.Denot). 0 < n.room) (sym c.self.view_is) c.requires in
    omega (arith, room)

pub keep-sort-requires-clause-answers : goal.keep-sort-requires-clause-answers
keep-sort-requires-clause-answers g c =
    let i = c.self.inside in
    let room = subst (λ (n : Notes g.row.A.Denot). 0 < n.room) (sym c.self.view_is) c.requires in
    omega (arith, room)

pub put-requires : goal.put-requires
put-requires g c =
    let i = c.self.inside in
    let room = subst (λ (n : Notes g.row.A.Denot). 0 < n.room) (sym c.self.view_is) c.requires in
    omega (arith, room)

pub invariant_of-self : goal.invariant_of-self
invariant_of-self g c =
    let i = c.self.inside in
    let l : Line = record { node = c.args.note.node; sort = c.keep-sort.result } in
    let done = written i.lines.items l c.args.note.was i.values.items c.keep-sort.new.values.items i.answers.items c.keep-sort.new.kept.items c.keep-sort.ensures.tells c.self.invariant in
    subst (λ (lines : List Line). HaveTheirValues lines c.keep-sort.new.values.items c.keep-sort.new.kept.items) (sym c.put.ensures.pushed) done.noted

pub returns-clause-pushed : goal.returns-clause-pushed
returns-clause-pushed g c =
    let i = c.self.inside in
    let l : Line = record { node = c.args.note.node; sort = c.keep-sort.result } in
    let values = c.keep-sort.new.values.items in
    let answers = c.keep-sort.new.kept.items in
    let done = written i.lines.items l c.args.note.was i.values.items values i.answers.items answers c.keep-sort.ensures.tells c.self.invariant in
    subst (λ (n : Notes g.row.A.Denot). notes_told c.put.new.list.items values answers ≡ n.notes ++ c.args.note ∷ []) c.self.view_is
    (ap (λ (lines : List Line). notes_told lines values answers) c.put.ensures.pushed ∙ done.told)

pub returns-clause-room : goal.returns-clause-room
returns-clause-room g c =
    let i = c.self.inside in
    let kept = c.keep-sort.ensures.tells in
    let pushed = ap length c.put.ensures.pushed in
    let values = ap length kept.values_are in
    let answers = ap length kept.answers_are in
    subst (λ (n : Notes g.row.A.Denot). n.room ≤ min (vec_capacity c.put.new.list - length c.put.new.list.items) (min (vec_capacity c.keep-sort.new.values - length c.keep-sort.new.values.items) (vec_capacity c.keep-sort.new.kept - length c.keep-sort.new.kept.items)) + 1) c.self.view_is
    (omega (arith, pushed, length_push i.lines.items (record { node = c.args.note.node; sort = c.keep-sort.result }), values, answers, length-append i.values.items kept.value, length-append i.answers.items kept.answer, kept.one_value, kept.one_answer, value_count_le c.keep-sort.result, answer_count_le c.keep-sort.result, c.put.ensures.capacity, c.keep-sort.ensures.places, c.keep-sort.ensures.answer_places))
