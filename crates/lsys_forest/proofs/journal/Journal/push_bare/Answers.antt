use Rattle.std.proofs.Common.{◌≡◌, ◌+◌, ◌-◌, ◌≤◌, ◌<◌, ◌++◌, ◌∷◌, [], List, length, sym, ap, ◌∙◌, subst, arith}
use Rattle.std.proofs.lemmas.List.{length_push}
use Rattle.std.specs.Prelude.{min, vec_capacity}
use Rattle.lsys_forest.specs.declared.journal.Line.{Line}
use Rattle.lsys_forest.specs.Notes.{Notes, notes_told, bare_note, was_told, HaveTheirValues}
use Rattle.lsys_forest.proofs.NoteLemmas.{keeps_none, written}
use Rattle.lsys_forest.proofs.journal.Journal.push_bare.Goals as goal

pub put-requires : goal.put-requires
put-requires g c =
    let i = c.self.inside in
    let room = subst (λ (n : Notes g.row.A.Denot). 0 < n.room) (sym c.self.view_is) c.requires.place in
    omega (arith, room)

pub invariant_of-self : goal.invariant_of-self
invariant_of-self g c =
    let i = c.self.inside in
    let l = c.args.line in
    let kept = keeps_none l.sort i.values.items i.answers.items c.requires.bare.0 c.requires.bare.1 in
    let done = written i.lines.items l (was_told l.sort [] []) i.values.items i.values.items i.answers.items i.answers.items kept c.self.invariant in
    subst (λ (lines : List Line). HaveTheirValues lines i.values.items i.answers.items) (sym c.put.ensures.pushed) done.noted

pub returns-clause-pushed : goal.returns-clause-pushed
returns-clause-pushed g c =
    let i = c.self.inside in
    let l = c.args.line in
    let kept = keeps_none l.sort i.values.items i.answers.items c.requires.bare.0 c.requires.bare.1 in
    let done = written i.lines.items l (was_told l.sort [] []) i.values.items i.values.items i.answers.items i.answers.items kept c.self.invariant in
    subst (λ (n : Notes g.row.A.Denot). notes_told c.put.new.list.items i.values.items i.answers.items ≡ n.notes ++ bare_note l ∷ []) c.self.view_is
    (ap (λ (lines : List Line). notes_told lines i.values.items i.answers.items) c.put.ensures.pushed ∙ done.told)

pub returns-clause-room : goal.returns-clause-room
returns-clause-room g c =
    let i = c.self.inside in
    let pushed = ap length c.put.ensures.pushed in
    subst (λ (n : Notes g.row.A.Denot). n.room ≤ min (vec_capacity c.put.new.list - length c.put.new.list.items) (min (vec_capacity i.values - length i.values.items) (vec_capacity i.answers - length i.answers.items)) + 1) c.self.view_is
    (omega (arith, pushed, length_push i.lines.items c.args.line, c.put.ensures.capacity))
