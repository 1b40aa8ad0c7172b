use Rattle.std.proofs.Common.{◌≡◌, ◌-◌, Some, None, length, sym, subst}
use Rattle.std.specs.Prelude.{slice_get, IfSome, IfNone}
use Rattle.lsys_forest.specs.Stocks.{kid_lists}
use Rattle.lsys_forest.specs.Notes.{Notes, ForLastNote}
use Rattle.lsys_forest.proofs.NoteLemmas.{last_is, last_none, no_line}
use Rattle.lsys_forest.proofs.journal.Journal.last_family.Goals as goal

pub returns-in-Some-clause-some : goal.returns-in-Some-clause-some
returns-in-Some-clause-some g c =
    let i = c.self.inside in
    let line = c.in-Some.line.now in
    let here : slice_get i.lines.items (length i.lines.items - 1) ≡ Some line = subst (λ l. slice_get l (length l - 1) ≡ Some line) c.deref.ensures.value (sym c.in-Some.ensures.value) in
    subst (λ (n : Notes g.row.A.Denot). IfSome c.family_of.result (λ k. ForLastNote n.notes (λ m. m.node ≡ k))) c.self.view_is
    (last_is c.family_of.result i.lines.items i.values.items i.answers.items line here c.family_of.ensures.some)

pub returns-in-Some-clause-none : goal.returns-in-Some-clause-none
returns-in-Some-clause-none g c =
    let i = c.self.inside in
    let line = c.in-Some.line.now in
    let here : slice_get i.lines.items (length i.lines.items - 1) ≡ Some line = subst (λ l. slice_get l (length l - 1) ≡ Some line) c.deref.ensures.value (sym c.in-Some.ensures.value) in
    subst (λ (n : Notes g.row.A.Denot). IfNone c.family_of.result (ForLastNote n.notes (λ m. kid_lists m.was ≡ 0))) c.self.view_is
    (last_none c.family_of.result i.lines.items i.values.items i.answers.items line here c.family_of.ensures.none)

pub returns-in-None-clause-none : goal.returns-in-None-clause-none
returns-in-None-clause-none g c =
    let i = c.self.inside in
    let none : slice_get i.lines.items (length i.lines.items - 1) ≡ None = subst (λ l. slice_get l (length l - 1) ≡ None) c.deref.ensures.value (sym c.in-None.ensures.value) in
    subst (λ (n : Notes g.row.A.Denot). ForLastNote n.notes (λ m. kid_lists m.was ≡ 0)) c.self.view_is (no_line i.lines.items i.values.items i.answers.items none)
