use Rattle.std.proofs.Common.{Some, None, refl, sym, subst}
use Rattle.lsys_forest.specs.declared.journal.Sort.{Sort}
use Rattle.lsys_forest.specs.declared.note.Was.TheVariants as was
use Rattle.lsys_forest.specs.declared.journal.Sort.TheVariants as sort
use Rattle.lsys_forest.specs.declared.note.Was.{Was}
use Rattle.lsys_forest.specs.Notes.{PutsBy}
use Rattle.lsys_forest.proofs.NoteLemmas.{keeps_none, keeps_value, keeps_answer}
use Rattle.lsys_forest.proofs.journal.take.Goals as goal

pub returns-in-Missing-clause-tells : goal.returns-in-Missing-clause-tells
returns-in-Missing-clause-tells g c =
    subst (λ (s : Sort). PutsBy {A = g.row.A.Denot} s (was.Missing) c.args.values.now.items c.args.values.now.items c.args.kept.now.items c.args.kept.now.items) (sym c.in-Missing.is)
    (keeps_none sort.Missing c.args.values.now.items c.args.kept.now.items refl refl)

pub returns-in-Value-clause-tells : goal.returns-in-Value-clause-tells
returns-in-Value-clause-tells g c =
    subst (λ (s : Sort). PutsBy {A = g.row.A.Denot} s (c.was_of.result) c.take_last.new.list.items c.args.values.now.items c.args.kept.now.items c.args.kept.now.items) (sym c.in-Value.is)
    (subst (λ (w : Was g.row.A.Denot). PutsBy sort.Value w c.take_last.new.list.items c.args.values.now.items c.args.kept.now.items c.args.kept.now.items) (sym c.was_of.ensures) (keeps_value c.take_last.result c.take_last.new.list.items c.args.values.now.items c.args.kept.now.items c.take_last.ensures.taken))

pub returns-in-Kids-clause-tells : goal.returns-in-Kids-clause-tells
returns-in-Kids-clause-tells g c =
    subst (λ (s : Sort). PutsBy {A = g.row.A.Denot} s (was.Kids) c.args.values.now.items c.args.values.now.items c.args.kept.now.items c.args.kept.now.items) (sym c.in-Kids.is)
    (keeps_none sort.Kids c.args.values.now.items c.args.kept.now.items refl refl)

pub returns-in-Answer-clause-tells : goal.returns-in-Answer-clause-tells
returns-in-Answer-clause-tells g c =
    subst (λ (s : Sort). PutsBy {A = g.row.A.Denot} s (was.Answer (Some c.take_last-in-Answer.result)) c.args.values.now.items c.args.values.now.items c.take_last-in-Answer.new.list.items c.args.kept.now.items) (sym c.in-Answer.is)
    (keeps_answer c.take_last-in-Answer.result c.args.values.now.items c.take_last-in-Answer.new.list.items c.args.kept.now.items c.take_last-in-Answer.ensures.taken)

pub returns-in-Bare-clause-tells : goal.returns-in-Bare-clause-tells
returns-in-Bare-clause-tells g c =
    subst (λ (s : Sort). PutsBy {A = g.row.A.Denot} s (was.Answer None) c.args.values.now.items c.args.values.now.items c.args.kept.now.items c.args.kept.now.items) (sym c.in-Bare.is)
    (keeps_none sort.Bare c.args.values.now.items c.args.kept.now.items refl refl)
