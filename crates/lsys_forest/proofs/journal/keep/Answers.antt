use Rattle.std.proofs.Common.{refl, sym, ap, ◌∙◌, subst}
use Rattle.lsys_forest.specs.declared.note.Was.TheVariants as was
use Rattle.lsys_forest.specs.declared.journal.Sort.TheVariants as sort
use Rattle.lsys_forest.specs.declared.journal.Value.TheVariants as value
use Rattle.lsys_forest.specs.declared.note.Was.{Was}
use Rattle.lsys_forest.specs.Notes.{PutsBy}
use Rattle.lsys_forest.proofs.NoteLemmas.{keeps_none, keeps_value, keeps_answer}
use Rattle.lsys_forest.proofs.journal.keep.Goals as goal

pub returns-in-Missing-clause-tells : goal.returns-in-Missing-clause-tells
returns-in-Missing-clause-tells g c =
    subst (λ (w : Was g.row.A.Denot). PutsBy sort.Missing w c.args.values.now.items c.args.values.now.items c.args.kept.now.items c.args.kept.now.items) (sym c.in-Missing.is)
    (keeps_none sort.Missing c.args.values.now.items c.args.kept.now.items refl refl)

pub returns-in-Kind-clause-tells : goal.returns-in-Kind-clause-tells
returns-in-Kind-clause-tells g c =
    subst (λ (w : Was g.row.A.Denot). PutsBy sort.Value w c.args.values.now.items c.put.new.list.items c.args.kept.now.items c.args.kept.now.items) (sym c.in-Kind.is)
    (keeps_value (value.Kind c.in-Kind.kind) c.args.values.now.items c.put.new.list.items c.args.kept.now.items c.put.ensures.pushed)

pub returns-in-Key-clause-tells : goal.returns-in-Key-clause-tells
returns-in-Key-clause-tells g c =
    subst (λ (w : Was g.row.A.Denot). PutsBy sort.Value w c.args.values.now.items c.put-in-Key.new.list.items c.args.kept.now.items c.args.kept.now.items) (sym c.in-Key.is)
    (keeps_value (value.Key c.in-Key.key) c.args.values.now.items c.put-in-Key.new.list.items c.args.kept.now.items c.put-in-Key.ensures.pushed)

pub returns-in-Kids-clause-tells : goal.returns-in-Kids-clause-tells
returns-in-Kids-clause-tells g c =
    subst (λ (w : Was g.row.A.Denot). PutsBy sort.Kids w c.args.values.now.items c.args.values.now.items c.args.kept.now.items c.args.kept.now.items) (sym c.in-Kids.is)
    (keeps_none sort.Kids c.args.values.now.items c.args.kept.now.items refl refl)

pub returns-in-Answer-Some-clause-tells : goal.returns-in-Answer-Some-clause-tells
returns-in-Answer-Some-clause-tells g c =
    subst (λ (w : Was g.row.A.Denot). PutsBy sort.Answer w c.args.values.now.items c.args.values.now.items c.args.kept.now.items c.put-in-Answer-Some.new.list.items) (ap was.Answer (sym c.in-Answer-Some.field-0-is) ∙ sym c.in-Answer-Some.is)
    (keeps_answer c.in-Answer-Some.answer c.args.values.now.items c.args.kept.now.items c.put-in-Answer-Some.new.list.items c.put-in-Answer-Some.ensures.pushed)

pub returns-in-Answer-None-clause-tells : goal.returns-in-Answer-None-clause-tells
returns-in-Answer-None-clause-tells g c =
    subst (λ (w : Was g.row.A.Denot). PutsBy sort.Bare w c.args.values.now.items c.args.values.now.items c.args.kept.now.items c.args.kept.now.items) (ap was.Answer (sym c.in-Answer-None.field-0-is) ∙ sym c.in-Answer-None.is)
    (keeps_none sort.Bare c.args.values.now.items c.args.kept.now.items refl refl)
