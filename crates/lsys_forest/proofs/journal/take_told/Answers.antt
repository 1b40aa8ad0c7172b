use Rattle.std.proofs.Common.{Some, None, Option, refl, sym, ◌∙◌, subst}
use Rattle.lsys_forest.specs.declared.journal.Sort.{Sort}
use Rattle.lsys_forest.specs.declared.note.Was.TheVariants as was
use Rattle.lsys_forest.specs.declared.journal.Sort.TheVariants as sort
use Rattle.lsys_forest.specs.Answers.{Releases}
use Rattle.lsys_forest.specs.Notes.{PutsBy, as_was, answer_by}
use Rattle.lsys_forest.proofs.NoteLemmas.{keeps_none, keeps_value, keeps_answer, lists_of_value, noted_by}
use Rattle.lsys_forest.proofs.AnswerLemmas.{releases_none, releases_some}
use Rattle.lsys_forest.proofs.journal.take_told.Goals as goal

pub returns-in-Missing-clause-was : goal.returns-in-Missing-clause-was
returns-in-Missing-clause-was g c = record {
  told = was.Missing;
  puts = subst (λ (s : Sort). PutsBy {A = g.row.A.Denot} s (was.Missing) c.args.values.now.items c.args.values.now.items c.args.kept.now.items c.args.kept.now.items) (sym c.in-Missing.is)
      (keeps_none sort.Missing c.args.values.now.items c.args.kept.now.items refl refl);
  left_is = refl;
}

pub returns-in-Missing-clause-freed : goal.returns-in-Missing-clause-freed
returns-in-Missing-clause-freed g c =
    subst (λ (s : Sort). Releases g.A.Kept.run_at g.A.Kept.Holds (answer_by s c.args.kept.now.items) c.args.store.now c.args.store.now) (sym c.in-Missing.is)
    (releases_none g.A.Kept.run_at g.A.Kept.Holds c.args.store.now)

pub returns-in-Kids-clause-was : goal.returns-in-Kids-clause-was
returns-in-Kids-clause-was g c = record {
  told = was.Kids;
  puts = subst (λ (s : Sort). PutsBy {A = g.row.A.Denot} s (was.Kids) c.args.values.now.items c.args.values.now.items c.args.kept.now.items c.args.kept.now.items) (sym c.in-Kids.is)
      (keeps_none sort.Kids c.args.values.now.items c.args.kept.now.items refl refl);
  left_is = refl;
}

pub returns-in-Kids-clause-freed : goal.returns-in-Kids-clause-freed
returns-in-Kids-clause-freed g c =
    subst (λ (s : Sort). Releases g.A.Kept.run_at g.A.Kept.Holds (answer_by s c.args.kept.now.items) c.args.store.now c.args.store.now) (sym c.in-Kids.is)
    (releases_none g.A.Kept.run_at g.A.Kept.Holds c.args.store.now)

pub returns-in-Bare-clause-was : goal.returns-in-Bare-clause-was
returns-in-Bare-clause-was g c = record {
  told = was.Answer None;
  puts = subst (λ (s : Sort). PutsBy {A = g.row.A.Denot} s (was.Answer None) c.args.values.now.items c.args.values.now.items c.args.kept.now.items c.args.kept.now.items) (sym c.in-Bare.is)
      (keeps_none sort.Bare c.args.values.now.items c.args.kept.now.items refl refl);
  left_is = refl;
}

pub returns-in-Bare-clause-freed : goal.returns-in-Bare-clause-freed
returns-in-Bare-clause-freed g c =
    subst (λ (s : Sort). Releases g.A.Kept.run_at g.A.Kept.Holds (answer_by s c.args.kept.now.items) c.args.store.now c.args.store.now) (sym c.in-Bare.is)
    (releases_none g.A.Kept.run_at g.A.Kept.Holds c.args.store.now)

pub returns-in-Value-clause-was : goal.returns-in-Value-clause-was
returns-in-Value-clause-was g c = record {
  told = as_was c.take_last.result;
  puts = subst (λ (s : Sort). PutsBy {A = g.row.A.Denot} s (as_was c.take_last.result) c.take_last.new.list.items c.args.values.now.items c.args.kept.now.items c.args.kept.now.items) (sym c.in-Value.is)
      (keeps_value c.take_last.result c.take_last.new.list.items c.args.values.now.items c.args.kept.now.items c.take_last.ensures.taken);
  left_is = c.lists_of.ensures ∙ lists_of_value g.row.A.Denot c.args.line.node c.take_last.result;
}

pub returns-in-Value-clause-freed : goal.returns-in-Value-clause-freed
returns-in-Value-clause-freed g c =
    subst (λ (s : Sort). Releases g.A.Kept.run_at g.A.Kept.Holds (answer_by s c.args.kept.now.items) c.args.store.now c.args.store.now) (sym c.in-Value.is)
    (releases_none g.A.Kept.run_at g.A.Kept.Holds c.args.store.now)

pub returns-in-Answer-clause-was : goal.returns-in-Answer-clause-was
returns-in-Answer-clause-was g c =
    let a = c.take_last-in-Answer.result in
    let puts = subst (λ (s : Sort). PutsBy {A = g.row.A.Denot} s (was.Answer (Some a)) c.args.values.now.items c.args.values.now.items c.take_last-in-Answer.new.list.items c.args.kept.now.items) (sym c.in-Answer.is)
    (keeps_answer a c.args.values.now.items c.take_last-in-Answer.new.list.items c.args.kept.now.items c.take_last-in-Answer.ensures.taken) in
    record { told = was.Answer (Some a); puts = puts; left_is = refl }

pub returns-in-Answer-clause-freed : goal.returns-in-Answer-clause-freed
returns-in-Answer-clause-freed g c =
    let a = c.take_last-in-Answer.result in
    let puts = subst (λ (s : Sort). PutsBy {A = g.row.A.Denot} s (was.Answer (Some a)) c.args.values.now.items c.args.values.now.items c.take_last-in-Answer.new.list.items c.args.kept.now.items) (sym c.in-Answer.is)
    (keeps_answer a c.args.values.now.items c.take_last-in-Answer.new.list.items c.args.kept.now.items c.take_last-in-Answer.ensures.taken) in
    subst (λ (o : Option g.row.A.Denot). Releases g.A.Kept.run_at g.A.Kept.Holds o c.args.store.now c.release.new.store)
    (noted_by c.args.line.sort (was.Answer (Some a)) c.args.values.now.items c.args.values.now.items c.take_last-in-Answer.new.list.items c.args.kept.now.items puts)
    (releases_some g.A.Kept.run_at g.A.Kept.Holds a c.args.store.now c.release.new.store c.release.ensures.gone c.release.ensures.others)

pub release-requires : goal.release-requires
release-requires g c =
    let a = c.take_last-in-Answer.result in
    let puts = subst (λ (s : Sort). PutsBy {A = g.row.A.Denot} s (was.Answer (Some a)) c.args.values.now.items c.args.values.now.items c.take_last-in-Answer.new.list.items c.args.kept.now.items) (sym c.in-Answer.is)
    (keeps_answer a c.args.values.now.items c.take_last-in-Answer.new.list.items c.args.kept.now.items c.take_last-in-Answer.ensures.taken) in
    record { made = c.requires.made (was.Answer (Some a)) c.args.values.now.items c.take_last-in-Answer.new.list.items puts a refl }
