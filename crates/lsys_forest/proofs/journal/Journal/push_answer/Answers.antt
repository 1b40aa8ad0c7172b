use Rattle.std.proofs.Common.{◌≡◌, ◌++◌, ◌∷◌, [], Option, sym, subst}
use Rattle.lsys_forest.specs.Notes.{answer_note}
use Rattle.lsys_forest.proofs.journal.Journal.push_answer.Goals as goal

pub returns-in-Some-clause-pushed : goal.returns-in-Some-clause-pushed
returns-in-Some-clause-pushed g c =
    subst (λ (o : Option g.row.A.Denot). c.push.new.self.notes ≡ c.args.self.now.notes ++ answer_note c.args.node o ∷ []) (sym c.in-Some.is) c.push.ensures.pushed

pub returns-in-None-clause-pushed : goal.returns-in-None-clause-pushed
returns-in-None-clause-pushed g c =
    subst (λ (o : Option g.row.A.Denot). c.push_bare.new.self.notes ≡ c.args.self.now.notes ++ answer_note c.args.node o ∷ []) (sym c.in-None.is) c.push_bare.ensures.pushed
