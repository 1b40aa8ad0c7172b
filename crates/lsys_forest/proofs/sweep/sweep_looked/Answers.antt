use Rattle.std.proofs.Common.{[], subst}
use Rattle.lsys_forest.specs.Stocks.{named_by}
use Rattle.lsys_forest.specs.Sweeps.{IsSweptOf}
use Rattle.lsys_forest.proofs.sweep.sweep_looked.Goals as goal

pub returns-in-Node-clause-swept : goal.returns-in-Node-clause-swept
returns-in-Node-clause-swept g c = λ first before stood sound swept.
    let t = c.args.parts.now in
    c.sweep.ensures.swept [] first before stood sound (subst (λ l. IsSweptOf first stood c.args.root t (named_by l t.hand)) c.in-Node.is swept)

pub returns-in-Hand-clause-swept : goal.returns-in-Hand-clause-swept
returns-in-Hand-clause-swept g c = λ first before stood sound swept.
    let t = c.args.parts.now in
    c.sweep_hand.ensures.swept first before stood sound (subst (λ l. IsSweptOf first stood c.args.root t (named_by l t.hand)) c.in-Hand.is swept)
