use Rattle.std.proofs.Common.{[], sym, subst}
use Rattle.lsys_forest.specs.Nodes.{Nodes}
use Rattle.lsys_forest.specs.Stocks.{nodes_of, changes_of}
use Rattle.lsys_forest.specs.Ranks.{AreRanked}
use Rattle.lsys_forest.specs.Sweeps.{IsSwept}
use Rattle.lsys_forest.specs.Loosened.{AreLoose}
use Rattle.lsys_forest.proofs.LooseLemmas.{IsSwept-fast}
use Rattle.lsys_forest.proofs.sweep.sweep_all.Goals as goal

pub returns-then-is_none-clause-swept : goal.returns-then-is_none-clause-swept
returns-then-is_none-clause-swept g c =
    let t = c.args.parts.now in
    subst (λ (m : Nodes g.row.A.Denot). IsSwept (nodes_of t) c.args.root m [] []) (sym c.forget_all.ensures.nodes)
    (IsSwept-fast c.args.root (changes_of t) (nodes_of t) c.requires.sound (subst (λ l. AreLoose l (nodes_of t) c.args.root) (c.is_none.ensures c.if-is_none.true) c.requires.loose))

pub returns-then-is_none-clause-ranked : goal.returns-then-is_none-clause-ranked
returns-then-is_none-clause-ranked g c =
    let e = c.forget_all.ensures in
    subst (λ (m : Nodes g.row.A.Denot). AreRanked m c.forget_all.new.parts.footings) (sym e.nodes) (subst (AreRanked (nodes_of c.args.parts.now)) (sym e.footings) c.requires.ranked)
