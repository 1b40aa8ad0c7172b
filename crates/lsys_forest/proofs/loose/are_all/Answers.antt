use Rattle.std.proofs.Common.{◌≡◌, ◌≤◌, [], length, sym, ap, ◌∙◌, subst, arith}
use Rattle.std.proofs.lemmas.Bool.Decides.{nat_tests}
use Rattle.lsys_forest.specs.Nodes.{Node}
use Rattle.lsys_forest.specs.Stocks.{nodes_of, row_at}
use Rattle.lsys_forest.specs.Loosened.{AreLoose}
use Rattle.lsys_forest.proofs.StockLemmas.{stored_of}
use Rattle.lsys_forest.proofs.LooseLemmas.{none_counted, all_beside}
use Rattle.lsys_forest.proofs.loose.are_all.Goals as goal

pub returns-then-count-kids : goal.returns-then-count-kids
returns-then-count-kids g c = λ empty root n is are loose.
    let t = c.args.parts.now in
    let stored = stored_of t.slots t.params t.kids c.args.node n is in
    let kids : n.kids ≡ row_at t.kids c.args.node = sym (ap (λ (x : Node g.row.A.Denot). x.kids) stored.2) in
    let none : c.kids.result.now ≡ [] = none_counted c.kids.result.now (sym c.is_empty.ensures ∙ empty) in
    let many : c.in-Some.count ≤ length c.args.kids.now = grind (arith, nat_tests, c.if-count-kids.true) in
    all_beside (nodes_of t) root c.args.node c.in-Some.count n c.args.kids.now is (kids ∙ sym c.kids.ensures ∙ none) many are (subst (λ l. AreLoose l (nodes_of t) root) c.in-Some.is loose)
