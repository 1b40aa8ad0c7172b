use Rattle.std.proofs.Common.{refl, sym, subst, ◌≡◌, ap, ◌∙◌, arith}
use Rattle.lsys_forest.specs.Stocks.{Stock, nodes_of}
use Rattle.lsys_forest.specs.Ranks.{AreRanked, AreLinked}
use Rattle.lsys_forest.proofs.RankLemmas.{still_ranked, reset_ranked}
use Rattle.lsys_forest.proofs.LinkLemmas.{still_linked, reset_linked}
use Rattle.lsys_forest.specs.Rows.{depth_in}
use Rattle.lsys_forest.proofs.undo.undo_one.Goals as goal

pub returns-in-Some-clause-ranked : goal.returns-in-Some-clause-ranked
returns-in-Some-clause-ranked g c =
    let e = c.undo_last.ensures in
    let d = c.if-not-undo_last.ensures.undone refl in
    let new = c.undo_last.new.self in
    let r = c.rerank.ensures in
    subst (λ (t : Stock g.row.A.Denot). AreRanked (nodes_of t) c.rerank.new.self.footings) (sym r.same)
    (reset_ranked c.args.root c.args.parts.now new c.rerank.new.self.footings c.in-Some.node d.0 d.1 (c.in-Some.ensures.some d.0 d.1.takes.earlier d.1.takes.were) e.footings c.requires.sound c.requires.ranked r.ranked)

pub returns-in_default-clause-ranked : goal.returns-in_default-clause-ranked
returns-in_default-clause-ranked g c =
    let e = c.undo_last.ensures in
    let d = c.if-not-undo_last.ensures.undone refl in
    still_ranked c.args.root c.args.parts.now c.undo_last.new.self d.0 d.1 (c.in_default.ensures.none d.0 d.1.takes.earlier d.1.takes.were) e.footings c.requires.sound c.requires.ranked

pub returns-in-Some-clause-linked : goal.returns-in-Some-clause-linked
returns-in-Some-clause-linked g c =
    let e = c.undo_last.ensures in
    let d = c.if-not-undo_last.ensures.undone refl in
    let new = c.undo_last.new.self in
    let r = c.rerank.ensures in
    let high : c.depth.result ≡ depth_in (nodes_of new c.in-Some.node) = c.depth.ensures ∙ ap (λ (t : Stock g.row.A.Denot). depth_in (nodes_of t c.in-Some.node)) r.same in
    subst (λ (t : Stock g.row.A.Denot). AreLinked (nodes_of t) c.args.root c.rerank.new.self.footings c.min.result) (sym r.same)
    (reset_linked c.args.root c.args.parts.now new c.rerank.new.self.footings c.in-Some.node c.args.linked.now c.min.result d.0 d.1 (c.in-Some.ensures.some d.0 d.1.takes.earlier d.1.takes.were) e.footings c.requires.sound r.links (omega (arith, c.min.ensures)) (omega (arith, c.min.ensures, high)) c.requires.linked)

pub returns-in_default-clause-linked : goal.returns-in_default-clause-linked
returns-in_default-clause-linked g c =
    let e = c.undo_last.ensures in
    let d = c.if-not-undo_last.ensures.undone refl in
    still_linked c.args.root c.args.parts.now c.undo_last.new.self c.args.linked.now d.0 d.1 (c.in_default.ensures.none d.0 d.1.takes.earlier d.1.takes.were) e.footings c.requires.sound c.requires.linked
