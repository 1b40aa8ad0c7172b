use Rattle.std.proofs.Common.{refl, sym, subst}
use Rattle.std.proofs.lemmas.Option.{none-some}
use Rattle.lsys_forest.specs.Stocks.{Stock, nodes_of, changes_of}
use Rattle.lsys_forest.specs.Ranks.{AreRanked, AreLinked}
use Rattle.lsys_forest.proofs.LinkLemmas.{same_ranked, linking_first}
use Rattle.lsys_forest.proofs.link.link_first.Goals as goal

pub link_kids-requires-clause-sound : goal.link_kids-requires-clause-sound
link_kids-requires-clause-sound g c = (c.args.root, c.requires.sound)

pub link_kids-requires-clause-before : goal.link_kids-requires-clause-before
link_kids-requires-clause-before g c = λ k e. absurd (none-some k e)

pub returns-clause-ranked : goal.returns-clause-ranked
returns-clause-ranked g c =
    let t = c.args.parts.now in
    let u = c.link_kids.new.self in
    let e = c.link_kids.ensures in
    subst (λ (s : Stock g.row.A.Denot). AreRanked (nodes_of s) u.footings) (sym e.same) (same_ranked (nodes_of t) t.footings u.footings e.row.ranks c.requires.ranked)

pub returns-clause-mates : goal.returns-clause-mates
returns-clause-mates g c = c.link_kids.ensures.row.mates

pub returns-clause-linked : goal.returns-clause-linked
returns-clause-linked g c =
    let t = c.args.parts.now in
    let u = c.link_kids.new.self in
    let e = c.link_kids.ensures in
    subst (λ (s : Stock g.row.A.Denot). AreLinked (nodes_of s) c.args.root u.footings 1) (sym e.same) (linking_first c.args.root (changes_of t) (nodes_of t) t.footings u.footings c.link_kids.result 1 c.requires.sound refl e.row)
