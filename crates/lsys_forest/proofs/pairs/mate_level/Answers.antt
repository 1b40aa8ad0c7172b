use Rattle.std.proofs.Common.{◌≡◌, ◌+◌, ◌<◌, refl, sym, ap, ◌∙◌, subst}
use Rattle.lsys_spec.specs.Rows.{first_in}
use Rattle.lsys_forest.specs.declared.walk.Way.TheVariants.{Right}
use Rattle.lsys_forest.specs.Stocks.{Stock, nodes_of, changes_of}
use Rattle.lsys_forest.specs.Groves.{IsRooted}
use Rattle.lsys_forest.specs.Ranks.{AreRanked, AreLinked}
use Rattle.lsys_forest.specs.Pairs.{AreMated}
use Rattle.lsys_forest.specs.Rows.{level_nodes}
use Rattle.lsys_forest.proofs.RowLemmas.{level_apart}
use Rattle.lsys_forest.proofs.WalkLemmas.{left_from, left_on, level_live}
use Rattle.lsys_forest.proofs.LinkLemmas.{same_ranked}
use Rattle.lsys_forest.proofs.MatedLemmas.{IsMating, same_linked, mating_start, mating_next, mating_open, mating_on, mating_above, mating_more, mating_end}
use Rattle.lsys_forest.proofs.pairs.mate_level.Goals as goal

pub loop-at-init : goal.loop-at-init
loop-at-init g c = record {
  same = refl;
  sound = c.requires.sound;
  ranked = c.requires.ranked;
  linked = c.requires.linked;
  mated = c.requires.mated;
  mating = mating_start (nodes_of c.args.parts.now) c.args.root c.args.level c.args.parts.now.footings c.args.first c.requires.first;
}

pub pair-opener-requires-clause-lives : goal.pair-opener-requires-clause-lives
pair-opener-requires-clause-lives g c =
    let t = c.loop-at.parts in
    let was = c.loop-at.invariant in
    let is = mating_next c.args.root (changes_of t) (nodes_of t) c.args.level t.footings c.loop-at.opener c.loop-at.at c.in-Some.node was.sound was.mating c.in-Some.is in
    level_live c.args.root (changes_of t) (nodes_of t) was.sound c.args.level c.in-Some.node is.among

pub pair-opener-requires-clause-opener : goal.pair-opener-requires-clause-opener
pair-opener-requires-clause-opener g c =
    let t = c.loop-at.parts in
    let was = c.loop-at.invariant in
    let is = mating_next c.args.root (changes_of t) (nodes_of t) c.args.level t.footings c.loop-at.opener c.loop-at.at c.in-Some.node was.sound was.mating c.in-Some.is in
    mating_open c.args.root (changes_of t) (nodes_of t) c.args.level t.footings c.loop-at.opener c.in-Some.node was.sound is

pub loop-at-smaller : goal.loop-at-smaller
loop-at-smaller g c =
    let t = c.loop-at.parts in
    let u = c.pair-opener.new.parts in
    let e = c.pair-opener.ensures in
    let was = c.loop-at.invariant in
    let node = c.in-Some.node in
    let m = nodes_of t in
    let root = c.args.root in
    let level = level_nodes m root c.args.level in
    let is = mating_next root (changes_of t) m c.args.level t.footings c.loop-at.opener c.loop-at.at node was.sound was.mating c.in-Some.is in
    let then : c.link-at.result ≡ first_in is.rest = c.link-at.ensures ∙ e.paired.links Right node ∙ was.linked c.args.level node Right is.passed is.rest c.requires.within is.whole in
    let less = left_on level (level_apart root (changes_of t) m was.sound c.args.level) is.passed node is.rest c.link-at.result is.whole then in
    subst (λ (s : Stock g.row.A.Denot). left_from (level_nodes (nodes_of s) root c.args.level) c.link-at.result < left_from (level_nodes (nodes_of s) root c.args.level) c.loop-at.at) was.same
    (subst (λ o. left_from level c.link-at.result < left_from level o) (sym c.in-Some.is) less)

pub loop-at-preserved : goal.loop-at-preserved
loop-at-preserved g c =
    let t = c.loop-at.parts in
    let u = c.pair-opener.new.parts in
    let e = c.pair-opener.ensures in
    let was = c.loop-at.invariant in
    let node = c.in-Some.node in
    let m = nodes_of t in
    let root = c.args.root in
    let opener = c.loop-at.opener in
    let opener' = c.pair-opener.result in
    let is = mating_next root (changes_of t) m c.args.level t.footings opener c.loop-at.at node was.sound was.mating c.in-Some.is in
    let then : c.link-at.result ≡ first_in is.rest = c.link-at.ensures ∙ e.paired.links Right node ∙ was.linked c.args.level node Right is.passed is.rest c.requires.within is.whole in
    record {
      same = e.same ∙ ap (λ (s : Stock g.row.A.Denot). record s { footings = u.footings }) was.same;
      sound = subst (λ (s : Stock g.row.A.Denot). IsRooted root (changes_of s) (nodes_of s)) (sym e.same) was.sound;
      ranked = subst (λ (s : Stock g.row.A.Denot). AreRanked (nodes_of s) u.footings) (sym e.same) (same_ranked m t.footings u.footings e.paired.ranks was.ranked);
      linked = subst (λ (s : Stock g.row.A.Denot). AreLinked (nodes_of s) root u.footings c.args.linked) (sym e.same) (same_linked m root t.footings u.footings c.args.linked e.paired.links was.linked);
      mated = subst (λ (s : Stock g.row.A.Denot). AreMated (nodes_of s) root u.footings c.args.level) (sym e.same) (mating_above root (changes_of t) m c.args.level t.footings u.footings opener opener' node was.sound is e.paired was.mated);
      mating = subst (λ (s : Stock g.row.A.Denot). IsMating (nodes_of s) root c.args.level u.footings opener' c.link-at.result) (sym e.same) (mating_on m root c.args.level t.footings u.footings opener opener' c.link-at.result node is e.paired then);
    }

pub returns-clause-mated : goal.returns-clause-mated
returns-clause-mated g c =
    let t = c.loop-at.parts in
    let m = nodes_of t in
    let was = c.loop-at.invariant in
    let last = mating_end m c.args.root c.args.level t.footings c.loop-at.opener (subst (IsMating m c.args.root c.args.level t.footings c.loop-at.opener) c.in_default.is was.mating) in
    mating_more m c.args.root c.args.level (c.args.level + 1) t.footings refl last was.mated

pub returns-clause-same : goal.returns-clause-same
returns-clause-same g c = c.loop-at.invariant.same

pub returns-clause-ranked : goal.returns-clause-ranked
returns-clause-ranked g c = c.loop-at.invariant.ranked

pub returns-clause-linked : goal.returns-clause-linked
returns-clause-linked g c = c.loop-at.invariant.linked
