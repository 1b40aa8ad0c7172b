use Rattle.std.proofs.Common.{◌≡◌, ◌-◌, ◌+◌, ◌<◌, [], suc, refl, sym, ap, ◌∙◌, subst, arith}
use Rattle.lsys_spec.specs.Rows.{first_in}
use Rattle.lsys_forest.specs.declared.walk.Way.TheVariants.{Right}
use Rattle.lsys_forest.specs.Stocks.{Stock, nodes_of, changes_of}
use Rattle.lsys_forest.specs.Groves.{IsRooted}
use Rattle.lsys_forest.specs.Ranks.{AreRanked, AreLinked}
use Rattle.lsys_forest.specs.Rows.{level_nodes}
use Rattle.lsys_forest.proofs.RowLemmas.{level_apart}
use Rattle.lsys_forest.proofs.WalkLemmas.{left_from, left_on}
use Rattle.lsys_forest.proofs.LinkLemmas.{IsLinking, same_ranked, linking_start, linking_next, linking_before, linking_above, linking_on, linking_more, linking_end}
use Rattle.lsys_forest.proofs.link.link_level.Goals as goal

pub loop-at-init : goal.loop-at-init
loop-at-init g c = record {
  same = refl;
  sound = c.requires.sound;
  ranked = c.requires.ranked;
  mates = λ k. refl;
  linked = c.requires.linked;
  linking = linking_start (nodes_of c.args.parts.now) c.args.root (c.args.level - 1) c.args.parts.now.footings c.args.first c.requires.first;
}

pub link_kids-before-requires-clause-sound : goal.link_kids-before-requires-clause-sound
link_kids-before-requires-clause-sound g c = (c.args.root, c.loop-at.invariant.sound)

pub link_kids-before-requires-clause-before : goal.link_kids-before-requires-clause-before
link_kids-before-requires-clause-before g c =
    let t = c.loop-at.parts in
    let was = c.loop-at.invariant in
    let d = c.args.level - 1 in
    let is = linking_next c.args.root (changes_of t) (nodes_of t) d t.footings c.loop-at.before c.loop-at.at c.in-Some.above was.sound was.linking c.in-Some.is in
    linking_before c.args.root (changes_of t) (nodes_of t) d t.footings c.loop-at.before c.in-Some.above was.sound is

pub loop-at-smaller : goal.loop-at-smaller
loop-at-smaller g c =
    let t = c.loop-at.parts in
    let u = c.link_kids-before.new.self in
    let e = c.link_kids-before.ensures in
    let was = c.loop-at.invariant in
    let above = c.in-Some.above in
    let m = nodes_of t in
    let d = c.args.level - 1 in
    let level = level_nodes m c.args.root d in
    let is = linking_next c.args.root (changes_of t) m d t.footings c.loop-at.before c.loop-at.at above was.sound was.linking c.in-Some.is in
    let linked = linking_above c.args.root (changes_of t) m d c.args.level t.footings u.footings c.loop-at.before c.link_kids-before.result above was.sound (omega (arith, c.requires.below)) is e.row was.linked in
    let then : c.link-at.result ≡ first_in is.rest = c.link-at.ensures ∙ linked d above Right is.passed is.rest (omega (arith, c.requires.below)) is.whole in
    let less = left_on level (level_apart c.args.root (changes_of t) m was.sound d) is.passed above is.rest c.link-at.result is.whole then in
    subst (λ (s : Stock g.row.A.Denot). left_from (level_nodes (nodes_of s) c.args.root d) c.link-at.result < left_from (level_nodes (nodes_of s) c.args.root d) c.loop-at.at) was.same
    (subst (λ o. left_from level c.link-at.result < left_from level o) (sym c.in-Some.is) less)

pub loop-at-preserved : goal.loop-at-preserved
loop-at-preserved g c =
    let t = c.loop-at.parts in
    let u = c.link_kids-before.new.self in
    let e = c.link_kids-before.ensures in
    let was = c.loop-at.invariant in
    let above = c.in-Some.above in
    let last = c.link_kids-before.result in
    let m = nodes_of t in
    let d = c.args.level - 1 in
    let root = c.args.root in
    let is = linking_next root (changes_of t) m d t.footings c.loop-at.before c.loop-at.at above was.sound was.linking c.in-Some.is in
    let linked = linking_above root (changes_of t) m d c.args.level t.footings u.footings c.loop-at.before last above was.sound (omega (arith, c.requires.below)) is e.row was.linked in
    let then : c.link-at.result ≡ first_in is.rest = c.link-at.ensures ∙ linked d above Right is.passed is.rest (omega (arith, c.requires.below)) is.whole in
    record {
      same = e.same ∙ ap (λ (s : Stock g.row.A.Denot). record s { footings = u.footings }) was.same;
      sound = subst (λ (s : Stock g.row.A.Denot). IsRooted root (changes_of s) (nodes_of s)) (sym e.same) was.sound;
      ranked = subst (λ (s : Stock g.row.A.Denot). AreRanked (nodes_of s) u.footings) (sym e.same) (same_ranked m t.footings u.footings e.row.ranks was.ranked);
      mates = λ k. e.row.mates k ∙ was.mates k;
      linked = subst (λ (s : Stock g.row.A.Denot). AreLinked (nodes_of s) root u.footings c.args.level) (sym e.same) linked;
      linking = subst (λ (s : Stock g.row.A.Denot). IsLinking (nodes_of s) root d u.footings last c.link-at.result) (sym e.same) (linking_on m root d t.footings u.footings c.loop-at.before last c.link-at.result above is e.row then);
    }

pub returns-clause-linked : goal.returns-clause-linked
returns-clause-linked g c =
    let t = c.loop-at.parts in
    let m = nodes_of t in
    let was = c.loop-at.invariant in
    let d = c.args.level - 1 in
    let chained = linking_end m c.args.root d c.args.level t.footings c.loop-at.before (omega (arith, c.requires.below)) (subst (IsLinking m c.args.root d t.footings c.loop-at.before) c.in_default.is was.linking) in
    linking_more m c.args.root c.args.level (c.args.level + 1) t.footings refl chained was.linked

pub returns-clause-same : goal.returns-clause-same
returns-clause-same g c = c.loop-at.invariant.same

pub returns-clause-ranked : goal.returns-clause-ranked
returns-clause-ranked g c = c.loop-at.invariant.ranked

pub returns-clause-mates : goal.returns-clause-mates
returns-clause-mates g c = c.loop-at.invariant.mates

pub returns-clause-first : goal.returns-clause-first
returns-clause-first g c =
    let m = nodes_of c.args.parts.now in
    let next : suc (c.args.level - 1) ≡ c.args.level = omega (arith, c.requires.below) in
    c.first_child-below.ensures [] (level_nodes m c.args.root (c.args.level - 1)) refl (sym c.requires.first) ∙ ap (λ i. first_in (level_nodes m c.args.root i)) next
