use Rattle.std.proofs.Common.{◌≡◌, ◌+◌, ◌-◌, suc, Some, [], refl, sym, ap, ◌∙◌, subst, arith}
use Rattle.lsys_spec.specs.Rows.{first_in}
use Rattle.lsys_forest.specs.Stocks.{Stock, nodes_of, changes_of}
use Rattle.lsys_forest.specs.Groves.{IsRooted}
use Rattle.lsys_forest.specs.Rows.{level_nodes}
use Rattle.lsys_forest.proofs.pairs.mate_levels.Goals as goal

pub loop-at-init : goal.loop-at-init
loop-at-init g c = record {
  same = refl;
  sound = c.requires.sound;
  ranked = c.requires.ranked;
  linked = c.requires.linked;
  mated = c.requires.mated;
  within = c.if-mated-linked.false;
  first = c.first_at-at.ensures;
}

pub loop-at-preserved : goal.loop-at-preserved
loop-at-preserved g c =
    let t = c.loop-at.parts in
    let u = c.mate_level.new.parts in
    let e = c.mate_level.ensures in
    let was = c.loop-at.invariant in
    let d = c.loop-at.level in
    let root = c.args.root in
    let m = nodes_of u in
    let here : d + 1 - 1 ≡ d = omega arith in
    let next : suc (d + 1 - 1) ≡ d + 1 = omega arith in
    let start : Some c.in-Some.first ≡ first_in (level_nodes m root (d + 1 - 1)) =
    sym c.in-Some.is ∙ was.first ∙ ap (λ (s : Stock g.row.A.Denot). first_in (level_nodes (nodes_of s) root d)) (sym e.same) ∙ ap (λ i. first_in (level_nodes m root i)) (sym here) in
    record {
      same = e.same ∙ ap (λ (s : Stock g.row.A.Denot). record s { footings = u.footings }) was.same;
      sound = subst (λ (s : Stock g.row.A.Denot). IsRooted root (changes_of s) (nodes_of s)) (sym e.same) was.sound;
      ranked = e.ranked;
      linked = e.linked;
      mated = e.mated;
      within = c.if-level-linked.false;
      first = c.first_child-at.ensures [] (level_nodes m root (d + 1 - 1)) refl start ∙ ap (λ i. first_in (level_nodes m root i)) next;
    }

pub first_child-at-requires-clause-sound : goal.first_child-at-requires-clause-sound
first_child-at-requires-clause-sound g c = subst (λ (s : Stock g.row.A.Denot). IsRooted c.args.root (changes_of s) (nodes_of s)) (sym c.mate_level.ensures.same) c.loop-at.invariant.sound

pub returns-then-level-linked-clause-same : goal.returns-then-level-linked-clause-same
returns-then-level-linked-clause-same g c = c.mate_level.ensures.same ∙ ap (λ (s : Stock g.row.A.Denot). record s { footings = c.mate_level.new.parts.footings }) c.loop-at.invariant.same
