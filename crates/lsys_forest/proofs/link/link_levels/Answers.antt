use Rattle.std.proofs.Common.{◌≡◌, ◌+◌, ◌-◌, sym, ap, ◌∙◌, subst, arith}
use Rattle.lsys_spec.specs.Rows.{first_in}
use Rattle.lsys_forest.specs.Stocks.{Stock, nodes_of, changes_of}
use Rattle.lsys_forest.specs.Groves.{IsRooted}
use Rattle.lsys_forest.specs.Rows.{level_nodes}
use Rattle.lsys_forest.proofs.link.link_levels.Goals as goal

pub first_at-at-requires-clause-sound : goal.first_at-at-requires-clause-sound
first_at-at-requires-clause-sound g c =
    subst (λ (s : Stock g.row.A.Denot). IsRooted c.args.root (changes_of s) (nodes_of s)) (sym c.link_first-depth.ensures.same) c.requires.sound

pub loop-at-init : goal.loop-at-init
loop-at-init g c =
    let e = c.link_first-depth.ensures in
    record {
      same = e.same;
      sound = subst (λ (s : Stock g.row.A.Denot). IsRooted c.args.root (changes_of s) (nodes_of s)) (sym e.same) c.requires.sound;
      ranked = e.ranked;
      mates = e.mates;
      linked = e.linked;
      first = c.first_at-at.ensures;
      some = e.some;
    }

pub loop-at-preserved : goal.loop-at-preserved
loop-at-preserved g c =
    let t = c.loop-at.parts in
    let u = c.link_level-at.new.parts in
    let e = c.link_level-at.ensures in
    let was = c.loop-at.invariant in
    let d = c.loop-at.depth in
    let root = c.args.root in
    let here : d ≡ d + 1 - 1 = omega arith in
    record {
      same = e.same ∙ ap (λ (s : Stock g.row.A.Denot). record s { footings = u.footings }) was.same;
      sound = subst (λ (s : Stock g.row.A.Denot). IsRooted root (changes_of s) (nodes_of s)) (sym e.same) was.sound;
      ranked = e.ranked;
      mates = λ k. e.mates k ∙ was.mates k;
      linked = e.linked;
      first = e.first ∙ ap (λ (s : Stock g.row.A.Denot). first_in (level_nodes (nodes_of s) root d)) (sym e.same) ∙ ap (λ i. first_in (level_nodes (nodes_of u) root i)) here;
      some = omega arith;
    }
