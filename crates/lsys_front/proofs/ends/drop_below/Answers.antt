use Rattle.std.proofs.Common.{◌≡◌, rules, length, ap, ◌∙◌, subst, inl, inr}
use Rattle.std.specs.Prelude.{◌==◌}
use Rattle.lsys_spec.specs.Rows.{In}
use Rattle.lsys_forest.specs.Groves.{now_of}
use Rattle.lsys_forest.specs.Rows.{kids_below}
use Rattle.lsys_front.specs.Ends.{answered_in}
use Rattle.lsys_front.proofs.Ending.{begun, empty_if, extended, rows_next, rows_end}
use Rattle.lsys_front.proofs.ends.drop_below.Goals.{else-loop-test, then-loop-test+then-is_empty}
use Rattle.lsys_front.proofs.ends.drop_below.Goals as goal

pub loop-preserved : goal.loop-preserved
loop-preserved g c =
    let m = now_of c.args.forest.now in
    let row = c.loop.row.items in
    let kids : c.add_children.new.below.items ≡ kids_below m c.deref-in-loop.result.now = begun c.new-next.result.items (kids_below m c.deref-in-loop.result.now) c.add_children.new.below.items c.new-next.ensures.items c.in_ok-add_children.ensures.below in
    record {
      lives = λ k h. c.in_ok-add_children.ensures.lives k (subst (In k) kids h);
      dropped = rows_next m c.args.levels c.loop.counter c.args.nodes.items row c.add_children.new.below.items c.args.dropped.now.items c.loop.dropped.items c.add_answered.new.dropped.items c.loop-test.true c.loop.invariant.dropped
          (extended c.loop.dropped.items (answered_in m c.deref.result.now) (answered_in m row) c.add_answered.new.dropped.items c.in_ok-add_answered.ensures.dropped (ap (answered_in m) c.deref.ensures.value)) (kids ∙ ap (kids_below m) c.deref-in-loop.ensures.value);
    }

pub returns : goal.returns
returns g c = record {
  dropped = rows_end (now_of c.args.forest.now) c.args.levels c.loop.counter c.args.nodes.items c.loop.row.items c.args.dropped.now.items c.loop.dropped.items (elim c.loop-test.branch [
    | else-loop-test w ↦ inl w.loop-test.false
    | then-loop-test+then-is_empty w ↦ (let none : w.is_empty.result ≡ (length c.loop.row.items == 0) = search rules in inr (empty_if c.loop.row.items w.is_empty.result none w.if-is_empty.true))
  ]) c.loop.invariant.dropped;
}
