use Rattle.std.proofs.Common.{◌≡◌, ◌+◌, ◌-◌, Some, ap, sym, ◌∙◌, arith, subst}
use Rattle.std.specs.Prelude.{slice_get}
use Rattle.lsys_bodies.specs.declared.body.Item.TheVariants.{Push, Pop}
use Rattle.lsys_walks.proofs.Items.{Inside, inside_pattern, inside_push, inside_pop, branch_pop, branch_end}
use Rattle.lsys_walks.proofs.Shown.{item_at}
use Rattle.lsys_walks.proofs.item.after.Goals.{in-Push, in-Pop+else-inside-eq0, in-Pattern}
use Rattle.lsys_walks.proofs.item.after.Goals as goal

pub returns-then-inside-eq0-clause-branch : goal.returns-then-inside-eq0-clause-branch
returns-then-inside-eq0-clause-branch c =
    let here : slice_get c.args.items.now c.loop-place.place ≡ Some Pop = item_at c.args.items.now c.loop-place.place c.index-items-place.result c.loop-place-test.true c.index-items-place.is ∙ ap (λ i. Some i) c.in-Pop.is in
    branch_pop c.args.items.now c.args.at c.loop-place.place c.requires here (subst (Inside c.args.items.now c.args.at c.loop-place.place) c.if-inside-eq0.true c.loop-place.invariant.0)

pub loop-place-preserved : goal.loop-place-preserved
loop-place-preserved c = elim c.match-items-place.branch [
  | in-Push w ↦ (
      let here : slice_get c.args.items.now c.loop-place.place ≡ Some Push = item_at c.args.items.now c.loop-place.place c.index-items-place.result c.loop-place-test.true c.index-items-place.is ∙ ap (λ i. Some i) w.in-Push.is in
      rw (w.inside-is) (inside_push c.args.items.now c.args.at c.loop-place.place c.loop-place.inside here c.loop-place.invariant.0, omega (arith, c.loop-place-test.true), omega (arith, c.loop-place.invariant.2), omega (arith, c.loop-place.invariant.3))
      )
  | in-Pop+else-inside-eq0 w ↦ (
      let here : slice_get c.args.items.now c.loop-place.place ≡ Some Pop = item_at c.args.items.now c.loop-place.place c.index-items-place.result c.loop-place-test.true c.index-items-place.is ∙ ap (λ i. Some i) w.in-Pop.is in
      let less : c.loop-place.inside - 1 + 1 ≡ c.loop-place.inside = omega (arith, w.if-inside-eq0.false) in
      rw (w.inside-is) (
        inside_pop c.args.items.now c.args.at c.loop-place.place (c.loop-place.inside - 1) here (subst (Inside c.args.items.now c.args.at c.loop-place.place) (sym less) c.loop-place.invariant.0),
        omega (arith, c.loop-place-test.true),
        omega (arith, c.loop-place.invariant.2),
        omega (arith, c.loop-place.invariant.3),
      )
      )
  | in-Pattern w ↦ (
      let here = item_at c.args.items.now c.loop-place.place c.index-items-place.result c.loop-place-test.true c.index-items-place.is ∙ ap (λ i. Some i) w.in-Pattern.is in
      rw (w.inside-is) (inside_pattern c.args.items.now c.args.at c.loop-place.place c.loop-place.inside _ here c.loop-place.invariant.0, omega (arith, c.loop-place-test.true), omega (arith, c.loop-place.invariant.2), omega (arith, c.loop-place.invariant.3))
      )
]

pub returns-clause-branch : goal.returns-clause-branch
returns-clause-branch c = branch_end c.args.items.now c.args.at c.loop-place.place c.loop-place.inside c.requires c.loop-place-test.false c.loop-place.invariant.0
