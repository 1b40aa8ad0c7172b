use Rattle.std.proofs.Common.{◌≡◌, length, take, slice_get, Some, refl, ap, arith}
use Rattle.std.proofs.lemmas.Option.{slice_get_read}
use Rattle.lsys_children.specs.Children.{params_for}
use Rattle.lsys_children.proofs.MatchLemmas.{take_next, take_whole}
use Rattle.lsys_children.proofs.StepLemmas.{params_push}
use Rattle.lsys_children.proofs.need.params_for.Goals as goal

pub overflow_add-cells : goal.overflow_add-cells
overflow_add-cells c = omega arith

pub loop-child-preserved : goal.loop-child-preserved
loop-child-preserved c =
    let xs = c.args.wanted.now in
    let i = c.loop-child.child-index in
    let x = c.child-item.result in
    let here : slice_get xs i ≡ Some x = slice_get_read xs (length xs) i x refl c.loop-child-test.true c.child-item.is in
    record {
      count = omega (arith, c.loop-child.invariant.count, c.room_for-cells.ensures.room, params_push (take i xs) x, ap params_for (take_next xs i x here));
      few = omega (arith, c.loop-child.invariant.few, c.room_for-cells.ensures.few);
    }

pub returns-clause-cells : goal.returns-clause-cells
returns-clause-cells c = omega (arith, c.loop-child.invariant.count, ap params_for (take_whole c.args.wanted.now c.loop-child.child-index c.loop-child-test.false))
