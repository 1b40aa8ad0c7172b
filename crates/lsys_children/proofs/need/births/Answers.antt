use Rattle.std.proofs.Common.{◌≡◌, length, take, slice_get, Some, refl, ap, arith}
use Rattle.std.proofs.lemmas.Option.{slice_get_read}
use Rattle.lsys_children.specs.Children.{births}
use Rattle.lsys_children.proofs.MatchLemmas.{take_next, take_whole}
use Rattle.lsys_children.proofs.StepLemmas.{births_push, notes_and_births}
use Rattle.lsys_children.proofs.need.births.Goals as goal

pub overflow_add-nodes : goal.overflow_add-nodes
overflow_add-nodes c = omega arith

pub loop-old-preserved : goal.loop-old-preserved
loop-old-preserved c =
    let xs = c.args.found.now in
    let i = c.loop-old.old-index in
    let x = c.old-item.result in
    let here : slice_get xs i ≡ Some x = slice_get_read xs (length xs) i x refl c.loop-old-test.true c.old-item.is in
    record {
      count = omega (arith, c.loop-old.invariant.count, c.birth-nodes.ensures.count, births_push (take i xs) x, ap births (take_next xs i x here));
      few = omega (arith, c.loop-old.invariant.few, c.birth-nodes.ensures.few);
    }

pub returns-clause-count : goal.returns-clause-count
returns-clause-count c = omega (arith, c.loop-old.invariant.count, ap births (take_whole c.args.found.now c.loop-old.old-index c.loop-old-test.false))

pub returns-clause-notes : goal.returns-clause-notes
returns-clause-notes c =
    let xs = c.args.found.now in
    omega (arith, c.loop-old.invariant.count, ap births (take_whole xs c.loop-old.old-index c.loop-old-test.false), notes_and_births xs)
