use Rattle.std.proofs.Common.{◌≡◌, Some, length, slice_get, refl, ◌∙◌}
use Rattle.std.proofs.lemmas.Option.{slice_get_read}
use Rattle.lsys_reads.proofs.LevelLemmas.{got_in}
use Rattle.lsys_front.proofs.Gathering.{marks_next}
use Rattle.lsys_front.proofs.finds.mark_all.Goals as goal

pub mark-requires : goal.mark-requires
mark-requires c =
    let xs = c.args.nodes.now in
    let i = c.loop-node.node-index in
    let x = c.node-item.result in
    let here : slice_get xs i ≡ Some x = slice_get_read xs (length xs) i x refl c.loop-node-test.true c.node-item.is in
    record { room = c.loop-node.invariant.keeps x (c.requires.room x (got_in xs i x here)) }

pub loop-node-preserved : goal.loop-node-preserved
loop-node-preserved c =
    let xs = c.args.nodes.now in
    let i = c.loop-node.node-index in
    let x = c.node-item.result in
    let here : slice_get xs i ≡ Some x = slice_get_read xs (length xs) i x refl c.loop-node-test.true c.node-item.is in
    let was = c.loop-node.invariant in
    let e = c.mark.ensures in
    record {
      marks = marks_next c.args.seats.now c.loop-node.seats c.mark.new.self xs i x here was.marks e.marked e.others;
      seats = λ k. e.seats k ∙ was.seats k;
      keeps = λ k h. e.keeps k (was.keeps k h);
    }
