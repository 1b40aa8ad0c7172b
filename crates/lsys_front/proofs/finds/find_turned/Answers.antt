use Rattle.std.proofs.Common.{◌≡◌, Some, length, slice_get, refl, ◌∙◌, inl, inr}
use Rattle.std.proofs.lemmas.Option.{slice_get_read}
use Rattle.lsys_reads.proofs.LevelLemmas.{got_in}
use Rattle.lsys_reads.proofs.SeamLemmas.{in_taken_next, in_all_taken, none_taken}
use Rattle.lsys_front.specs.Finds.{IsTurned}
use Rattle.lsys_front.proofs.Gathering.{gathers_none, turned_next, still_marked}
use Rattle.lsys_front.proofs.finds.find_turned.Goals as goal

pub gather_turned-requires-clause-level : goal.gather_turned-requires-clause-level
gather_turned-requires-clause-level g c =
    let xs = c.args.looked.now in
    let i = c.loop-node.node-index in
    let x = c.node-item.result in
    let here : slice_get xs i ≡ Some x = slice_get_read xs (length xs) i x refl c.loop-node-test.true c.node-item.is in
    c.requires.levels x (got_in xs i x here)

pub gather_turned-requires-clause-room : goal.gather_turned-requires-clause-room
gather_turned-requires-clause-room g c =
    let xs = c.args.looked.now in
    let i = c.loop-node.node-index in
    let x = c.node-item.result in
    let here : slice_get xs i ≡ Some x = slice_get_read xs (length xs) i x refl c.loop-node-test.true c.node-item.is in
    c.loop-node.invariant.gathers.keeps x (c.requires.room x (got_in xs i x here))

pub loop-node-init : goal.loop-node-init
loop-node-init g c = record {
  gathers = gathers_none (IsTurned c.args.forest.now c.args.seats.now c.args.looked.now) c.args.seats.now c.args.turned.now.items;
  all = λ k t. absurd (none_taken c.args.looked.now k t);
}

pub loop-node-preserved : goal.loop-node-preserved
loop-node-preserved g c =
    let xs = c.args.looked.now in
    let i = c.loop-node.node-index in
    let x = c.node-item.result in
    let here : slice_get xs i ≡ Some x = slice_get_read xs (length xs) i x refl c.loop-node-test.true c.node-item.is in
    let f = c.args.forest.now in
    let was = c.loop-node.invariant in
    let e = c.in_ok-gather_turned.ensures in
    record {
      gathers = turned_next f c.args.seats.now c.loop-node.seats c.gather_turned.new.seats c.args.turned.now.items c.loop-node.turned.items c.gather_turned.new.turned.items xs i x here was.gathers e.gathers;
      all = λ k t ne. elim (in_taken_next xs i x k here t) [
        | inl before ↦ still_marked _ c.loop-node.seats c.gather_turned.new.seats c.loop-node.turned.items c.gather_turned.new.turned.items e.gathers k (was.all k before ne)
        | inr same ↦ e.all k (record { looked_at = inl same; turned = λ eq. ne (eq ∙ was.gathers.seats k) })
      ];
    }

pub returns-in_err-gather_turned-clause-gathers : goal.returns-in_err-gather_turned-clause-gathers
returns-in_err-gather_turned-clause-gathers g c =
    let xs = c.args.looked.now in
    let i = c.loop-node.node-index in
    let x = c.node-item.result in
    let here : slice_get xs i ≡ Some x = slice_get_read xs (length xs) i x refl c.loop-node-test.true c.node-item.is in
    turned_next c.args.forest.now c.args.seats.now c.loop-node.seats c.gather_turned.new.seats c.args.turned.now.items c.loop-node.turned.items c.gather_turned.new.turned.items xs i x here
    c.loop-node.invariant.gathers c.gather_turned.ensures.gathers

pub returns-clause-all : goal.returns-clause-all
returns-clause-all g c = λ k t. c.loop-node.invariant.all k (in_all_taken c.args.looked.now c.loop-node.node-index k c.loop-node-test.false t.looked_at) t.turned
