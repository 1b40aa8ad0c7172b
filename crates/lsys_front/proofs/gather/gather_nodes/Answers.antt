use Rattle.std.proofs.Common.{◌≡◌, Some, length, slice_get, refl, ap, ◌∙◌, inl, inr}
use Rattle.std.proofs.lemmas.Option.{slice_get_read}
use Rattle.lsys_spec.specs.Rows.{In}
use Rattle.lsys_reads.specs.Seats.{is_marked}
use Rattle.lsys_reads.proofs.LevelLemmas.{got_in}
use Rattle.lsys_reads.proofs.SeamLemmas.{in_taken_next, in_all_taken, none_taken}
use Rattle.lsys_front.proofs.Gathering.{gathers_none, tags_next, still_marked}
use Rattle.lsys_front.proofs.gather.gather_nodes.Goals as goal

pub gather-requires : goal.gather-requires
gather-requires c =
    let xs = c.args.these.now in
    let i = c.loop-node.node-index in
    let x = c.node-item.result in
    let here : slice_get xs i ≡ Some x = slice_get_read xs (length xs) i x refl c.loop-node-test.true c.node-item.is in
    c.loop-node.invariant.gathers.keeps x (c.requires.room x (got_in xs i x here))

pub loop-node-init : goal.loop-node-init
loop-node-init c = record {
  gathers = gathers_none (λ k. In k c.args.these.now) c.args.seats.now c.args.nodes.now.items;
  all = λ k t. absurd (none_taken c.args.these.now k t);
}

pub returns-in_err-gather-clause-gathers : goal.returns-in_err-gather-clause-gathers
returns-in_err-gather-clause-gathers c =
    let xs = c.args.these.now in
    let i = c.loop-node.node-index in
    let x = c.node-item.result in
    let here : slice_get xs i ≡ Some x = slice_get_read xs (length xs) i x refl c.loop-node-test.true c.node-item.is in
    tags_next c.args.seats.now c.loop-node.seats c.gather.new.seats c.args.nodes.now.items c.loop-node.nodes.items c.gather.new.nodes.items xs i x here c.loop-node.invariant.gathers c.gather.ensures.gathers

pub loop-node-preserved : goal.loop-node-preserved
loop-node-preserved c =
    let xs = c.args.these.now in
    let i = c.loop-node.node-index in
    let x = c.node-item.result in
    let here : slice_get xs i ≡ Some x = slice_get_read xs (length xs) i x refl c.loop-node-test.true c.node-item.is in
    let was = c.loop-node.invariant in
    record {
      gathers = tags_next c.args.seats.now c.loop-node.seats c.gather.new.seats c.args.nodes.now.items c.loop-node.nodes.items c.gather.new.nodes.items xs i x here was.gathers c.gather.ensures.gathers;
      all = λ k t. elim (in_taken_next xs i x k here t) [
        | inl before ↦ still_marked (λ k. k ≡ x) c.loop-node.seats c.gather.new.seats c.loop-node.nodes.items c.gather.new.nodes.items c.gather.ensures.gathers k (was.all k before)
        | inr same ↦ ap (is_marked c.gather.new.seats) same ∙ c.in_ok-gather.ensures.marked
      ];
    }

pub returns-clause-all : goal.returns-clause-all
returns-clause-all c = λ k t. c.loop-node.invariant.all k (in_all_taken c.args.these.now c.loop-node.node-index k c.loop-node-test.false t)
