use Rattle.std.proofs.Common.{◌≡◌, Some, length, slice_get, refl, subst, inl, inr}
use Rattle.std.proofs.lemmas.Option.{slice_get_read}
use Rattle.lsys_reads.proofs.LevelLemmas.{got_in}
use Rattle.lsys_reads.proofs.SeamLemmas.{in_taken_next, in_all_taken, none_taken}
use Rattle.lsys_front.specs.Finds.{IsBeside, IsAtOrBeside}
use Rattle.lsys_front.proofs.Gathering.{gathers_none, beside_next, still_marked}
use Rattle.lsys_front.proofs.finds.find_beside.Goals as goal

pub gather_near-requires-clause-level : goal.gather_near-requires-clause-level
gather_near-requires-clause-level g c =
    let xs = c.args.changed.now in
    let i = c.loop-node.node-index in
    let x = c.node-item.result in
    let here : slice_get xs i ≡ Some x = slice_get_read xs (length xs) i x refl c.loop-node-test.true c.node-item.is in
    c.requires.levels x (got_in xs i x here)

pub gather_near-requires-clause-room : goal.gather_near-requires-clause-room
gather_near-requires-clause-room g c = λ k near.
    let xs = c.args.changed.now in
    let i = c.loop-node.node-index in
    let x = c.node-item.result in
    let here : slice_get xs i ≡ Some x = slice_get_read xs (length xs) i x refl c.loop-node-test.true c.node-item.is in
    c.loop-node.invariant.gathers.keeps k (c.requires.room k (record { node = x; among = got_in xs i x here; near = near }))

pub loop-node-init : goal.loop-node-init
loop-node-init g c = record {
  gathers = gathers_none (IsBeside c.args.forest.now c.args.changed.now) c.args.seats.now c.args.beside.now.items;
  all = λ q t. absurd (none_taken c.args.changed.now q t);
}

pub loop-node-preserved : goal.loop-node-preserved
loop-node-preserved g c =
    let xs = c.args.changed.now in
    let i = c.loop-node.node-index in
    let x = c.node-item.result in
    let here : slice_get xs i ≡ Some x = slice_get_read xs (length xs) i x refl c.loop-node-test.true c.node-item.is in
    let f = c.args.forest.now in
    let was = c.loop-node.invariant in
    let e = c.in_ok-gather_near.ensures in
    record {
      gathers = beside_next f c.args.seats.now c.loop-node.seats c.gather_near.new.seats c.args.beside.now.items c.loop-node.beside.items c.gather_near.new.beside.items xs i x here was.gathers e.gathers;
      all = λ q t k near. elim (in_taken_next xs i x q here t) [
        | inl before ↦ still_marked (IsAtOrBeside f x) c.loop-node.seats c.gather_near.new.seats c.loop-node.beside.items c.gather_near.new.beside.items e.gathers k (was.all q before k near)
        | inr same ↦ e.all k (subst (λ q. IsAtOrBeside f q k) same near)
      ];
    }

pub returns-in_err-gather_near-clause-gathers : goal.returns-in_err-gather_near-clause-gathers
returns-in_err-gather_near-clause-gathers g c =
    let xs = c.args.changed.now in
    let i = c.loop-node.node-index in
    let x = c.node-item.result in
    let here : slice_get xs i ≡ Some x = slice_get_read xs (length xs) i x refl c.loop-node-test.true c.node-item.is in
    beside_next c.args.forest.now c.args.seats.now c.loop-node.seats c.gather_near.new.seats c.args.beside.now.items c.loop-node.beside.items c.gather_near.new.beside.items xs i x here
    c.loop-node.invariant.gathers c.gather_near.ensures.gathers

pub returns-clause-all : goal.returns-clause-all
returns-clause-all g c = λ k t. c.loop-node.invariant.all t.node (in_all_taken c.args.changed.now c.loop-node.node-index t.node c.loop-node-test.false t.among) k t.near
