use Rattle.std.proofs.Common.{◌≡◌, Some, length, slice_get, refl}
use Rattle.std.proofs.lemmas.Option.{slice_get_read}
use Rattle.lsys_forest.specs.Groves.{now_of}
use Rattle.lsys_reads.proofs.LevelLemmas.{got_in}
use Rattle.lsys_front.specs.Candidates.{AsksOn}
use Rattle.lsys_front.proofs.Adding.{adds_start, adds_next, adds_all}
use Rattle.lsys_front.proofs.questioned.add_asked.Goals as goal

pub add_if_asked-requires : goal.add_if_asked-requires
add_if_asked-requires g c =
    let xs = c.args.nodes.now in
    let i = c.loop-node.node-index in
    let x = c.node-item.result in
    let here : slice_get xs i ≡ Some x = slice_get_read xs (length xs) i x refl c.loop-node-test.true c.node-item.is in
    c.requires x (got_in xs i x here)

pub loop-node-init : goal.loop-node-init
loop-node-init g c = record { adds = adds_start (AsksOn c.args.system.now c.args.level (now_of c.args.forest.now)) c.args.nodes.now c.args.asked.now.items }

pub loop-node-preserved : goal.loop-node-preserved
loop-node-preserved g c =
    let xs = c.args.nodes.now in
    let i = c.loop-node.node-index in
    let x = c.node-item.result in
    let here : slice_get xs i ≡ Some x = slice_get_read xs (length xs) i x refl c.loop-node-test.true c.node-item.is in
    record {
      adds = adds_next (AsksOn c.args.system.now c.args.level (now_of c.args.forest.now)) xs i x c.args.asked.now.items c.loop-node.asked.items c.add_if_asked.new.asked.items here c.loop-node.invariant.adds c.in_ok-add_if_asked.ensures;
    }

pub returns : goal.returns
returns g c = adds_all (AsksOn c.args.system.now c.args.level (now_of c.args.forest.now)) c.args.nodes.now c.loop-node.node-index c.args.asked.now.items c.loop-node.asked.items c.loop-node-test.false c.loop-node.invariant.adds
