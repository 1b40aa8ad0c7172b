use Rattle.std.proofs.Common.{arith}
use Rattle.std.proofs.lemmas.Grind.{elements}
use Rattle.lsys_forest.specs.Groves.{now_of, spare_kids}
use Rattle.lsys_forest.proofs.SoundLemmas.{some_of}
use Rattle.lsys_forest.proofs.ShelfLemmas.{room_nil}
use Rattle.lsys_front.proofs.Losing.{loses_none, loses_no_answer}
use Rattle.lsys_front.proofs.ends.take_children.Goals as goal

pub returns-in_err-extend_from_slice-clause-loses : goal.returns-in_err-extend_from_slice-clause-loses
returns-in_err-extend_from_slice-clause-loses g c = loses_none c.args.forest.now

pub set_children-requires-clause-room : goal.set_children-requires-clause-room
set_children-requires-clause-room g c = room_nil (spare_kids c.args.forest.now)

pub returns-in_ok-extend_from_slice-clause-loses : goal.returns-in_ok-extend_from_slice-clause-loses
returns-in_ok-extend_from_slice-clause-loses g c =
    let n = some_of (now_of c.args.forest.now c.args.node) c.requires.lives in
    let sets = c.set_children.ensures.set n.0 n.1 in
    loses_no_answer c.args.forest.now c.set_children.new.self c.set_children.ensures.kept sets.rest sets.root
    (let l = c.set_children.ensures.spends.live in omega (arith, l))

pub returns-else-not-is_empty-clause-loses : goal.returns-else-not-is_empty-clause-loses
returns-else-not-is_empty-clause-loses g c = loses_none c.args.forest.now

pub returns-else-not-is_empty-clause-taken : goal.returns-else-not-is_empty-clause-taken
returns-else-not-is_empty-clause-taken g c = grind (arith, elements)

pub returns-else-not-is_empty-clause-below : goal.returns-else-not-is_empty-clause-below
returns-else-not-is_empty-clause-below g c = grind (arith, elements)
