use Rattle.std.proofs.Common.{arith}
use Rattle.std.proofs.lemmas.Grind.{common_steps}
use Rattle.lsys_flat.specs.Answers.{lists_of}
use Rattle.lsys_flat.proofs.Moved.{rest_made, rest_own, result_made, result_own, rest_gone}
use Rattle.lsys_flat.proofs.taking.take_over.Goals as goal

pub release_all-requires-clause-made : goal.release_all-requires-clause-made
release_all-requires-clause-made g c =
    rest_made c.args.store.now c.args.olds c.args.fresh (lists_of c.args.taken.now) c.requires c.as_mut_slice.result.now c.as_mut_slice-2.result.now c.move_all.new.olds c.move_all.new.fresh
    c.as_mut_slice.ensures.value c.as_mut_slice-2.ensures.value c.move_all.auto.olds c.move_all.auto.fresh c.move_all.ensures.left c.move_all.ensures.moved

pub release_all-requires-clause-own : goal.release_all-requires-clause-own
release_all-requires-clause-own g c =
    rest_own c.args.store.now c.args.olds c.args.fresh (lists_of c.args.taken.now) c.requires c.as_mut_slice.result.now c.as_mut_slice-2.result.now c.move_all.new.olds c.move_all.new.fresh
    c.as_mut_slice.ensures.value c.as_mut_slice-2.ensures.value c.move_all.auto.olds c.move_all.auto.fresh c.move_all.ensures.left c.move_all.ensures.moved

pub returns-clause-made : goal.returns-clause-made
returns-clause-made g c =
    result_made c.args.store.now c.args.olds c.args.fresh (lists_of c.args.taken.now) c.requires c.as_mut_slice.result.now c.as_mut_slice-2.result.now c.move_all.new.olds c.move_all.new.fresh
    c.as_mut_slice.ensures.value c.as_mut_slice-2.ensures.value c.move_all.auto.olds c.move_all.auto.fresh c.move_all.ensures.left c.move_all.ensures.moved c.release_all.new.store c.release_all.ensures.others

pub returns-clause-own : goal.returns-clause-own
returns-clause-own g c =
    result_own c.args.store.now c.args.olds c.args.fresh (lists_of c.args.taken.now) c.requires c.as_mut_slice.result.now c.as_mut_slice-2.result.now c.move_all.new.olds c.move_all.new.fresh
    c.as_mut_slice.ensures.value c.as_mut_slice-2.ensures.value c.move_all.auto.olds c.move_all.auto.fresh c.move_all.ensures.left c.move_all.ensures.moved

pub returns-clause-gone : goal.returns-clause-gone
returns-clause-gone g c =
    rest_gone c.args.store.now c.args.olds c.args.fresh (lists_of c.args.taken.now) c.requires c.as_mut_slice.result.now c.as_mut_slice-2.result.now c.move_all.new.olds c.move_all.new.fresh
    c.as_mut_slice.ensures.value c.as_mut_slice-2.ensures.value c.move_all.auto.olds c.move_all.auto.fresh c.move_all.ensures.left c.move_all.ensures.moved c.release_all.new.store c.release_all.ensures.released

pub returns-clause-moved : goal.returns-clause-moved
returns-clause-moved g c = grind (arith, common_steps)
