use Rattle.std.proofs.Common.{get_or, pos, rules, arith}
use Rattle.std.proofs.lemmas.Int.{to_z-of_z}
use mir.Val.{SFits}
use mir.Syntax.{w64}
use Rattle.lsys_module.proofs.Padding.{one_written, all_written}
use Rattle.lsys_module.proofs.params.Params.of.Goals as goal

pub loop-place-preserved : goal.loop-place-preserved
loop-place-preserved c =
    let values = c.args.values.now in
    let value = get_or values c.loop-place.place (pos 0) in
    let fits : SFits w64 value = search rules in
    rw (to_z-of_z w64 value fits) (one_written values c.loop-place.kept c.loop-place.place c.requires c.loop-place-test.true fits c.loop-place.invariant)

pub invariant_of-result : goal.invariant_of-result
invariant_of-result c = all_written c.args.values.now c.loop-place.kept c.loop-place.place c.requires (omega arith) c.loop-place.invariant
