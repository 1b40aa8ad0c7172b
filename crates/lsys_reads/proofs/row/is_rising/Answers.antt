use Rattle.std.proofs.Common.{◌<◌, ◌-◌, length, get_or, arith, rules}
use Rattle.std.proofs.lemmas.Grind.{get_or_default_zero}
use Rattle.lsys_reads.proofs.PassLemmas.{rising_step}
use Rattle.lsys_reads.proofs.row.is_rising.Goals as goal

pub loop-at-preserved : goal.loop-at-preserved
loop-at-preserved c =
    let xs = c.args.tags.now in
    let at = c.loop-at.at in
    let within : at < length xs = search rules in
    let less : c.index-tags-at.result < c.index-tags-at-in-loop-at.result = search rules in
    let one = get_or_default_zero xs (at - 1) c.index-tags-at.result (omega (arith, within)) in
    let two = get_or_default_zero xs at c.index-tags-at-in-loop-at.result within in
    let above : get_or xs (at - 1) 0 < get_or xs at 0 = omega (arith, less, one, two) in
    (omega arith, rising_step xs at c.loop-at.invariant.0 within c.loop-at.invariant.1 above)
