use Rattle.std.proofs.Common.{◌+◌, drop, map}
use Rattle.std.specs.Prelude.{flat_map}
use Rattle.std.proofs.lemmas.List.{take_all}
use Rattle.lsys_io.proofs.Puts.{puts_nothing, puts_then, puts_failed}
use Rattle.lsys_growth.specs.Growth.{letter_line}
use Rattle.lsys_growth.specs.Views.{count_of}
use Rattle.lsys_cli.proofs.CountTexts.{counts-step, counts-rest}
use Rattle.lsys_cli.proofs.growth_reply.put_counts.Goals as goal

pub loop-count-init : goal.loop-count-init
loop-count-init g c = record { put = puts_nothing }

pub loop-count-preserved : goal.loop-count-preserved
loop-count-preserved g c = record {
  put = rw (counts-step c.args.counts.now c.loop-count.count-index c.count-item.result c.loop-count-test.true c.count-item.is) (puts_then c.loop-count.invariant.put c.in_ok-put_count.ensures);
}

pub returns-in_err-put_count : goal.returns-in_err-put_count
returns-in_err-put_count g c =
    let items = c.args.counts.now in
    let i = c.loop-count.count-index in
    rw (counts-rest items (i + 1), counts-step items i c.count-item.result c.loop-count-test.true c.count-item.is)
    (puts_failed (flat_map letter_line (map count_of (drop (i + 1) items))) c.from_residual.ensures.0 (puts_then c.loop-count.invariant.put c.in_err-put_count.ensures))

pub returns : goal.returns
returns g c = rw (← take_all c.loop-count.count-index c.args.counts.now c.loop-count-test.false) c.loop-count.invariant.put
