use Rattle.std.proofs.Common.{arith}
use Rattle.std.proofs.lemmas.Grind.{common_steps}
use Rattle.lsys_io.proofs.Puts.{puts_sent}
use Rattle.lsys_io.proofs.buffered.Buffered.put.Goals as goal

-- what was held is written, and then the bytes are
pub returns-then-bytes-gt-ROOM : goal.returns-then-bytes-gt-ROOM
returns-then-bytes-gt-ROOM g c =
    rw c.in_ok-flush.ensures.holds_nothing (puts_sent g.K.Sink.written g.K.Sink.faults c.args.sink.now c.flush.new.sink c.send_all.new.sink c.args.self.now c.args.bytes.now c.send_all.result
    c.in_ok-flush.ensures.written c.in_ok-flush.ensures.ok_leaves_count c.send_all.ensures.sent c.send_all.ensures.failed_writes_front c.send_all.ensures.never_falls c.send_all.ensures.failed_only_where_rose c.send_all.ensures.ok_leaves_count)

pub returns-in_err-flush : goal.returns-in_err-flush
returns-in_err-flush g c = grind (arith, common_steps)

pub returns : goal.returns
returns g c = grind (arith, common_steps)
