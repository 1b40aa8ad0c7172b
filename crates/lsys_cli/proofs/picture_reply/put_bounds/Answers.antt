use Rattle.std.proofs.Common.{◌∷◌, ◌++◌}
use Rattle.lsys_spec.specs.Refusals.{line_feed}
use Rattle.lsys_io.proofs.Puts.{puts_failed, puts_then}
use Rattle.lsys_cli.specs.Motions.{span_text}
use Rattle.lsys_cli.proofs.picture_reply.put_bounds.Goals as goal

pub returns-in_err-put : goal.returns-in_err-put
returns-in_err-put g c =
    let low = c.args.bounds.low in
    let high = c.args.bounds.high in
    puts_failed (span_text low.x high.x ++ 32 ∷ (span_text low.y high.y ++ 32 ∷ (span_text low.z high.z ++ line_feed))) c.from_residual.ensures.0 c.in_err-put.ensures

pub returns-in_err-put_span : goal.returns-in_err-put_span
returns-in_err-put_span g c =
    let low = c.args.bounds.low in
    let high = c.args.bounds.high in
    puts_then c.in_ok-put.ensures (puts_failed (32 ∷ (span_text low.y high.y ++ 32 ∷ (span_text low.z high.z ++ line_feed))) c.from_residual-in_err-put_span.ensures.0 c.in_err-put_span.ensures)

pub returns-in_err-put-2 : goal.returns-in_err-put-2
returns-in_err-put-2 g c =
    let low = c.args.bounds.low in
    let high = c.args.bounds.high in
    puts_then c.in_ok-put.ensures (puts_then c.in_ok-put_span.ensures (puts_failed (span_text low.y high.y ++ 32 ∷ (span_text low.z high.z ++ line_feed)) c.from_residual-in_err-put-2.ensures.0 c.in_err-put-2.ensures))

pub returns-in_err-put_span-2 : goal.returns-in_err-put_span-2
returns-in_err-put_span-2 g c =
    let low = c.args.bounds.low in
    let high = c.args.bounds.high in
    puts_then c.in_ok-put.ensures (puts_then c.in_ok-put_span.ensures (puts_then c.in_ok-put-2.ensures (puts_failed (32 ∷ (span_text low.z high.z ++ line_feed)) c.from_residual-in_err-put_span-2.ensures.0 c.in_err-put_span-2.ensures)))

pub returns-in_err-put-3 : goal.returns-in_err-put-3
returns-in_err-put-3 g c =
    let low = c.args.bounds.low in
    let high = c.args.bounds.high in
    puts_then c.in_ok-put.ensures (puts_then c.in_ok-put_span.ensures (puts_then c.in_ok-put-2.ensures (puts_then c.in_ok-put_span-2.ensures (puts_failed (span_text low.z high.z ++ line_feed) c.from_residual-in_err-put-3.ensures.0 c.in_err-put-3.ensures))))

pub returns-in_err-put_span-3 : goal.returns-in_err-put_span-3
returns-in_err-put_span-3 g c =
    let low = c.args.bounds.low in
    let high = c.args.bounds.high in
    puts_then c.in_ok-put.ensures (puts_then c.in_ok-put_span.ensures (puts_then c.in_ok-put-2.ensures (puts_then c.in_ok-put_span-2.ensures (puts_then c.in_ok-put-3.ensures (puts_failed (line_feed) c.from_residual-in_err-put_span-3.ensures.0 c.in_err-put_span-3.ensures)))))

pub returns : goal.returns
returns g c =
    puts_then c.in_ok-put.ensures (puts_then c.in_ok-put_span.ensures (puts_then c.in_ok-put-2.ensures (puts_then c.in_ok-put_span-2.ensures (puts_then c.in_ok-put-3.ensures (puts_then c.in_ok-put_span-3.ensures (c.put-4.ensures))))))
