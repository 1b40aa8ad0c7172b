use Rattle.std.proofs.Common.{◌∷◌, ◌++◌}
use Rattle.std.specs.Fmt.{signed_decimal}
use Rattle.lsys_io.proofs.Puts.{puts_failed, puts_then}
use Rattle.lsys_out.proofs.segments.put_place.Goals as goal

pub returns-in_err-put_signed : goal.returns-in_err-put_signed
returns-in_err-put_signed g c =
    let p = c.args.place.now in puts_failed (32 ∷ (signed_decimal p.y ++ 32 ∷ signed_decimal p.z)) c.from_residual.ensures.0 c.in_err-put_signed.ensures

pub returns-in_err-put : goal.returns-in_err-put
returns-in_err-put g c =
    let p = c.args.place.now in
    puts_then c.in_ok-put_signed.ensures (puts_failed (signed_decimal p.y ++ 32 ∷ signed_decimal p.z) c.from_residual-in_err-put.ensures.0 c.in_err-put.ensures)

pub returns-in_err-put_signed-2 : goal.returns-in_err-put_signed-2
returns-in_err-put_signed-2 g c =
    let p = c.args.place.now in
    puts_then c.in_ok-put_signed.ensures (puts_then c.in_ok-put.ensures (puts_failed (32 ∷ signed_decimal p.z) c.from_residual-in_err-put_signed-2.ensures.0 c.in_err-put_signed-2.ensures))

pub returns-in_err-put-2 : goal.returns-in_err-put-2
returns-in_err-put-2 g c =
    let p = c.args.place.now in
    puts_then c.in_ok-put_signed.ensures (puts_then c.in_ok-put.ensures (puts_then c.in_ok-put_signed-2.ensures
    (puts_failed (signed_decimal p.z) c.from_residual-in_err-put-2.ensures.0 c.in_err-put-2.ensures)))

pub returns : goal.returns
returns g c =
    puts_then c.in_ok-put_signed.ensures (puts_then c.in_ok-put.ensures (puts_then c.in_ok-put_signed-2.ensures (puts_then c.in_ok-put-2.ensures c.put_signed-3.ensures)))
