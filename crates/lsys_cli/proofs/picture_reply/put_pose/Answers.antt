use Rattle.std.proofs.Common.{◌∷◌, ◌++◌}
use Rattle.std.specs.Prelude.{decimal}
use Rattle.lsys_spec.specs.PictureTexts.{place_text}
use Rattle.lsys_spec.specs.Refusals.{line_feed}
use Rattle.lsys_io.proofs.Puts.{puts_failed, puts_then}
use Rattle.lsys_cli.proofs.picture_reply.put_pose.Goals as goal

pub returns-in_err-put : goal.returns-in_err-put
returns-in_err-put g c =
    let p = c.args.pose.now in
    puts_failed (place_text p.place ++ 32 ∷ (place_text p.frame.heading ++ 32 ∷ (decimal p.width ++ line_feed))) c.from_residual.ensures.0 c.in_err-put.ensures

pub returns-in_err-put_place : goal.returns-in_err-put_place
returns-in_err-put_place g c =
    let i = c.pose.inside in
    rw (← c.pose.view_is)
    (puts_then c.in_ok-put.ensures (puts_failed (32 ∷ (place_text (g.T.Lattice.frame_of i.frame).heading ++ 32 ∷ (decimal i.width ++ line_feed))) c.from_residual-in_err-put_place.ensures.0 c.in_err-put_place.ensures))

pub returns-in_err-put-2 : goal.returns-in_err-put-2
returns-in_err-put-2 g c =
    let i = c.pose.inside in
    rw (← c.pose.view_is)
    (puts_then c.in_ok-put.ensures (puts_then c.in_ok-put_place.ensures (puts_failed (place_text (g.T.Lattice.frame_of i.frame).heading ++ 32 ∷ (decimal i.width ++ line_feed)) c.from_residual-in_err-put-2.ensures.0 c.in_err-put-2.ensures)))

pub returns-in_err-put_heading : goal.returns-in_err-put_heading
returns-in_err-put_heading g c =
    let i = c.pose.inside in
    rw (← c.pose.view_is)
    (puts_then c.in_ok-put.ensures (puts_then c.in_ok-put_place.ensures (puts_then c.in_ok-put-2.ensures (puts_failed (32 ∷ (decimal i.width ++ line_feed)) c.from_residual-in_err-put_heading.ensures.0 c.in_err-put_heading.ensures))))

pub returns-in_err-put-3 : goal.returns-in_err-put-3
returns-in_err-put-3 g c =
    let i = c.pose.inside in
    rw (← c.pose.view_is)
    (puts_then c.in_ok-put.ensures (puts_then c.in_ok-put_place.ensures (puts_then c.in_ok-put-2.ensures (puts_then c.in_ok-put_heading.ensures (puts_failed (decimal i.width ++ line_feed) c.from_residual-in_err-put-3.ensures.0 c.in_err-put-3.ensures)))))

pub returns-in_err-put_unsigned : goal.returns-in_err-put_unsigned
returns-in_err-put_unsigned g c =
    let i = c.pose.inside in
    rw (← c.pose.view_is)
    (puts_then c.in_ok-put.ensures (puts_then c.in_ok-put_place.ensures (puts_then c.in_ok-put-2.ensures (puts_then c.in_ok-put_heading.ensures (puts_then c.in_ok-put-3.ensures (puts_failed (line_feed) c.from_residual-in_err-put_unsigned.ensures.0 c.in_err-put_unsigned.ensures))))))

pub returns : goal.returns
returns g c =
    rw (← c.pose.view_is)
    (puts_then c.in_ok-put.ensures (puts_then c.in_ok-put_place.ensures (puts_then c.in_ok-put-2.ensures (puts_then c.in_ok-put_heading.ensures (puts_then c.in_ok-put-3.ensures (puts_then c.in_ok-put_unsigned.ensures (c.put-4.ensures)))))))
