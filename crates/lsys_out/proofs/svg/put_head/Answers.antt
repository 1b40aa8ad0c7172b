use Rattle.std.proofs.Common.{◌∷◌, ◌++◌, codes}
use Rattle.std.specs.Fmt.{signed_decimal}
use Rattle.lsys_io.proofs.Puts.{puts_failed, puts_then}
use Rattle.lsys_out.specs.Boxes.{box_of}
use Rattle.lsys_out.proofs.svg.put_head.Goals as goal

pub returns-in_err-put : goal.returns-in_err-put
returns-in_err-put g c = let b = box_of c.args.extent.now in puts_failed (signed_decimal b.x ++ (32 ∷ (signed_decimal b.y ++ (32 ∷ (signed_decimal b.width ++ (32 ∷ (signed_decimal b.height ++ codes "\">\n"))))))) c.from_residual.ensures.0 c.in_err-put.ensures

pub returns-in_err-put_corner : goal.returns-in_err-put_corner
returns-in_err-put_corner g c = let b = box_of c.args.extent.now in puts_then c.in_ok-put.ensures (puts_failed (32 ∷ (signed_decimal b.y ++ (32 ∷ (signed_decimal b.width ++ (32 ∷ (signed_decimal b.height ++ codes "\">\n")))))) c.from_residual-in_err-put_corner.ensures.0 c.in_err-put_corner.ensures)

pub returns-in_err-put-2 : goal.returns-in_err-put-2
returns-in_err-put-2 g c = let b = box_of c.args.extent.now in puts_then c.in_ok-put.ensures (puts_then c.in_ok-put_corner.ensures (puts_failed (signed_decimal b.y ++ (32 ∷ (signed_decimal b.width ++ (32 ∷ (signed_decimal b.height ++ codes "\">\n"))))) c.from_residual-in_err-put-2.ensures.0 c.in_err-put-2.ensures))

pub returns-in_err-put_corner-2 : goal.returns-in_err-put_corner-2
returns-in_err-put_corner-2 g c = let b = box_of c.args.extent.now in puts_then c.in_ok-put.ensures (puts_then c.in_ok-put_corner.ensures (puts_then c.in_ok-put-2.ensures (puts_failed (32 ∷ (signed_decimal b.width ++ (32 ∷ (signed_decimal b.height ++ codes "\">\n")))) c.from_residual-in_err-put_corner-2.ensures.0 c.in_err-put_corner-2.ensures)))

pub returns-in_err-put-3 : goal.returns-in_err-put-3
returns-in_err-put-3 g c = let b = box_of c.args.extent.now in puts_then c.in_ok-put.ensures (puts_then c.in_ok-put_corner.ensures (puts_then c.in_ok-put-2.ensures (puts_then c.in_ok-put_corner-2.ensures (puts_failed (signed_decimal b.width ++ (32 ∷ (signed_decimal b.height ++ codes "\">\n"))) c.from_residual-in_err-put-3.ensures.0 c.in_err-put-3.ensures))))

pub returns-in_err-put_side : goal.returns-in_err-put_side
returns-in_err-put_side g c = let b = box_of c.args.extent.now in puts_then c.in_ok-put.ensures (puts_then c.in_ok-put_corner.ensures (puts_then c.in_ok-put-2.ensures (puts_then c.in_ok-put_corner-2.ensures (puts_then c.in_ok-put-3.ensures (puts_failed (32 ∷ (signed_decimal b.height ++ codes "\">\n")) c.from_residual-in_err-put_side.ensures.0 c.in_err-put_side.ensures)))))

pub returns-in_err-put-4 : goal.returns-in_err-put-4
returns-in_err-put-4 g c = let b = box_of c.args.extent.now in puts_then c.in_ok-put.ensures (puts_then c.in_ok-put_corner.ensures (puts_then c.in_ok-put-2.ensures (puts_then c.in_ok-put_corner-2.ensures (puts_then c.in_ok-put-3.ensures (puts_then c.in_ok-put_side.ensures (puts_failed (signed_decimal b.height ++ codes "\">\n") c.from_residual-in_err-put-4.ensures.0 c.in_err-put-4.ensures))))))

pub returns-in_err-put_side-2 : goal.returns-in_err-put_side-2
returns-in_err-put_side-2 g c = let b = box_of c.args.extent.now in puts_then c.in_ok-put.ensures (puts_then c.in_ok-put_corner.ensures (puts_then c.in_ok-put-2.ensures (puts_then c.in_ok-put_corner-2.ensures (puts_then c.in_ok-put-3.ensures (puts_then c.in_ok-put_side.ensures (puts_then c.in_ok-put-4.ensures (puts_failed (codes "\">\n") c.from_residual-in_err-put_side-2.ensures.0 c.in_err-put_side-2.ensures)))))))

pub returns : goal.returns
returns g c = puts_then c.in_ok-put.ensures (puts_then c.in_ok-put_corner.ensures (puts_then c.in_ok-put-2.ensures (puts_then c.in_ok-put_corner-2.ensures (puts_then c.in_ok-put-3.ensures (puts_then c.in_ok-put_side.ensures (puts_then c.in_ok-put-4.ensures (puts_then c.in_ok-put_side-2.ensures (c.put-5.ensures))))))))
