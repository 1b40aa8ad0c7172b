use Rattle.std.proofs.Common.{arith, ◌∷◌, [], ◌++◌, ◌∙◌, ap, map}
use Rattle.std.proofs.lemmas.Grind.{common_steps}
use Rattle.lsys_io.proofs.Puts.{puts_then, puts_failed}
use Rattle.lsys_module.specs.Printing.{params_text, more_text}
use Rattle.lsys_module.proofs.PrintedTexts.{params-text}
use Rattle.lsys_module.proofs.print.put_params.Goals as goal

pub returns-in_err-put_param : goal.returns-in_err-put_param
returns-in_err-put_param g c =
    let n = g.N.Notation.way in
    rw (ap (λ ps. params_text n.print (map n.param ps)) c.in-Some.ensures.cases.0 ∙ params-text n.print (n.param c.in-Some.first.now) (map n.param c.in-Some.others.now))
    (puts_then c.in_ok-put.ensures (puts_failed (more_text n.print (map n.param c.in-Some.others.now) ++ 41 ∷ []) c.from_residual-in_err-put_param.ensures.0 c.in_err-put_param.ensures))

pub returns-in_err-put_more : goal.returns-in_err-put_more
returns-in_err-put_more g c =
    let n = g.N.Notation.way in
    rw (ap (λ ps. params_text n.print (map n.param ps)) c.in-Some.ensures.cases.0 ∙ params-text n.print (n.param c.in-Some.first.now) (map n.param c.in-Some.others.now))
    (puts_then c.in_ok-put.ensures (puts_then c.in_ok-put_param.ensures (puts_failed (41 ∷ []) c.from_residual-in_err-put_more.ensures.0 c.in_err-put_more.ensures)))

pub returns : goal.returns
returns g c =
    let n = g.N.Notation.way in
    rw (ap (λ ps. params_text n.print (map n.param ps)) c.in-Some.ensures.cases.0 ∙ params-text n.print (n.param c.in-Some.first.now) (map n.param c.in-Some.others.now))
    (puts_then c.in_ok-put.ensures (puts_then c.in_ok-put_param.ensures (puts_then c.in_ok-put_more.ensures c.put-2.ensures)))

pub returns-in_default : goal.returns-in_default
returns-in_default g c = grind (arith, common_steps)
