use Rattle.std.proofs.Common.{◌+◌, map, drop, Err, refl}
use Rattle.std.proofs.lemmas.List.{take_all}
use Rattle.lsys_syntax.specs.Pieces.{text_of}
use Rattle.lsys_io.proofs.Puts.{puts_nothing, puts_then, puts_failed}
use Rattle.lsys_module.specs.Printing.{more_text}
use Rattle.lsys_module.proofs.PrintedTexts.{more_text-step, more_text-rest}
use Rattle.lsys_module.proofs.print.put_more.Goals as goal

pub loop-param-init : goal.loop-param-init
loop-param-init g c = record { put = puts_nothing }

pub loop-param-preserved : goal.loop-param-preserved
loop-param-preserved g c = record {
  put = rw (more_text-step g.N.Notation.way.print g.N.Notation.way.param c.args.params.now c.loop-param.param-index c.param-item.result c.loop-param-test.true c.param-item.is)
      (puts_then c.loop-param.invariant.put (puts_then c.in_ok-put.ensures c.in_ok-put_param.ensures));
}

pub returns-in_err-put : goal.returns-in_err-put
returns-in_err-put g c =
    let n = g.N.Notation.way in
    let params = c.args.params.now in
    let i = c.loop-param.param-index in
    rw (more_text-rest n.print n.param params (i + 1), more_text-step n.print n.param params i c.param-item.result c.loop-param-test.true c.param-item.is)
    (puts_failed {A = Unit {0}} (more_text n.print (map n.param (drop (i + 1) params))) c.from_residual.ensures.0
    (puts_then c.loop-param.invariant.put (puts_failed {result = Err c.in_err-put.field-0.0} (text_of (n.print (n.param c.param-item.result))) refl c.in_err-put.ensures)))

pub returns-in_err-put_param : goal.returns-in_err-put_param
returns-in_err-put_param g c =
    let n = g.N.Notation.way in
    let params = c.args.params.now in
    let i = c.loop-param.param-index in
    rw (more_text-rest n.print n.param params (i + 1), more_text-step n.print n.param params i c.param-item.result c.loop-param-test.true c.param-item.is)
    (puts_failed (more_text n.print (map n.param (drop (i + 1) params))) c.from_residual-in_err-put_param.ensures.0
    (puts_then c.loop-param.invariant.put (puts_then c.in_ok-put.ensures c.in_err-put_param.ensures)))

pub returns : goal.returns
returns g c = rw (← take_all c.loop-param.param-index c.args.params.now c.loop-param-test.false) c.loop-param.invariant.put
