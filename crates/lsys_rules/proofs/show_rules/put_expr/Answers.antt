use Rattle.lsys_rules.proofs.ShownTexts.{expr-marks, expr-text}
use Rattle.lsys_rules.proofs.show_rules.put_expr.Goals as goal

pub put_kinds-requires : goal.put_kinds-requires
put_kinds-requires g c = expr-marks c.args.expr.now.spelled c.kinds.result.now c.kinds.ensures

pub returns : goal.returns
returns g c = rw (expr-text c.args.expr.now.spelled, ← c.kinds.ensures) c.put_kinds.ensures
