use Rattle.std.proofs.lemmas.Result.{err_from_is_err_and}
use Rattle.lsys_reading.specs.Tokens.{kinds_in}
use Rattle.lsys_reading.proofs.RuleReads.{refused-condition, refused-weight, refused-arrow, refused-successor}
use Rattle.lsys_reading.proofs.rule.rule_parts.Goals as goal

pub returns-in_err-condition-clause-read : goal.returns-in_err-condition-clause-read
returns-in_err-condition-clause-read c =
    let p = err_from_is_err_and c.from_residual-in_err-condition.result c.from_residual-in_err-condition.ensures.1 in
    rw (p.1, p.2) (refused-condition c.args.form (kinds_in c.args.line.now) c.args.at c.in_ok-head.head c.in_ok-head.ensures.read c.in_err-condition.field-0.0 c.in_err-condition.ensures.read)

pub returns-in_err-weight-clause-read : goal.returns-in_err-weight-clause-read
returns-in_err-weight-clause-read c =
    let p = err_from_is_err_and c.from_residual-in_err-weight.result c.from_residual-in_err-weight.ensures.1 in
    rw (p.1, p.2) (refused-weight c.args.form (kinds_in c.args.line.now) c.args.at c.in_ok-head.head c.in_ok-head.ensures.read c.in_ok-condition.condition c.in_ok-condition.ensures.read c.in_err-weight.field-0.0 c.in_err-weight.ensures.read)

pub returns-in_err-end-clause-read : goal.returns-in_err-end-clause-read
returns-in_err-end-clause-read c =
    let p = err_from_is_err_and c.from_residual-in_err-end.result c.from_residual-in_err-end.ensures.1 in
    rw (p.1, p.2) (refused-arrow c.args.form (kinds_in c.args.line.now) c.args.at c.in_ok-head.head c.in_ok-head.ensures.read c.in_ok-condition.condition c.in_ok-condition.ensures.read
    c.in_ok-weight.weight c.in_ok-weight.ensures.read c.in_err-end.field-0.0 c.in_err-end.ensures.read)

pub returns-in_err-successor-clause-read : goal.returns-in_err-successor-clause-read
returns-in_err-successor-clause-read c =
    let p = err_from_is_err_and c.from_residual-in_err-successor.result c.from_residual-in_err-successor.ensures.1 in
    rw (p.1, p.2) (refused-successor c.args.form (kinds_in c.args.line.now) c.args.at c.in_ok-head.head c.in_ok-head.ensures.read c.in_ok-condition.condition c.in_ok-condition.ensures.read
    c.in_ok-weight.weight c.in_ok-weight.ensures.read c.in_ok-end.end c.in_ok-end.ensures.read c.in_err-successor.field-0.0 c.in_err-successor.ensures.read)
