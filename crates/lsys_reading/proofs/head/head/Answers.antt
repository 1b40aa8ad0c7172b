use Rattle.std.proofs.lemmas.Result.{err_from_is_err_and}
use Rattle.lsys_reading.specs.Tokens.{kinds_in}
use Rattle.lsys_reading.proofs.HeadReads.{head-err}
use Rattle.lsys_reading.proofs.head.head.Goals as goal

pub returns-in_err-right-clause-read : goal.returns-in_err-right-clause-read
returns-in_err-right-clause-read c =
    let ks = kinds_in c.args.line.now in
    let p = err_from_is_err_and c.from_residual-in_err-right.result c.from_residual-in_err-right.ensures.1 in
    rw (p.1, p.2) (head-err c.args.form ks c.args.at c.in_ok-left.field-0 c.in_err-right.field-0.0 c.in_ok-left.ensures.read c.in_err-right.ensures.read)
