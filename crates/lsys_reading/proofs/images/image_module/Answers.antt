use Rattle.std.proofs.Common.{sym, ◌∙◌, arith}
use Rattle.std.proofs.lemmas.Result.{err_from_is_err_and}
use Rattle.lsys_reading.specs.Tokens.{kinds_in}
use Rattle.lsys_reading.proofs.ImageLaws.{image-module-ok, image-module-err}
use Rattle.lsys_reading.proofs.images.image_module.Goals as goal

pub returns-in_err-params-clause-read : goal.returns-in_err-params-clause-read
returns-in_err-params-clause-read c =
    let p = err_from_is_err_and c.from_residual.result c.from_residual.ensures.1 in
    rw (p.1, p.2) (image-module-err c.args.name (kinds_in c.args.line.now) c.args.at c.peek.result c.peek.ensures (sym c.is_open.ensures ∙ c.if-not-is_open.false) c.in_err-params.field-0.0 c.in_err-params.ensures.read)

pub returns-clause-read : goal.returns-clause-read
returns-clause-read c =
    image-module-ok c.args.name (kinds_in c.args.line.now) c.args.at c.peek.result c.peek.ensures (sym c.is_open.ensures ∙ c.if-not-is_open.false) c.in_ok-params.field-0 c.in_ok-params.ensures.read c.in_ok-params.ensures.some

pub returns-clause-place : goal.returns-clause-place
returns-clause-place c = let w = c.in_ok-params.ensures.place in (omega (arith, w.0), w.1)
