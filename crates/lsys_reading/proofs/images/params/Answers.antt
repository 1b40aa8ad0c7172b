use Rattle.std.proofs.Common.{◌≡◌, ◌++◌, ◌∷◌, [], rules, refl, arith}
use Rattle.std.proofs.lemmas.Result.{err_from_is_err_and}
use Rattle.std.proofs.lemmas.Grind.{common_steps}
use Rattle.lsys_reading.specs.Tokens.{kinds_in}
use Rattle.lsys_reading.specs.declared.glyph.Separator.TheVariants.{Comma, Close}
use Rattle.lsys_reading.proofs.TokenPlaces.{length-kinds}
use Rattle.lsys_reading.proofs.ImageLaws.{spans-push, params-more, params-done, params-refused}
use Rattle.lsys_reading.proofs.images.params.Goals as goal

pub returns-in_err-read-clause-read : goal.returns-in_err-read-clause-read
returns-in_err-read-clause-read c =
    let ks = kinds_in c.args.line.now in
    let p = err_from_is_err_and c.from_residual.result c.from_residual.ensures.1 in
    rw (p.1, p.2) (params-refused ks c.args.at c.params.end c.params.params.items c.in_err-read.field-0.0 c.params.invariant c.in_err-read.ensures.read)

pub returns-then-eq-clause-read : goal.returns-then-eq-clause-read
returns-then-eq-clause-read c =
    let ks = kinds_in c.args.line.now in
    let close : c.in_ok-read.read.separator ≡ Close = search rules in
    let pushed : c.push.new.self.items ≡ c.params.params.items ++ c.in_ok-read.read.span ∷ [] = search rules in
    params-done ks c.args.at c.params.end c.params.params.items c.in_ok-read.read c.params.invariant c.in_ok-read.ensures.read close (record { params = c.push.new.self; end = _ }) pushed refl

pub returns-then-eq-clause-spans : goal.returns-then-eq-clause-spans
returns-then-eq-clause-spans c =
    let ks = kinds_in c.args.line.now in
    let pushed : c.push.new.self.items ≡ c.params.params.items ++ c.in_ok-read.read.span ∷ [] = search rules in
    rw pushed (spans-push ks c.params.params.items c.in_ok-read.read.span c.params.invariant.spans c.in_ok-read.ensures.span)

pub returns-then-eq-clause-place : goal.returns-then-eq-clause-place
returns-then-eq-clause-place c =
    let w = c.in_ok-read.ensures.place in
    let a = c.params.invariant.after in
    (omega (arith, a, w.0), w.1)

pub params-preserved : goal.params-preserved
params-preserved c =
    let ks = kinds_in c.args.line.now in
    let w = c.in_ok-read.ensures.place in
    let comma : c.in_ok-read.read.separator ≡ Comma = search rules in
    let pushed : c.push.new.self.items ≡ c.params.params.items ++ c.in_ok-read.read.span ∷ [] = search rules in
    rw pushed (params-more ks c.args.at c.params.end c.params.params.items c.in_ok-read.read c.params.invariant c.in_ok-read.ensures.read comma c.in_ok-read.ensures.span w.0 (omega (arith, w.1, length-kinds c.args.line.now.tokens.items)))

pub param-requires : goal.param-requires
param-requires c = grind (arith, common_steps)
