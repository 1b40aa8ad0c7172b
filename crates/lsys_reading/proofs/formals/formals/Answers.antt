use Rattle.std.proofs.Common.{◌≡◌, ◌++◌, ◌∷◌, [], rules, refl, arith}
use Rattle.std.proofs.lemmas.Result.{err_from_is_err_and}
use Rattle.std.proofs.lemmas.Grind.{common_steps}
use Rattle.lsys_reading.specs.Tokens.{kinds_in}
use Rattle.lsys_reading.specs.declared.glyph.Separator.TheVariants.{Comma, Close}
use Rattle.lsys_reading.proofs.TokenPlaces.{length-kinds}
use Rattle.lsys_reading.proofs.FormalLaws.{formals-more, formals-done, formals-refused, formal-within}
use Rattle.lsys_reading.proofs.formals.formals.Goals as goal

pub returns-in_err-read-clause-read : goal.returns-in_err-read-clause-read
returns-in_err-read-clause-read c =
    let ks = kinds_in c.args.line.now in
    let p = err_from_is_err_and c.from_residual.result c.from_residual.ensures.1 in rw (p.1, p.2) (formals-refused ks c.args.at c.formals.end c.formals.formals.items c.in_err-read.field-0.0 c.formals.invariant c.in_err-read.ensures)

pub returns-then-eq-clause-read : goal.returns-then-eq-clause-read
returns-then-eq-clause-read c =
    let ks = kinds_in c.args.line.now in
    let close : c.in_ok-read.read.separator ≡ Close = search rules in
    let pushed : c.push.new.self.items ≡ c.formals.formals.items ++ c.in_ok-read.read.name ∷ [] = search rules in
    formals-done ks c.args.at c.formals.end c.formals.formals.items c.in_ok-read.read c.formals.invariant c.in_ok-read.ensures close (record { formals = c.push.new.self; end = _ }) pushed refl

pub formals-smaller : goal.formals-smaller
formals-smaller c =
    let ks = kinds_in c.args.line.now in
    omega (arith, formal-within ks c.formals.end c.in_ok-read.read c.in_ok-read.ensures, length-kinds c.args.line.now.tokens.items)

pub formals-preserved : goal.formals-preserved
formals-preserved c =
    let ks = kinds_in c.args.line.now in
    let comma : c.in_ok-read.read.separator ≡ Comma = search rules in
    let pushed : c.push.new.self.items ≡ c.formals.formals.items ++ c.in_ok-read.read.name ∷ [] = search rules in
    rw pushed (formals-more ks c.args.at c.formals.end c.formals.formals.items c.in_ok-read.read c.formals.invariant c.in_ok-read.ensures comma)

pub returns-then-eq-clause-place : goal.returns-then-eq-clause-place
returns-then-eq-clause-place c =
    let ks = kinds_in c.args.line.now in
    let w = formal-within ks c.formals.end c.in_ok-read.read c.in_ok-read.ensures in
    let a = c.formals.invariant.after in
    (omega (arith, a, w), omega (arith, w, length-kinds c.args.line.now.tokens.items))

pub formals-init : goal.formals-init
formals-init c = grind (arith, common_steps)

pub formal-requires : goal.formal-requires
formal-requires c = grind (arith, common_steps)

pub overflow_add-end : goal.overflow_add-end
overflow_add-end c = grind (arith, common_steps)
