use Rattle.std.proofs.Common.{◌≡◌, ◌≤◌, drop, length, Ok, Err, rules, arith}
use Rattle.lsys_syntax.specs.ExpressionPlaces.{extent}
use Rattle.lsys_expr.specs.Scanned.{IsExtent}
use Rattle.lsys_reading.specs.Tokens.{kinds_in, size}
use Rattle.lsys_reading.proofs.TokenPlaces.{length-kinds}
use Rattle.lsys_reading.proofs.SpanLaws.{expression-ok, expression-err}
use Rattle.lsys_reading.proofs.span.expression.Goals as goal

pub returns-in-Ok-clause-read : goal.returns-in-Ok-clause-read
returns-in-Ok-clause-read c =
    let ks = kinds_in c.args.line.now in
    let w : c.args.at ≤ length ks = omega (arith, length-kinds c.args.line.now.tokens.items, c.requires.within) in
    let same : c.args.line.now.tokens.items ≡ c.deref.result.now = search rules in
    let scanned : IsExtent c.args.at (extent (drop c.args.at ks)) (Ok c.in-Ok.to) = rw same c.in-Ok.ensures.extent in
    (expression-ok ks c.args.at c.in-Ok.to c.args.line.now.forms w scanned).0

pub returns-in-Ok-clause-span : goal.returns-in-Ok-clause-span
returns-in-Ok-clause-span c =
    let ks = kinds_in c.args.line.now in
    let w : c.args.at ≤ length ks = omega (arith, length-kinds c.args.line.now.tokens.items, c.requires.within) in
    let same : c.args.line.now.tokens.items ≡ c.deref.result.now = search rules in
    let scanned : IsExtent c.args.at (extent (drop c.args.at ks)) (Ok c.in-Ok.to) = rw same c.in-Ok.ensures.extent in
    (expression-ok ks c.args.at c.in-Ok.to c.args.line.now.forms w scanned).1

pub returns-in-Ok-clause-place : goal.returns-in-Ok-clause-place
returns-in-Ok-clause-place c =
    let ks = kinds_in c.args.line.now in
    let w : c.args.at ≤ length ks = omega (arith, length-kinds c.args.line.now.tokens.items, c.requires.within) in
    let same : c.args.line.now.tokens.items ≡ c.deref.result.now = search rules in
    let scanned : IsExtent c.args.at (extent (drop c.args.at ks)) (Ok c.in-Ok.to) = rw same c.in-Ok.ensures.extent in
    let end : c.in-Ok.to ≤ size c.args.line.now = rw same c.in-Ok.ensures.end in
    ((expression-ok ks c.args.at c.in-Ok.to c.args.line.now.forms w scanned).2, end)

pub returns-in-Err-clause-read : goal.returns-in-Err-clause-read
returns-in-Err-clause-read c =
    let ks = kinds_in c.args.line.now in
    let same : c.args.line.now.tokens.items ≡ c.deref.result.now = search rules in
    let scanned : IsExtent c.args.at (extent (drop c.args.at ks)) (Err c.in-Err.refusal) = rw same c.in-Err.ensures.extent in
    rw c.from_place.ensures (expression-err ks c.args.at c.in-Err.refusal scanned)
