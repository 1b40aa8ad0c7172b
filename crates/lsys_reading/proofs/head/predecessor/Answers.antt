use Rattle.std.proofs.Common.{◌≡◌, ◌==◌, length, sym, ◌∙◌}
use Rattle.std.proofs.lemmas.Result.{err_from_is_err_and}
use Rattle.std.proofs.Common.{rules}
use Rattle.lsys_reading.specs.Tokens.{kinds_in}
use Rattle.lsys_reading.proofs.PatternLoops.{first-symbol}
use Rattle.lsys_reading.proofs.HeadReads.{first-read, second-read, second-err}
use Rattle.lsys_reading.proofs.head.predecessor.Goals as goal

pub returns-then-not-takes_left-clause-read : goal.returns-then-not-takes_left-clause-read
returns-then-not-takes_left-clause-read c =
    let ks = kinds_in c.args.line.now in
    let a = c.in_ok-first.first in
    let none : c.is_empty.result ≡ (length a.symbols.items == 0) = search rules in
    first-read c.args.form ks c.args.at c.first_section.result c.first_section.ensures a c.in_ok-first.ensures.read c.is_empty.result c.peek.result c.peek.ensures (first-symbol c.is_empty.result a.symbols.items none)
    c.new.result.items c.new.ensures.items c.single.result (sym c.takes_left.ensures ∙ c.if-not-takes_left.true) c.single.ensures

pub returns-in_err-second-clause-read : goal.returns-in_err-second-clause-read
returns-in_err-second-clause-read c =
    let ks = kinds_in c.args.line.now in
    let a = c.in_ok-first.first in
    let none : c.is_empty.result ≡ (length a.symbols.items == 0) = search rules in
    let p = err_from_is_err_and c.from_residual-in_err-second.result c.from_residual-in_err-second.ensures.1 in
    rw (p.1, p.2) (second-err c.args.form ks c.args.at c.first_section.result c.first_section.ensures a c.in_ok-first.ensures.read c.is_empty.result c.peek.result c.peek.ensures (first-symbol c.is_empty.result a.symbols.items none)
    (sym c.takes_left.ensures ∙ c.if-not-takes_left.false) c.in_err-second.field-0.0 c.in_err-second.ensures.read)

pub returns-clause-read : goal.returns-clause-read
returns-clause-read c =
    let ks = kinds_in c.args.line.now in
    let a = c.in_ok-first.first in
    let none : c.is_empty.result ≡ (length a.symbols.items == 0) = search rules in
    second-read c.args.form ks c.args.at c.first_section.result c.first_section.ensures a c.in_ok-first.ensures.read c.is_empty.result c.peek.result c.peek.ensures (first-symbol c.is_empty.result a.symbols.items none)
    (sym c.takes_left.ensures ∙ c.if-not-takes_left.false) c.in_ok-second.second c.in_ok-second.ensures.read c.single-2.result c.single-2.ensures
