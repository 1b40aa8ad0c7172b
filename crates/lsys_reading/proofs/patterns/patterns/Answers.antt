use Rattle.std.proofs.Common.{◌==◌, ◌≡◌, ◌≤◌, ◌<◌, Ok, Some, length, ◌++◌, ◌∷◌, [], rules, arith, subst}
use Rattle.std.proofs.lemmas.Result.{err_from_is_err_and}
use Rattle.std.specs.Prelude.{IfSome}
use Rattle.std.proofs.lemmas.Grind.{common_steps}
use Rattle.lsys_reading.specs.Tokens.{kinds_in, size}
use Rattle.lsys_reading.specs.declared.patterns.Standing.{Standing}
use Rattle.lsys_reading.specs.Patterns.{IsSymbolRead}
use Rattle.lsys_reading.proofs.TokenPlaces.{length-kinds}
use Rattle.lsys_reading.proofs.PatternLoops.{first-symbol, patterns-more, patterns-refused}
use Rattle.lsys_reading.proofs.patterns.patterns.Goals as goal

pub returns-in_err-read-clause-read : goal.returns-in_err-read-clause-read
returns-in_err-read-clause-read c =
    let ks = kinds_in c.args.line.now in
    let none : c.is_empty.result ≡ (length c.symbols.symbols.items == 0) = search rules in
    let p = err_from_is_err_and c.from_residual.result c.from_residual.ensures.1 in
    rw (p.1, p.2) (patterns-refused c.args.section ks c.args.at c.symbols.end c.symbols.symbols.items c.symbols.branches c.is_empty.result c.symbols.invariant
    (first-symbol c.is_empty.result c.symbols.symbols.items none) c.in_err-read.field-0.0 c.in_err-read.ensures.read)

pub symbols-preserved : goal.symbols-preserved
symbols-preserved c =
    let ks = kinds_in c.args.line.now in
    let xs = c.symbols.symbols.items in
    let none : c.is_empty.result ≡ (length xs == 0) = search rules in
    let h = c.in_ok-read.ensures in
    let st : Standing = record { section = c.args.section; is_first = c.is_empty.result; branches = c.symbols.branches } in
    let read : IsSymbolRead st ks c.symbols.end (Ok (Some c.in-Some.read)) = subst (λ o. IsSymbolRead st ks c.symbols.end (Ok o)) c.in-Some.is h.read in
    let place : (c.symbols.end < c.in-Some.read.end) × (c.in-Some.read.end ≤ size c.args.line.now) = subst (λ o. IfSome o (λ x. (c.symbols.end < x.end) × (x.end ≤ size c.args.line.now))) c.in-Some.is h.place in
    let pushed : c.push.new.self.items ≡ xs ++ c.in-Some.read.symbol ∷ [] = search rules in
    rw (pushed, c.branches_after-branches.ensures) (patterns-more c.args.section ks c.args.at c.symbols.end xs c.symbols.branches c.is_empty.result c.symbols.invariant
    (first-symbol c.is_empty.result xs none) c.in-Some.read read place.0 (omega (arith, place.1, length-kinds c.args.line.now.tokens.items)))

pub returns-in_default-clause-place : goal.returns-in_default-clause-place
returns-in_default-clause-place c = grind (arith, common_steps)
