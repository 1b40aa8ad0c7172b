use Rattle.std.proofs.lemmas.Result.{err_from_is_err_and}
use Rattle.lsys_syntax.specs.Rules.{formal_pieces}
use Rattle.lsys_reading.specs.Patterns.{symbol_read}
use Rattle.lsys_bodies.proofs.CountLoops.{symbols, symbol-more, symbol-passed, symbols-done}
use Rattle.lsys_bodies.proofs.many.count_patterns.Goals as goal

pub returns-in_err-counted : goal.returns-in_err-counted
returns-in_err-counted c =
    let xs = c.args.symbols.now in
    let p = err_from_is_err_and c.from_residual.result c.from_residual.ensures.1 in
    rw (p.1, p.2) (symbol-passed formal_pieces symbol_read (symbols formal_pieces symbol_read xs) xs c.loop-symbol.symbol-index c.symbol-item.result c.loop-symbol-test.true c.symbol-item.is c.loop-symbol.invariant c.in_err-counted.ensures)

pub loop-symbol-preserved : goal.loop-symbol-preserved
loop-symbol-preserved c =
    let xs = c.args.symbols.now in
    symbol-more formal_pieces symbol_read (symbols formal_pieces symbol_read xs) xs c.loop-symbol.symbol-index c.symbol-item.result c.loop-symbol-test.true c.symbol-item.is c.loop-symbol.invariant c.in_ok-counted.ensures

pub returns : goal.returns
returns c = symbols-done formal_pieces symbol_read (symbols formal_pieces symbol_read c.args.symbols.now) c.args.symbols.now c.loop-symbol.symbol-index c.loop-symbol-test.false c.loop-symbol.invariant
