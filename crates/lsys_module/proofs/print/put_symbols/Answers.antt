use Rattle.std.proofs.Common.{◌+◌, ◌∙◌, sym, take, drop, false, map, refl}
use Rattle.std.proofs.lemmas.List.{take_all}
use Rattle.lsys_io.proofs.Puts.{puts_nothing, puts_then, puts_failed, puts_answering}
use Rattle.lsys_module.specs.Printing.{symbols_after}
use Rattle.lsys_module.proofs.PrintedTexts.{string-text, string-rest, symbols-step, runs_on-step, last_runs_on}
use Rattle.lsys_module.proofs.print.put_symbols.Goals as goal

pub loop-symbol-init : goal.loop-symbol-init
loop-symbol-init g c = record { put = puts_nothing; runs_on = refl }

pub loop-symbol-preserved : goal.loop-symbol-preserved
loop-symbol-preserved g c =
    let print = g.N.Notation.way.print in
    let symbol = g.N.Notation.way.symbol in
    let symbols = c.args.symbols.now in
    let i = c.loop-symbol.symbol-index in
    record {
      put = rw (symbols-step print symbol false symbols i c.symbol-item.result c.loop-symbol-test.true c.symbol-item.is, ← c.loop-symbol.invariant.runs_on)
          (puts_then c.loop-symbol.invariant.put (puts_answering c.in_ok-runs_on.ensures.put));
      runs_on = c.in_ok-runs_on.ensures.runs_on ∙ sym (runs_on-step symbol false symbols i c.symbol-item.result c.loop-symbol-test.true c.symbol-item.is);
    }

pub returns-in_err-runs_on : goal.returns-in_err-runs_on
returns-in_err-runs_on g c =
    let print = g.N.Notation.way.print in
    let symbol = g.N.Notation.way.symbol in
    let symbols = c.args.symbols.now in
    let i = c.loop-symbol.symbol-index in
    rw (string-rest print symbol symbols (i + 1), symbols-step print symbol false symbols i c.symbol-item.result c.loop-symbol-test.true c.symbol-item.is, ← c.loop-symbol.invariant.runs_on)
    (puts_failed (symbols_after print (last_runs_on false (map symbol (take (i + 1) symbols))) (map symbol (drop (i + 1) symbols)))
    c.from_residual.ensures.0 (puts_then c.loop-symbol.invariant.put c.in_err-runs_on.ensures.put))

pub returns : goal.returns
returns g c =
    let symbol = g.N.Notation.way.symbol in
    rw (string-text g.N.Notation.way.print (map symbol c.args.symbols.now), ← take_all c.loop-symbol.symbol-index c.args.symbols.now c.loop-symbol-test.false) c.loop-symbol.invariant.put
