use Rattle.std.proofs.Common.{codes, map}
use Rattle.lsys_io.proofs.Puts.{puts_then, puts_failed}
use Rattle.lsys_bodies.specs.Views.{pattern_symbol}
use Rattle.lsys_rules.proofs.ShownTexts.{left-text, some_symbols, no_items}
use Rattle.lsys_rules.proofs.show_rules.put_left.Goals as goal

pub returns-in_err-put_symbols : goal.returns-in_err-put_symbols
returns-in_err-put_symbols g c =
    rw (left-text (map pattern_symbol c.args.patterns.now) (some_symbols pattern_symbol c.args.patterns.now (no_items c.is_empty.result _ c.is_empty.ensures c.if-is_empty.false))) (puts_failed (codes " < ") c.from_residual.ensures.0 c.in_err-put_symbols.ensures)

pub returns : goal.returns
returns g c =
    rw (left-text (map pattern_symbol c.args.patterns.now) (some_symbols pattern_symbol c.args.patterns.now (no_items c.is_empty.result _ c.is_empty.ensures c.if-is_empty.false))) (puts_then c.in_ok-put_symbols.ensures (c.put.ensures))
