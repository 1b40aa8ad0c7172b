use Rattle.std.proofs.Common.{map}
use Rattle.lsys_io.proofs.Puts.{puts_then, puts_failed}
use Rattle.lsys_syntax.specs.Pieces.{text_of}
use Rattle.lsys_syntax.specs.Strings.{string_pieces}
use Rattle.lsys_syntax.specs.Rules.{formal_pieces}
use Rattle.lsys_bodies.specs.Views.{item_symbol}
use Rattle.lsys_rules.proofs.ShownTexts.{right-text, some_symbols, no_items}
use Rattle.lsys_rules.proofs.show_rules.put_right.Goals as goal

pub returns-in_err-put : goal.returns-in_err-put
returns-in_err-put g c =
    rw (right-text (map item_symbol c.args.items.now) (some_symbols item_symbol c.args.items.now (no_items c.is_empty.result _ c.is_empty.ensures c.if-is_empty.false))) (puts_failed (text_of (string_pieces formal_pieces (map item_symbol c.args.items.now))) c.from_residual.ensures.0 c.in_err-put.ensures)

pub returns : goal.returns
returns g c =
    rw (right-text (map item_symbol c.args.items.now) (some_symbols item_symbol c.args.items.now (no_items c.is_empty.result _ c.is_empty.ensures c.if-is_empty.false))) (puts_then c.in_ok-put.ensures (c.put_symbols.ensures))
