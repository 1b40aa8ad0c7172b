use Rattle.std.proofs.Common.{map}
use Rattle.lsys_io.proofs.Puts.{puts_then, puts_failed}
use Rattle.lsys_syntax.specs.Pieces.{text_of}
use Rattle.lsys_syntax.specs.Strings.{string_pieces}
use Rattle.lsys_syntax.specs.Expressions.{expr_pieces}
use Rattle.lsys_bodies.specs.Views.{template_symbol}
use Rattle.lsys_rules.proofs.ShownTexts.{successor-text, some_symbols, no_items}
use Rattle.lsys_rules.proofs.show_rules.put_successor.Goals as goal

pub returns-in_err-put : goal.returns-in_err-put
returns-in_err-put g c =
    rw (successor-text (map template_symbol c.args.templates.now) (some_symbols template_symbol c.args.templates.now (no_items c.is_empty.result _ c.is_empty.ensures c.if-is_empty.false))) (puts_failed (text_of (string_pieces expr_pieces (map template_symbol c.args.templates.now))) c.from_residual.ensures.0 c.in_err-put.ensures)

pub returns : goal.returns
returns g c =
    rw (successor-text (map template_symbol c.args.templates.now) (some_symbols template_symbol c.args.templates.now (no_items c.is_empty.result _ c.is_empty.ensures c.if-is_empty.false))) (puts_then c.in_ok-put.ensures (c.put_symbols.ensures))
