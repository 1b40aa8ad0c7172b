use Rattle.std.proofs.Common.{◌++◌, codes}
use Rattle.lsys_io.proofs.Puts.{puts_then, puts_failed}
use Rattle.lsys_syntax.specs.Pieces.{text_of}
use Rattle.lsys_syntax.specs.Strings.{Module, symbol_pieces}
use Rattle.lsys_syntax.specs.Rules.{formal_pieces, right_pieces, successor_pieces}
use Rattle.lsys_bodies.specs.Views.{as_rule}
use Rattle.lsys_rules.specs.Showing.{expr_after}
use Rattle.lsys_rules.proofs.ShownTexts.{rule-text}
use Rattle.lsys_rules.proofs.show_rules.put_body.Goals as goal

pub returns-in_err-put_left : goal.returns-in_err-put_left
returns-in_err-put_left g c =
    let r = as_rule c.args.body.now in
    rw (rule-text r) (puts_failed (text_of (symbol_pieces formal_pieces (Module r.name r.formals)) ++ (text_of (right_pieces r.right) ++ (expr_after (codes " : ") r.condition ++ (expr_after (codes " @ ") r.weight ++ (codes " =>" ++ (text_of (successor_pieces r.successor))))))) c.from_residual.ensures.0 (rw c.deref.ensures.value at c.in_err-put_left.ensures))

pub returns-in_err-put_symbol : goal.returns-in_err-put_symbol
returns-in_err-put_symbol g c =
    let r = as_rule c.args.body.now in
    rw (rule-text r) (puts_then (rw c.deref.ensures.value at c.in_ok-put_left.ensures) (puts_failed (text_of (right_pieces r.right) ++ (expr_after (codes " : ") r.condition ++ (expr_after (codes " @ ") r.weight ++ (codes " =>" ++ (text_of (successor_pieces r.successor)))))) c.from_residual-in_err-put_symbol.ensures.0 c.in_err-put_symbol.ensures.put))

pub returns-in_err-put_right : goal.returns-in_err-put_right
returns-in_err-put_right g c =
    let r = as_rule c.args.body.now in
    rw (rule-text r) (puts_then (rw c.deref.ensures.value at c.in_ok-put_left.ensures) (puts_then c.in_ok-put_symbol.ensures.put (puts_failed (expr_after (codes " : ") r.condition ++ (expr_after (codes " @ ") r.weight ++ (codes " =>" ++ (text_of (successor_pieces r.successor))))) c.from_residual-in_err-put_right.ensures.0 (rw c.deref-2.ensures.value at c.in_err-put_right.ensures))))

pub returns-in_err-put_option : goal.returns-in_err-put_option
returns-in_err-put_option g c =
    let r = as_rule c.args.body.now in
    rw (rule-text r) (puts_then (rw c.deref.ensures.value at c.in_ok-put_left.ensures) (puts_then c.in_ok-put_symbol.ensures.put (puts_then (rw c.deref-2.ensures.value at c.in_ok-put_right.ensures) (puts_failed (expr_after (codes " @ ") r.weight ++ (codes " =>" ++ (text_of (successor_pieces r.successor)))) c.from_residual-in_err-put_option.ensures.0 c.in_err-put_option.ensures))))

pub returns-in_err-put_option-2 : goal.returns-in_err-put_option-2
returns-in_err-put_option-2 g c =
    let r = as_rule c.args.body.now in
    rw (rule-text r) (puts_then (rw c.deref.ensures.value at c.in_ok-put_left.ensures) (puts_then c.in_ok-put_symbol.ensures.put (puts_then (rw c.deref-2.ensures.value at c.in_ok-put_right.ensures) (puts_then c.in_ok-put_option.ensures (puts_failed (codes " =>" ++ (text_of (successor_pieces r.successor))) c.from_residual-in_err-put_option-2.ensures.0 c.in_err-put_option-2.ensures)))))

pub returns-in_err-put : goal.returns-in_err-put
returns-in_err-put g c =
    let r = as_rule c.args.body.now in
    rw (rule-text r) (puts_then (rw c.deref.ensures.value at c.in_ok-put_left.ensures) (puts_then c.in_ok-put_symbol.ensures.put (puts_then (rw c.deref-2.ensures.value at c.in_ok-put_right.ensures) (puts_then c.in_ok-put_option.ensures (puts_then c.in_ok-put_option-2.ensures (puts_failed (text_of (successor_pieces r.successor)) c.from_residual-in_err-put.ensures.0 c.in_err-put.ensures))))))

pub returns : goal.returns
returns g c =
    let r = as_rule c.args.body.now in
    rw (rule-text r) (puts_then (rw c.deref.ensures.value at c.in_ok-put_left.ensures) (puts_then c.in_ok-put_symbol.ensures.put (puts_then (rw c.deref-2.ensures.value at c.in_ok-put_right.ensures) (puts_then c.in_ok-put_option.ensures (puts_then c.in_ok-put_option-2.ensures (puts_then c.in_ok-put.ensures (rw c.deref-3.ensures.value at c.put_successor.ensures)))))))
