use Rattle.std.proofs.Common.{◌∷◌, ◌++◌, []}
use Rattle.lsys_io.proofs.Puts.{puts_then, puts_failed}
use Rattle.lsys_syntax.specs.Pieces.{text_of}
use Rattle.lsys_syntax.specs.Rules.{rule_pieces}
use Rattle.lsys_bodies.specs.Views.{as_rule}
use Rattle.lsys_rules.proofs.show_rules.put_labelled.Goals as goal

pub returns-in_err-put_word : goal.returns-in_err-put_word
returns-in_err-put_word g c =
    puts_failed (58 ∷ 32 ∷ [] ++ (text_of (rule_pieces (as_rule c.args.body.now)) ++ (10 ∷ []))) c.from_residual.ensures.0 c.in_err-put_word.ensures

pub returns-in_err-put : goal.returns-in_err-put
returns-in_err-put g c =
    puts_then c.in_ok-put_word.ensures (puts_failed (text_of (rule_pieces (as_rule c.args.body.now)) ++ (10 ∷ [])) c.from_residual-in_err-put.ensures.0 c.in_err-put.ensures)

pub returns-in_err-put_body : goal.returns-in_err-put_body
returns-in_err-put_body g c =
    puts_then c.in_ok-put_word.ensures (puts_then c.in_ok-put.ensures (puts_failed (10 ∷ []) c.from_residual-in_err-put_body.ensures.0 c.in_err-put_body.ensures))

pub returns : goal.returns
returns g c =
    puts_then c.in_ok-put_word.ensures (puts_then c.in_ok-put.ensures (puts_then c.in_ok-put_body.ensures (c.put-2.ensures)))
