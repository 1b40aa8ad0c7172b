use Rattle.std.proofs.Common.{◌∷◌, ◌++◌, [], codes}
use Rattle.lsys_io.proofs.Puts.{puts_then, puts_failed}
use Rattle.lsys_syntax.specs.Pieces.{text_of}
use Rattle.lsys_syntax.specs.Rules.{rule_pieces}
use Rattle.lsys_bodies.specs.Views.{as_production}
use Rattle.lsys_rules.proofs.ShownTexts.{production-line}
use Rattle.lsys_rules.proofs.show_rules.put_rule.Goals as goal

pub returns-in_err-put : goal.returns-in_err-put
returns-in_err-put g c =
    let p = as_production c.args.rule.now in
    rw (production-line p) (puts_failed (p.table ++ (codes " " ++ (p.label ++ (58 ∷ 32 ∷ (text_of (rule_pieces p.rule) ++ 10 ∷ []))))) c.from_residual.ensures.0 c.in_err-put.ensures)

pub returns-in_err-put_word : goal.returns-in_err-put_word
returns-in_err-put_word g c =
    let p = as_production c.args.rule.now in
    rw (production-line p) (puts_then c.in_ok-put.ensures (puts_failed (codes " " ++ (p.label ++ (58 ∷ 32 ∷ (text_of (rule_pieces p.rule) ++ 10 ∷ [])))) c.from_residual-in_err-put_word.ensures.0 c.in_err-put_word.ensures))

pub returns-in_err-put-2 : goal.returns-in_err-put-2
returns-in_err-put-2 g c =
    let p = as_production c.args.rule.now in
    rw (production-line p) (puts_then c.in_ok-put.ensures (puts_then c.in_ok-put_word.ensures (puts_failed (p.label ++ (58 ∷ 32 ∷ (text_of (rule_pieces p.rule) ++ 10 ∷ []))) c.from_residual-in_err-put-2.ensures.0 c.in_err-put-2.ensures)))

pub returns : goal.returns
returns g c =
    let p = as_production c.args.rule.now in
    rw (production-line p) (puts_then c.in_ok-put.ensures (puts_then c.in_ok-put_word.ensures (puts_then c.in_ok-put-2.ensures ((rw c.get.ensures.body at c.put_labelled.ensures)))))
