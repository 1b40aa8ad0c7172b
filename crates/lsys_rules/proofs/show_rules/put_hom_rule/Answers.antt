use Rattle.std.proofs.Common.{◌∷◌, ◌++◌, []}
use Rattle.lsys_io.proofs.Puts.{puts_then, puts_failed}
use Rattle.lsys_syntax.specs.Pieces.{text_of}
use Rattle.lsys_syntax.specs.Rules.{rule_pieces}
use Rattle.lsys_bodies.specs.Views.{homomorphism_of}
use Rattle.lsys_rules.proofs.ShownTexts.{homomorphism-line}
use Rattle.lsys_rules.proofs.show_rules.put_hom_rule.Goals as goal

pub returns-in_err-put : goal.returns-in_err-put
returns-in_err-put g c =
    let h = homomorphism_of c.args.rule.now in
    rw (homomorphism-line h) (puts_failed (h.label ++ (58 ∷ 32 ∷ (text_of (rule_pieces h.rule) ++ 10 ∷ []))) c.from_residual.ensures.0 c.in_err-put.ensures)

pub returns : goal.returns
returns g c =
    let h = homomorphism_of c.args.rule.now in
    rw (homomorphism-line h) (puts_then c.in_ok-put.ensures ((rw c.get.ensures.body at c.put_labelled.ensures)))
