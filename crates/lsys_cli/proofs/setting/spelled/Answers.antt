use Rattle.std.proofs.Common.{arith, ap, sym, ◌∙◌}
use Rattle.std.proofs.lemmas.Grind.{common_steps}
use Rattle.lsys_cli.proofs.Spelling.{after_first, after_second, firstly, secondly, lastly, both}
use Rattle.lsys_cli.proofs.setting.spelled.Goals as goal

pub returns-in_err-first : goal.returns-in_err-first
returns-in_err-first c = c.from_residual.ensures ∙ sym (ap after_first c.in_err-first.ensures) ∙ firstly c.args.words.now c.if-is_empty.ensures

pub returns-in_err-second : goal.returns-in_err-second
returns-in_err-second c =
    c.from_residual-in_err-second.ensures ∙ sym (ap (after_second c.in_ok-first.first) c.in_err-second.ensures) ∙ secondly c.in_ok-first.first c.in_ok-first.words.now c.if-is_empty-2.ensures
    ∙ sym (ap after_first c.in_ok-first.ensures) ∙ firstly c.args.words.now c.if-is_empty.ensures

pub returns-then-is_empty-3 : goal.returns-then-is_empty-3
returns-then-is_empty-3 c =
    c.together.ensures ∙ both c.in_ok-first.first c.in_ok-second.second c.in_ok-second.words.now c.if-is_empty-3.ensures
    ∙ sym (ap (after_second c.in_ok-first.first) c.in_ok-second.ensures) ∙ secondly c.in_ok-first.first c.in_ok-first.words.now c.if-is_empty-2.ensures
    ∙ sym (ap after_first c.in_ok-first.ensures) ∙ firstly c.args.words.now c.if-is_empty.ensures

pub returns-else-is_empty-3 : goal.returns-else-is_empty-3
returns-else-is_empty-3 c =
    lastly c.in_ok-first.first c.in_ok-second.second c.in_ok-second.words.now c.if-is_empty-3.ensures
    ∙ sym (ap (after_second c.in_ok-first.first) c.in_ok-second.ensures) ∙ secondly c.in_ok-first.first c.in_ok-first.words.now c.if-is_empty-2.ensures
    ∙ sym (ap after_first c.in_ok-first.ensures) ∙ firstly c.args.words.now c.if-is_empty.ensures

pub returns-then-is_empty-2 : goal.returns-then-is_empty-2
returns-then-is_empty-2 c = grind (arith, common_steps)
