use Rattle.std.proofs.Common.{sym, ◌∙◌}
use Rattle.lsys_syntax.specs.RuleMachine.{InExpr, expr_start}
use Rattle.lsys_syntax.proofs.RulePoints.{line-rule, rule-expr, state-point}
use Rattle.lsys_syntax.proofs.law_of_rule_parts.Goals as goal

pub returns-clause-lines : goal.returns-clause-lines
returns-clause-lines c = line-rule

pub returns-clause-expressions : goal.returns-clause-expressions
returns-clause-expressions c = λ m spot n ks. sym (state-point m n (InExpr spot expr_start) ks) ∙ rule-expr m spot n ks
