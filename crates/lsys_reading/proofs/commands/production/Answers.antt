use Rattle.std.proofs.Common.{refl, ◌∙◌}
use Rattle.std.proofs.lemmas.Result.{err_from_is_err_and}
use Rattle.lsys_syntax.specs.LineMachine.{ProductionDue}
use Rattle.lsys_syntax.specs.RulePoints.{production_of}
use Rattle.lsys_reading.specs.Tokens.{kinds_in}
use Rattle.lsys_reading.specs.Headings.{production_after}
use Rattle.lsys_reading.proofs.LineParts.{refused-on}
use Rattle.lsys_reading.proofs.commands.production.Goals as goal

pub returns-in_err-rule-clause-rest : goal.returns-in_err-rule-clause-rest
returns-in_err-rule-clause-rest c =
    let p = err_from_is_err_and c.from_residual-in_err-rule.result c.from_residual-in_err-rule.ensures.1 in
    let h = c.in_ok-heading.heading in
    rw (p.1, p.2) (refused-on (kinds_in c.args.line.now) 1 h.end ProductionDue (production_after h) c.in_err-rule.field-0.0 c.in_ok-heading.ensures.heading (c.in_err-rule.ensures.read (production_of c.in_ok-heading.heading.table c.in_ok-heading.heading.label) refl))

pub returns-clause-rest : goal.returns-clause-rest
returns-clause-rest c = c.in_ok-heading.ensures.heading ∙ c.in_ok-rule.ensures.read (production_of c.in_ok-heading.heading.table c.in_ok-heading.heading.label) refl
