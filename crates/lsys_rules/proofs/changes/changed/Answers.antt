use Rattle.std.proofs.Common.{arith, ◌≡◌, subst, sym}
use Rattle.std.specs.Prelude.{IfOk}
use Rattle.std.proofs.lemmas.Grind.{common_steps}
use Rattle.lsys_spec.specs.Edits.{changed}
use Rattle.lsys_reading.specs.declared.parts.CommandParts.TheVariants.{Production, Homomorphism}
use Rattle.lsys_rules.specs.Systems.{system_of}
use Rattle.lsys_rules.proofs.Accepted.{parted_command, production_builds, homomorphism_builds}
use Rattle.lsys_rules.proofs.changes.changed.Goals as goal

pub with_production-requires-clause-checked : goal.with_production-requires-clause-checked
with_production-requires-clause-checked c =
    let line = c.in-Production.labeled in
    production_builds (system_of c.args.parts.now) c.args.tokens.now c.args.edit.now line c.requires.forms c.requires.parted c.requires.accepted c.in-Production.is

pub with_hom_rule-requires-clause-checked : goal.with_hom_rule-requires-clause-checked
with_hom_rule-requires-clause-checked c =
    let line = c.in-Homomorphism.labeled in
    homomorphism_builds (system_of c.args.parts.now) c.args.tokens.now c.args.edit.now line c.requires.forms c.requires.parted c.requires.accepted c.in-Homomorphism.is

pub returns-in-Production : goal.returns-in-Production
returns-in-Production c =
    let s = system_of c.args.parts.now in
    let told = parted_command c.args.tokens.now c.args.edit.now (Production c.in-Production.labeled) c.requires.parted c.in-Production.is in
    subst (λ d. IfOk c.with_production.result (λ next. system_of next ≡ changed s d)) (sym told) c.with_production.ensures

pub returns-in-Homomorphism : goal.returns-in-Homomorphism
returns-in-Homomorphism c =
    let s = system_of c.args.parts.now in
    let told = parted_command c.args.tokens.now c.args.edit.now (Homomorphism c.in-Homomorphism.labeled) c.requires.parted c.in-Homomorphism.is in
    subst (λ d. IfOk c.with_hom_rule.result (λ next. system_of next ≡ changed s d)) (sym told) c.with_hom_rule.ensures

pub with_axiom-requires-clause-place : goal.with_axiom-requires-clause-place
with_axiom-requires-clause-place c = grind (arith, common_steps)

pub with_axiom-requires-clause-few : goal.with_axiom-requires-clause-few
with_axiom-requires-clause-few c = grind (arith, common_steps)
