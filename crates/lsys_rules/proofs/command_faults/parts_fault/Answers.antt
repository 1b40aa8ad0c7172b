use Rattle.std.proofs.Common.{arith}
use Rattle.std.proofs.lemmas.Grind.{common_steps}
use Rattle.lsys_rules.proofs.RuleNames.{production_tokens, homomorphism_tokens}
use Rattle.lsys_rules.proofs.command_faults.parts_fault.Goals as goal

pub production_fault-requires-clause-room : goal.production_fault-requires-clause-room
production_fault-requires-clause-room c =
    let all = production_tokens c.args.tokens.now c.args.parts.now c.in-Production-Some.labeled c.requires.forms c.in-Production-Some.is-0 c.requires.parted in
    omega (arith, all)

pub homomorphism_fault-requires-clause-room : goal.homomorphism_fault-requires-clause-room
homomorphism_fault-requires-clause-room c =
    let all = homomorphism_tokens c.args.tokens.now c.args.parts.now c.in-Homomorphism-Some.labeled c.requires.forms c.in-Homomorphism-Some.is-0 c.requires.parted in
    omega (arith, all)

pub axiom_fault-requires-clause-place : goal.axiom_fault-requires-clause-place
axiom_fault-requires-clause-place c = grind (arith, common_steps)

pub returns-in-Ignore-default : goal.returns-in-Ignore-default
returns-in-Ignore-default c = grind (arith, common_steps)
