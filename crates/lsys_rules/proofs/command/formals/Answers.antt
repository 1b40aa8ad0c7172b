use Rattle.std.proofs.Common.{subst, arith}
use Rattle.lsys_text.specs.Tokens.{kind_row}
use Rattle.lsys_bodies.specs.Formals.{AreFormalNames}
use Rattle.lsys_rules.proofs.RuleNames.{production_names, homomorphism_names, production_tokens, homomorphism_tokens, head_room}
use Rattle.lsys_rules.proofs.command.formals.Goals as goal

pub of-requires : goal.of-requires
of-requires c =
    let line = c.in-Production.labeled in
    let all = production_tokens c.args.tokens.now c.args.parts.now line c.requires.forms c.in-Production.is c.requires.parts in
    record { room = omega (arith, all, head_room (kind_row c.args.tokens.now) line.rule, c.production_place-from.ensures) }

pub of-requires-in-Homomorphism : goal.of-requires-in-Homomorphism
of-requires-in-Homomorphism c =
    let line = c.in-Homomorphism.labeled in
    let all = homomorphism_tokens c.args.tokens.now c.args.parts.now line c.requires.forms c.in-Homomorphism.is c.requires.parts in
    record { room = omega (arith, all, head_room (kind_row c.args.tokens.now) line.rule) }

pub returns-in_ok-of-in-Production : goal.returns-in_ok-of-in-Production
returns-in_ok-of-in-Production c =
    let line = c.in-Production.labeled in
    production_names (kind_row c.args.tokens.now) c.args.parts.now line c.in_ok-of-in-Production.field-0 c.in-Production.is c.requires.parts
    (subst (λ n. AreFormalNames n line.rule c.in_ok-of-in-Production.field-0) c.production_place-from.ensures c.in_ok-of-in-Production.ensures)

pub returns-in_ok-of-in-Homomorphism : goal.returns-in_ok-of-in-Homomorphism
returns-in_ok-of-in-Homomorphism c =
    homomorphism_names (kind_row c.args.tokens.now) c.args.parts.now c.in-Homomorphism.labeled c.in_ok-of-in-Homomorphism.field-0 c.in-Homomorphism.is c.requires.parts c.in_ok-of-in-Homomorphism.ensures
