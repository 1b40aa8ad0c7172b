use Rattle.std.proofs.Common.{◌≡◌, ◌<◌, true, false, sym, ◌∙◌, arith}
use Rattle.lsys_forest.specs.Rows.{place_of_node}
use Rattle.lsys_pass.proofs.refusal.first_of.Goals as goal

pub returns-else-is_before-clause-second : goal.returns-else-is_before-clause-second
returns-else-is_before-clause-second g c =
    let f = c.args.forest.now in
    let not : place_of_node f c.args.two.node < place_of_node f c.args.one.node → ⊥ = λ l. (let same : false ≡ true = sym c.if-is_before.false ∙ c.is_before.ensures.1 l in cc) in
    omega (arith, not)

pub returns-then-is_before-clause-first : goal.returns-then-is_before-clause-first
returns-then-is_before-clause-first g c = let less = c.is_before.ensures.0 c.if-is_before.true in omega (arith, less)
