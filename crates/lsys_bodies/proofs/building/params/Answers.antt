use Rattle.std.proofs.Common.{arith, ◌≡◌, ◌++◌, ◌∷◌, [], map, rules}
use Rattle.std.proofs.lemmas.Grind.{common_steps}
use Rattle.lsys_text.specs.Tokens.{kind_row, name_of}
use Rattle.lsys_reading.specs.Spans.{expr_at}
use Rattle.lsys_bodies.specs.Views.{expr_in, tree_in}
use Rattle.lsys_bodies.specs.Building.{tree_at}
use Rattle.lsys_bodies.proofs.Loops.{built-get}
use Rattle.lsys_bodies.proofs.Known.{span-get, known-get}
use Rattle.lsys_bodies.proofs.building.params.Goals as goal

pub expression-requires-clause-span : goal.expression-requires-clause-span
expression-requires-clause-span c = span-get (kind_row c.args.tokens.now) c.args.spans.now c.loop-span.span-index _ c.requires.spans c.loop-span-test.true

pub expression-requires-clause-known : goal.expression-requires-clause-known
expression-requires-clause-known c = known-get (map name_of c.args.formals.now) (kind_row c.args.tokens.now) c.args.spans.now c.loop-span.span-index _ c.requires.known c.loop-span-test.true

pub loop-span-preserved : goal.loop-span-preserved
loop-span-preserved c =
    let ks = kind_row c.args.tokens.now in
    let made = c.loop-span.params.items in
    let pushed : c.push.new.self.items ≡ made ++ c.in_ok-expression.field-0 ∷ [] = search rules in
    rw pushed (record {
      spelled = built-get expr_in (expr_at ks) made c.in_ok-expression.field-0 c.args.spans.now c.loop-span.span-index _ c.loop-span-test.true c.in_ok-expression.ensures.spelled c.loop-span.invariant.spelled;
      trees = built-get tree_in (tree_at (map name_of c.args.formals.now) ks) made c.in_ok-expression.field-0 c.args.spans.now c.loop-span.span-index _ c.loop-span-test.true c.in_ok-expression.ensures.tree c.loop-span.invariant.trees;
    })

pub returns-clause-spelled : goal.returns-clause-spelled
returns-clause-spelled c = grind (arith, common_steps)

pub returns-clause-trees : goal.returns-clause-trees
returns-clause-trees c = grind (arith, common_steps)
