use Rattle.std.proofs.Common.{arith, ◌≡◌, ◌++◌, ◌∷◌, [], map, rules}
use Rattle.std.proofs.lemmas.Grind.{common_steps}
use Rattle.lsys_text.specs.Tokens.{kind_row, name_of}
use Rattle.lsys_reading.specs.Images.{image_at}
use Rattle.lsys_bodies.specs.Views.{template_symbol, template_of}
use Rattle.lsys_bodies.specs.Building.{image_tree}
use Rattle.lsys_bodies.proofs.Loops.{built-more}
use Rattle.lsys_bodies.proofs.Known.{image-item, known-item}
use Rattle.lsys_bodies.proofs.building.templates.Goals as goal

pub template-requires-clause-spans : goal.template-requires-clause-spans
template-requires-clause-spans c = image-item (kind_row c.args.tokens.now) c.args.images.now c.loop-image.image-index c.image-item.result c.requires.spans c.loop-image-test.true c.image-item.is

pub template-requires-clause-known : goal.template-requires-clause-known
template-requires-clause-known c = known-item (map name_of c.args.formals.now) (kind_row c.args.tokens.now) c.args.images.now c.loop-image.image-index c.image-item.result c.requires.known c.loop-image-test.true c.image-item.is

pub loop-image-preserved : goal.loop-image-preserved
loop-image-preserved c =
    let ks = kind_row c.args.tokens.now in
    let made = c.loop-image.templates.items in
    let pushed : c.push.new.self.items ≡ made ++ c.in_ok-template.field-0 ∷ [] = search rules in
    rw pushed (record {
      spelled = built-more template_symbol (image_at ks) made c.in_ok-template.field-0 c.args.images.now c.loop-image.image-index c.image-item.result c.loop-image-test.true c.image-item.is c.in_ok-template.ensures.spelled c.loop-image.invariant.spelled;
      trees = built-more template_of (image_tree (map name_of c.args.formals.now) ks) made c.in_ok-template.field-0 c.args.images.now c.loop-image.image-index c.image-item.result c.loop-image-test.true c.image-item.is c.in_ok-template.ensures.trees c.loop-image.invariant.trees;
    })

pub returns-clause-spelled : goal.returns-clause-spelled
returns-clause-spelled c = grind (arith, common_steps)

pub returns-clause-trees : goal.returns-clause-trees
returns-clause-trees c = grind (arith, common_steps)
