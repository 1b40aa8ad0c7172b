use Rattle.std.proofs.Common.{arith, refl}
use Rattle.std.proofs.lemmas.Grind.{common_steps}
use Rattle.lsys_growth.specs.Letters.{letters_in}
use Rattle.lsys_growth.proofs.LettersPut.{successor_full}
use Rattle.lsys_growth.proofs.letters.put_successor.Goals as goal

pub returns-then-not-branch : goal.returns-then-not-branch
returns-then-not-branch c =
    successor_full (letters_in c.args.letters.now) (letters_in c.loop-template.letters) _ c.args.templates.now c.loop-template.template-index c.template-item.result _ c.in-Module.name
    c.in_ok-put_name.field-0 c.loop-template-test.true c.template-item.is c.in-Module.is (λ rest. refl) c.loop-template.invariant.rest c.if-not-branch.true c.in_ok-put_name.ensures

pub loop-template-preserved : goal.loop-template-preserved
loop-template-preserved c = grind (arith, common_steps)

pub returns : goal.returns
returns c = grind (arith, common_steps)
