use Rattle.std.proofs.Common.{arith}
use Rattle.std.proofs.lemmas.Grind.{common_steps, elements}
use Rattle.lsys_growth.specs.Letters.{letters_in}
use Rattle.lsys_growth.proofs.LettersPut.{axiom_full}
use Rattle.lsys_growth.proofs.letters.put_axiom.Goals as goal

pub returns-then-not-branch : goal.returns-then-not-branch
returns-then-not-branch c =
    axiom_full (letters_in c.args.letters.now) (letters_in c.loop-symbol.letters) _ c.args.symbols.now c.loop-symbol.symbol-index c.in-Module.module c.symbol-item.result
    c.in_ok-put_name.field-0 c.loop-symbol-test.true c.symbol-item.is c.in-Module.is c.loop-symbol.invariant.rest c.if-not-branch.true c.in_ok-put_name.ensures

pub returns-in_err-put_name : goal.returns-in_err-put_name
returns-in_err-put_name c = grind (arith, elements)

pub loop-symbol-preserved : goal.loop-symbol-preserved
loop-symbol-preserved c = grind (arith, common_steps)

pub returns : goal.returns
returns c = grind (arith, common_steps)
