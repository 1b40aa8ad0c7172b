use Rattle.std.proofs.Common.{◌<◌, length, ap, subst, arith}
use Rattle.lsys_growth.specs.Growth.{letters, most_letters}
use Rattle.lsys_growth.specs.Letters.{AreLettersOf}
use Rattle.lsys_growth.proofs.matrix.Matrix.of_table.Goals as goal

pub prove-unreachable-requires : goal.prove-unreachable-requires
prove-unreachable-requires c =
    let e = ap length c.schedule-words.ensures.words in
    let p = c.requires.place in
    let g = c.if-prove.true in
    absurd (omega (arith, e, p, g))

pub unreachable-requires : goal.unreachable-requires
unreachable-requires c =
    let many : most_letters < length (letters c.args.system.now) = subst (AreLettersOf c.args.system.now) c.in-None.is c.in_ok-letters.ensures in
    let few = c.requires.letters in
    absurd (omega (arith, many, few))
