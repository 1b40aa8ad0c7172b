use Rattle.std.proofs.Common.{arith, length}
use Rattle.std.proofs.lemmas.Grind.{common_steps}
use Rattle.lsys_growth.specs.Matrices.{place}
use Rattle.lsys_growth.proofs.ToldRows.{place_below}
use Rattle.lsys_growth.proofs.growing.counts_of.Goals as goal

pub push_count-requires : goal.push_count-requires
push_count-requires c =
    place_below (length c.args.letters.now) (place c.args.row.now) c.loop-place.place c.args.symbols c.loop-place-test.true c.ranges.symbols.fits c.requires.told

pub loop-place-preserved : goal.loop-place-preserved
loop-place-preserved c = grind (arith, common_steps)

pub returns : goal.returns
returns c = grind (arith, common_steps)
