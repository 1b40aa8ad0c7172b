use Rattle.std.proofs.Common.{arith, ap}
use Rattle.std.specs.Prelude.{option_map}
use Rattle.std.proofs.lemmas.Grind.{common_steps}
use Rattle.lsys_spec.specs.Draws.{number_base}
use Rattle.lsys_level.specs.Spots.{spots_at}
use Rattle.lsys_flat.proofs.Settled.{spot_at, short_same, short_new}
use Rattle.lsys_flat.proofs.round.Round.settle.Goals as goal

pub take-requires-clause-short : goal.take-requires-clause-short
take-requires-clause-short g c =
    let b = spot_at (spots_at c.args.beside.now.view.now c.args.beside.now.level) c.args.place c.requires.place in
    short_same g.row.L.Denot number_base b.0.seen _ c.in-Some.old.now c.args.found c.in-Same.is (ap (option_map (λ a. a.now)) c.in-Some.is) (c.requires.short b.0 b.1)

pub put-requires-clause-short : goal.put-requires-clause-short
put-requires-clause-short g c =
    let b = spot_at (spots_at c.args.beside.now.view.now c.args.beside.now.level) c.args.place c.requires.place in
    short_new g.row.L.Denot number_base b.0.seen _ c.in-New.answer c.args.found c.in-New.is (c.requires.short b.0 b.1)

pub returns-in-Stays-clause-settled : goal.returns-in-Stays-clause-settled
returns-in-Stays-clause-settled g c = grind (arith, common_steps)

pub returns-in-Stays-clause-fresh : goal.returns-in-Stays-clause-fresh
returns-in-Stays-clause-fresh g c = grind (arith, common_steps)

pub returns-in-Some-clause-settled : goal.returns-in-Some-clause-settled
returns-in-Some-clause-settled g c = grind (arith, common_steps)

pub returns-in-Some-clause-fresh : goal.returns-in-Some-clause-fresh
returns-in-Some-clause-fresh g c = grind (arith, common_steps)

pub returns-in-New-clause-settled : goal.returns-in-New-clause-settled
returns-in-New-clause-settled g c = grind (arith, common_steps)
