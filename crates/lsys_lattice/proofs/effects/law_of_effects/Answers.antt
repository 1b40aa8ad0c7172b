use Rattle.lsys_lattice.specs.Effects.{drawn_ends, place_reached}
use Rattle.lsys_lattice.proofs.Moving as moving
use Rattle.lsys_lattice.proofs.effects.law_of_effects.Goals as goal

pub returns-clause-anywhere : goal.returns-clause-anywhere
returns-clause-anywhere c = moving.law_of_effects

pub returns-clause-product : goal.returns-clause-product
returns-clause-product c = moving.effect-append

pub returns-clause-branch : goal.returns-clause-branch
returns-clause-branch c = moving.effect-branch

pub returns-clause-ends : goal.returns-clause-ends
returns-clause-ends c = moving.told-append drawn_ends moving.drawn_from

pub returns-clause-reach : goal.returns-clause-reach
returns-clause-reach c = moving.told-append place_reached moving.reached_from

pub returns-clause-reached : goal.returns-clause-reached
returns-clause-reached c = moving.told_anywhere place_reached moving.reached_from
