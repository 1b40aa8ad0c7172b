use Rattle.std.proofs.Common.{arith, sym}
use Rattle.std.proofs.lemmas.Grind.{common_steps}
use Rattle.lsys_walks.proofs.Fronts.{front_within, front_fits, length_take}
use Rattle.lsys_walks.proofs.reading.Reading.write.Goals as goal

pub slice_bounds-copied-end-2 : goal.slice_bounds-copied-end-2
slice_bounds-copied-end-2 c = sym (length_take c.self.inside.kept c.self.inside.values.now (front_within c.self.inside.entries.now c.self.inside.values.now c.self.inside.place c.self.inside.kept c.self.invariant.0 c.self.invariant.1 c.self.invariant.2))

pub copied-requires : goal.copied-requires
copied-requires c = front_fits c.self.inside.entries.now c.self.inside.values.now c.self.inside.place c.self.inside.kept c.self.invariant.0 c.self.invariant.1 c.self.invariant.2

pub invariant_of-self-2 : goal.invariant_of-self-2
invariant_of-self-2 c = grind (arith, common_steps)
