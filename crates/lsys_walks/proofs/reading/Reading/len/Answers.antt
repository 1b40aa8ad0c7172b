use Rattle.std.proofs.Common.{length, ap, sym, ◌∙◌}
use Rattle.lsys_walks.proofs.Fronts.{front_length, now_is}
use Rattle.lsys_walks.proofs.reading.Reading.len.Goals as goal

pub returns-then-self : goal.returns-then-self
returns-then-self c =
    sym (ap length (now_is c.self.inside.entries.now c.self.inside.values.now c.self.inside.place c.self.inside.kept c.self.inside.own c.self.inside.agrees c.args.self.now c.self.view_is c.if-self.true) ∙ front_length c.self.inside.entries.now c.self.inside.values.now c.self.inside.place c.self.inside.kept c.self.invariant.0 c.self.invariant.1 c.self.invariant.2)
