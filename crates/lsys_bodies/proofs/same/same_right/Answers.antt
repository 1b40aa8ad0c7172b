use Rattle.std.proofs.Common.{◌∙◌, sym}
use Rattle.lsys_bodies.proofs.Nests.{same-right}
use Rattle.lsys_bodies.proofs.same.same_right.Goals as goal

pub returns : goal.returns
returns c = c.same_items.ensures ∙ sym (same-right c.args.one.now c.args.other.now c.requires.one c.requires.other)
