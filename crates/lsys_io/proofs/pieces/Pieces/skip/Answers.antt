use Rattle.std.proofs.Common.{◌≤◌, length, slice_range}
use Rattle.lsys_io.proofs.Known.{skip-range}
use Rattle.lsys_io.proofs.pieces.Pieces.skip.Goals as goal

pub returns : goal.returns
returns c =
    let held = slice_range c.self.inside.bytes.items c.self.inside.from c.self.inside.to in
    let within : c.args.n ≤ length held = rw c.self.view_is c.requires in
    rw (← c.self.view_is) (skip-range c.self.inside.bytes.items c.self.inside.from c.self.inside.to c.args.n within)
