use Rattle.std.proofs.Common.{◌≡◌, ◌+◌, take}
use Rattle.lsys_pass.specs.Sizes.{total_of}
use Rattle.lsys_pass.proofs.sizes.room_under.Given as goal

abbrev pub invariant-loop-size : goal.invariant-loop-size
invariant-loop-size l = l.room + total_of (take l.size-index l.sizes) ≡ l.fn.limit
