use Rattle.std.proofs.Common.{◌≡◌, ◌≤◌, ◌+◌}
use Rattle.lsys_flat.specs.Supplies.{tags_held}
use Rattle.lsys_flat.proofs.Naming.{Completes}
use Rattle.lsys_flat.proofs.tags.TagSupply.name_level.Given as goal

abbrev pub invariant-loop-mate : goal.invariant-loop-mate
invariant-loop-mate l = record {
  completes : Completes l.old l.fn.self.used l.mates l.fn.self.next l.mate-index l.self.next l.tags.items;
  few : tags_held l.self ≤ tags_held l.fn.self + l.mate-index;
  used : l.self.used ≡ l.fn.self.used;
}
