use Rattle.std.proofs.Common.{◌≡◌, ◌-◌, ◌≤◌, length}
use Rattle.lsys_flat.specs.Supplies.{tags_given}
use Rattle.lsys_flat.proofs.tags.free_from.Given as goal

abbrev pub invariant-loop-tag : goal.invariant-loop-tag
invariant-loop-tag l = record {
  onward : l.next ≤ l.tag;
  same : tags_given l.used l.tag ≡ tags_given l.used l.next;
}

abbrev pub decreases-loop-tag : goal.decreases-loop-tag
decreases-loop-tag l = length l.used - l.tag
