use Rattle.std.proofs.Common.{◌≡◌, map, take, Some, []}
use Rattle.lsys_children.proofs.brood.find_same.Given as goal

abbrev pub invariant-loop-kid : goal.invariant-loop-kid
invariant-loop-kid l = record {
  found : l.found.items ≡ map Some (take l.kid-index l.kids);
  gone : l.gone.items ≡ [];
}
