use Rattle.std.proofs.Common.{◌≡◌, ◌-◌, ◌^◌, ◌<◌, ◌≤◌, ◌++◌, length}
use Rattle.lsys_text.specs.Packed.{unpacked_to, unpacked}
use Rattle.lsys_text.proofs.names.unpacked.Given as goal

abbrev pub invariant-loop-rest : goal.invariant-loop-rest
invariant-loop-rest l = record {
  within : length l.text ≤ 16;
  bound : l.rest < 256 ^ (16 - length l.text);
  bytes : l.text ++ unpacked_to (16 - length l.text) l.rest ≡ unpacked l.number;
}

abbrev pub decreases-loop-rest : goal.decreases-loop-rest
decreases-loop-rest l = l.rest
