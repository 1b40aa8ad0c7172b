use Rattle.std.proofs.Common.{◌≡◌, ◌≤◌, ◌+◌, map, take, length}
use Rattle.std.specs.Prelude.{vec_len, vec_capacity}
use Rattle.lsys_pass.specs.Queues.{fresh_slot}
use Rattle.lsys_pass.proofs.queue.add_slots.Given as goal

abbrev pub invariant-loop-node : goal.invariant-loop-node
invariant-loop-node l = record {
  added : l.slots.items ≡ map fresh_slot (take l.node-index l.nodes);
  room : length l.nodes + vec_len l.slots ≤ vec_capacity l.slots + l.node-index;
}
