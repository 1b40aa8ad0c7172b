use Rattle.std.proofs.Common.{◌≡◌, ◌≤◌, length}
use Rattle.lsys_out.proofs.way.TurtleWay.refusal.Given as goal

-- symbols were passed, and nothing else
abbrev pub invariant-symbols : goal.invariant-symbols
invariant-symbols g l = record {
  modules : l.self-inside.modules ≡ l.initial.self-inside.modules;
  refusal : l.self-inside.image.refusal ≡ l.initial.self-inside.image.refusal;
  fewer : length l.self-inside.image.symbols ≤ length l.initial.self-inside.image.symbols;
}

abbrev pub decreases-symbols : goal.decreases-symbols
decreases-symbols g l = length l.self-inside.image.symbols
