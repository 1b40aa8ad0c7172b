use Rattle.std.proofs.Common.{◌≡◌, map, take}
use Rattle.lsys_expr.proofs.build.kinds_in.Given as goal

abbrev pub invariant-loop-token : goal.invariant-loop-token
invariant-loop-token l = l.kinds.items ≡ map (λ t. t.kind) (take l.token-index l.tokens)
