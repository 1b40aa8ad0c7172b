use Rattle.std.proofs.Common.{drop}
use Rattle.lsys_bodies.proofs.Searches.{Passes}
use Rattle.lsys_bodies.proofs.unknown.search_expression.Given as goal

abbrev pub invariant-loop-token : goal.invariant-loop-token
invariant-loop-token l = Passes l.formals l.place l.token-items l.end (drop l.token-index l.token-items)
