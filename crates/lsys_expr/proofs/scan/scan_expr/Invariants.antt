use Rattle.std.proofs.Common.{◌≡◌, drop}
use Rattle.lsys_text.specs.Tokens.{kind_row}
use Rattle.lsys_expr.proofs.Walk.{Reached}
use Rattle.lsys_expr.proofs.scan.scan_expr.Given as goal

abbrev pub invariant-loop-ahead : goal.invariant-loop-ahead
invariant-loop-ahead l = record {
  items : l.token-items ≡ drop l.from l.tokens;
  reached : Reached (drop l.from (kind_row l.tokens)) l.ahead l.scan.awaited l.scan.levels;
}
