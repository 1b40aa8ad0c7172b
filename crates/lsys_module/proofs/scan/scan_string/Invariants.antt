use Rattle.std.proofs.Common.{◌≡◌, ◌≤◌, drop}
use Rattle.lsys_text.specs.Tokens.{kind_row}
use Rattle.lsys_module.proofs.ScanSteps.{begun}
use Rattle.lsys_module.specs.Scanning.{refused_from}
use Rattle.lsys_module.proofs.scan.scan_string.Given as goal

-- what the rest of the tokens is refused for, if anything, is what all of them are
abbrev pub invariant-loop-place : goal.invariant-loop-place
invariant-loop-place l = record {
  few : l.progress.branches ≤ l.place;
  same : refused_from l.from begun (drop l.from (kind_row l.tokens)) ≡ refused_from l.place l.progress (drop l.place (kind_row l.tokens));
}
