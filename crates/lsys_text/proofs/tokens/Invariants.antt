use Rattle.std.proofs.Common.{◌≡◌, ◌-◌, ◌≤◌, length}
use Rattle.std.specs.Prelude.{All}
use Rattle.lsys_syntax.specs.Tokens as syntax
use Rattle.lsys_text.specs.Tokens.{HasMarkByte, LiesInLine}
use Rattle.lsys_text.specs.Scans.{all_tokens}
use Rattle.lsys_text.proofs.tokens.Given as goal

abbrev pub invariant-loop-found : goal.invariant-loop-found
invariant-loop-found l = record {
  within : l.cursor.place ≤ length l.line;
  marks : All HasMarkByte l.found.items;
  places : All (LiesInLine (length l.line)) l.found.items;
  few : length l.found.items ≤ l.cursor.place;
  read : all_tokens l.line l.found.items l.cursor ≡ syntax.tokens l.line;
}

abbrev pub decreases-loop-found : goal.decreases-loop-found
decreases-loop-found l = length l.line - l.cursor.place
