use Rattle.std.proofs.Common.{◌≡◌, ◌≤◌, ◌+◌, length, max}
use Rattle.lsys_syntax.specs.Limits.{most_image_symbols}
use Rattle.lsys_out.specs.Drawings.{last_image}
use Rattle.lsys_out.specs.Nesting.{image_nesting, nesting_from}
use Rattle.lsys_out.proofs.nesting.image_nesting.Given as goal

abbrev pub invariant-loop-seen : goal.invariant-loop-seen
invariant-loop-seen g l = record {
  most : max l.most (nesting_from l.open l.image.symbols) ≡ image_nesting l.system (g.W.LevelView.levels l.view);
  below : l.open ≤ l.most;
  refusal : l.image.refusal ≡ (last_image l.system (g.W.LevelView.levels l.view)).refusal;
  few : l.open + length l.image.symbols ≤ most_image_symbols;
}

abbrev pub decreases-loop-seen : goal.decreases-loop-seen
decreases-loop-seen g l = length l.image.symbols
