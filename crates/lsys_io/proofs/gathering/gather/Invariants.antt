use Rattle.std.proofs.Common.{◌≡◌, ◌≤◌, ◌-◌, true, vec_len, vec_capacity}
use Rattle.lsys_io.specs.Feeds.{has_lf}
use Rattle.lsys_syntax.specs.Limits.{most_line_bytes}
use Rattle.lsys_io.proofs.SoFar.{SoFar}
use Rattle.lsys_io.proofs.gathering.gather.Given as goal

-- a part of the line was gathered
abbrev pub invariant-bytes : goal.invariant-bytes
invariant-bytes g l = record {
  so_far : SoFar l.initial.pieces l.pieces (g.S.Source.left l.initial.source) (g.S.Source.left l.source) l.line.items l.count l.room;
  faults : g.S.Source.faults l.source ≡ g.S.Source.faults l.initial.source;
  held : has_lf l.initial.pieces ≡ true → (l.source ≡ l.initial.source) × (has_lf l.pieces ≡ true);
  capacity : most_line_bytes ≤ vec_capacity l.line;
  before : vec_len l.line ≤ l.count;
}

abbrev pub decreases-bytes : goal.decreases-bytes
decreases-bytes g l = l.room - l.count
