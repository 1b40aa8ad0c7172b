use Rattle.std.proofs.Common.{◌≡◌, ◌-◌, ◌≤◌, []}
use Rattle.lsys_syntax.specs.Limits.{most_script_bytes}
use Rattle.lsys_io.specs.Reading.{remaining, IsNotRefused}
use Rattle.lsys_cli.specs.Views.{desk_on}
use Rattle.lsys_cli.specs.Ends.{seen}
use Rattle.lsys_cli.proofs.Turns.{SoFar}
use Rattle.lsys_cli.proofs.run.run.Given as goal

-- the lines so far were answered, and the reader goes on
abbrev pub invariant-lines : goal.invariant-lines
invariant-lines g l = record {
  far : SoFar g.D.Derivation.visits (g.D.Derivation.limit_of l.initial.desk.derivation) (g.S.Source.left l.initial.source) l.reader.stage (remaining l.reader (g.S.Source.left l.source)) (seen g.K.Sink.written l.initial.sink l.initial.asked l.initial.visited) (seen g.K.Sink.written l.sink l.asked l.visited)
      (desk_on g.D.Derivation.system_of l.desk) l.tally.refused l.tally.memory l.reader.taken;
  limit : g.D.Derivation.limit_of l.desk.derivation ≡ g.D.Derivation.limit_of l.initial.desk.derivation;
  empty : l.out ≡ [];
  going : IsNotRefused l.reader.stage;
  within : l.reader.taken ≤ most_script_bytes;
  source : g.S.Source.faults l.source ≡ g.S.Source.faults l.initial.source;
  sink : g.K.Sink.faults l.sink ≡ g.K.Sink.faults l.initial.sink;
}

-- how many bytes the lines may still take
abbrev pub decreases-lines : goal.decreases-lines
decreases-lines g l = most_script_bytes - l.reader.taken
