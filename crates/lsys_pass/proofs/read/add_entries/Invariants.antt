use Rattle.std.proofs.Common.{◌≡◌, ◌++◌, take}
use Rattle.lsys_reads.specs.Relations.{SettledStay}
use Rattle.lsys_pass.specs.Read.{entries_tags, pairs_of}
use Rattle.lsys_pass.proofs.read.add_entries.Given as goal

abbrev pub invariant-loop-entry : goal.invariant-loop-entry
invariant-loop-entry l = record {
  settled : SettledStay l.fn.reads l.reads;
  is : l.reads.pending ≡ l.fn.reads.pending ++ pairs_of l.reader (entries_tags (take l.entry-index l.entries));
}
