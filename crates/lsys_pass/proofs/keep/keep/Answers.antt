use Rattle.lsys_reads.specs.Levels.{tags_read}
use Rattle.lsys_pass.specs.Read.{entries_tags}
use Rattle.lsys_pass.proofs.Reading.{trace_tags, notes_tags}
use Rattle.lsys_pass.proofs.keep.keep.Goals as goal

pub returns-in-Ok-clause-read : goal.returns-in-Ok-clause-read
returns-in-Ok-clause-read g c =
    notes_tags c.args.readers.now.is_listed c.args.readers.now.reads c.note_reads.new.readers.reads c.node.inside.0 c.args.node (entries_tags c.trace.result.now) (tags_read c.args.store.now c.args.answer)
    c.node.view_is c.in-Ok.ensures.ok (trace_tags c.args.store.now c.args.answer c.trace.result.now c.trace.ensures)
