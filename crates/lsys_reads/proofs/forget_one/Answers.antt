use Rattle.lsys_reads.proofs.ReadsLemmas.{none_left_of}
use Rattle.lsys_reads.proofs.forget_one.Goals as goal

pub returns-clause-none : goal.returns-clause-none
returns-clause-none c = none_left_of c.args.by_seen.now c.sweep_all.new.by_seen c.args.by_reader.now c.args.reader c.args.gone.now c.run.result.now c.requires.covers c.run.ensures c.sweep_all.ensures.thins c.sweep_all.ensures.lost
