use Rattle.std.proofs.Common.{subst}
use Rattle.lsys_reads.specs.Names.{holds}
use Rattle.lsys_reads.proofs.OwnRuns.{all_live, others_stay}
use Rattle.lsys_reads.proofs.answer.KeptAnswerKept.release.Goals as goal

pub release-requires : goal.release-requires
release-requires g c = all_live c.args.store.now c.self.inside.answer (λ r h. c.requires.made r (subst (λ a. holds a r) c.self.view_is h))

pub returns-clause-others : goal.returns-clause-others
returns-clause-others g c r h =
    others_stay c.args.store.now c.release.new.store c.self.inside.answer c.release.ensures.others r (λ k. h (subst (λ a. holds a r) c.self.view_is k))
