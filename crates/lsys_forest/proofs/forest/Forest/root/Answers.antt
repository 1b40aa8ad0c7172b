use Rattle.std.proofs.Common.{subst}
use Rattle.lsys_forest.specs.Groves.{Grove, now_of, changes_in, IsRooted, AreSound}
use Rattle.lsys_forest.proofs.GroveLemmas.{sound_now}
use Rattle.lsys_forest.proofs.forest.Forest.root.Goals as goal

pub returns-clause-sound : goal.returns-clause-sound
returns-clause-sound g c = subst (λ (f : Grove g.row.A.Denot). IsRooted f.root (changes_in f) (now_of f)) c.self.view_is (sound_now c.self.invariant.grove)

pub returns-clause-always : goal.returns-clause-always
returns-clause-always g c = subst (λ (f : Grove g.row.A.Denot). AreSound f.root (changes_in f) (now_of f)) c.self.view_is c.self.invariant.grove.sound
