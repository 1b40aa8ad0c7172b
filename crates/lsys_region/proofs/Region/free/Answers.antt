use Rattle.std.proofs.Common.{sym, ◌∙◌}
use Rattle.lsys_region.proofs.PoolLemmas.{live_taken, list_at-freed, OthersStay-freed, GivesBack-freed, IsSound-free}
use Rattle.lsys_region.proofs.Region.free.Goals as goal

pub release-requires-clause-taken : goal.release-requires-clause-taken
release-requires-clause-taken g c = live_taken c.self.inside.cells.items c.self.view_is (sym c.run.view_is ∙ sym c.in-Some.ensures.same) c.requires

pub release-requires-clause-rooms : goal.release-requires-clause-rooms
release-requires-clause-rooms g c = c.self.invariant.lie.roomy

pub invariant_of-self : goal.invariant_of-self
invariant_of-self g c = IsSound-free c.self.invariant c.release.ensures.freed c.release.ensures.capacity c.release.ensures.end c.release.ensures.most

pub returns-in-Some-clause-gone : goal.returns-in-Some-clause-gone
returns-in-Some-clause-gone g c = list_at-freed c.self.inside.cells.items c.self.inside.spare (sym c.run.view_is ∙ sym c.in-Some.ensures.same) c.release.ensures.freed

pub returns-in-Some-clause-others : goal.returns-in-Some-clause-others
returns-in-Some-clause-others g c = OthersStay-freed c.self.inside.cells.items c.self.view_is (sym c.run.view_is ∙ sym c.in-Some.ensures.same) c.release.ensures.freed

pub returns-in-Some-clause-given_back : goal.returns-in-Some-clause-given_back
returns-in-Some-clause-given_back g c =
    GivesBack-freed c.self.inside.cells.items c.self.view_is (sym c.run.view_is ∙ sym c.in-Some.ensures.same) c.self.invariant.lie c.release.ensures.freed
