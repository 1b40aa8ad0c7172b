use Rattle.std.proofs.Common.{sym, subst}
use Rattle.lsys_flat.specs.Drafts.{CanAddNext}
use Rattle.lsys_flat.proofs.DraftingFirst.{longer}
use Rattle.lsys_flat.proofs.draft.Draft.add_level.Goals as goal

pub returns-clause-added : goal.returns-clause-added
returns-clause-added g c =
    let can = subst (CanAddNext c.args.self.now) c.in-Some.is c.requires in
    rw c.in-Some.is
    (longer c.in-Some.next c.args.self.now c.self.inside.revision c.add_level.new.self _ _ c.self.inside.room c.self.inside.asked c.self.inside.all c.len.result (sym c.self.view_is) c.len.ensures can c.in_ok-add_level.ensures.added c.in_ok-add_level.ensures.olds
    c.in_ok-add_level.ensures.above.0 c.in_ok-add_level.ensures.above.1)
