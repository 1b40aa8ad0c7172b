use Rattle.std.proofs.Common.{sym, subst}
use Rattle.lsys_reads.specs.Seats.{HasSeat}
use Rattle.lsys_pass.specs.Passes.{PassView}
use Rattle.lsys_pass.specs.Fresh.{WasAsked, AreNextParents}
use Rattle.lsys_pass.proofs.Marked.{was_told_as}
use Rattle.lsys_pass.proofs.pass.Pass.find_parents.Goals as goal

pub returns-clause-found : goal.returns-clause-found
returns-clause-found g c =
    let x = subst (λ (v : PassView). AreNextParents v c.args.level c.in_ok-parents.parents.list.items) (sym c.self.view_is) c.in_ok-parents.ensures.found in
    record { parents = x.parents; there = x.there; wants = x.wants; others = x.others }

pub returns-clause-asked : goal.returns-clause-asked
returns-clause-asked g c =
    let a = subst (λ (v : PassView). WasAsked v c.args.level) (sym c.self.view_is) c.next_parents.ensures.asked in
    was_told_as _ c.tell_open.new.self.rest.items c.tell_open.new.self.made.items c.in_ok-parents.parents.is_open c.args.level c.tell_open.ensures.rest c.tell_open.ensures.made a

pub returns-clause-keeps : goal.returns-clause-keeps
returns-clause-keeps g c = λ k h. subst (λ (v : PassView). HasSeat v.seats k) (sym c.self.view_is) (c.next_parents.ensures.keeps k h)
