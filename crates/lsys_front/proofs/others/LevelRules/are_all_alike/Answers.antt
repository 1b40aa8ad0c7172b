use Rattle.lsys_spec.specs.Bodies.{table_at}
use Rattle.lsys_front.specs.Others.{RulesOf}
use Rattle.lsys_front.proofs.AllAlike.{all_alike, some_unlike, told_old, told_new}
use Rattle.lsys_front.proofs.others.LevelRules.are_all_alike.Goals as goal

pub returns-in_ok-are_alike_in-2-clause-alike : goal.returns-in_ok-are_alike_in-2-clause-alike
returns-in_ok-are_alike_in-2-clause-alike c = λ t.
    let r = c.args.self.now in
    let q : RulesOf = record { old = c.self.inside.old_system.now; new = c.self.inside.new_system.now; level = c.self.inside.level } in
    all_alike r
    (told_old r q _ _ c.self.view_is c.in_ok-are_alike_in.ensures.alike c.if-branch.true)
    (told_new r q c.are_alike_in.new.self _ _ c.self.view_is c.are_alike_in.ensures.same c.in_ok-are_alike_in-2.ensures.alike t)

pub returns-in_ok-are_alike_in-2-clause-other : goal.returns-in_ok-are_alike_in-2-clause-other
returns-in_ok-are_alike_in-2-clause-other c = λ e.
    let r = c.args.self.now in
    let q : RulesOf = record { old = c.self.inside.old_system.now; new = c.self.inside.new_system.now; level = c.self.inside.level } in
    some_unlike r (table_at r.new.schedule r.level) r.new.rules (told_new r q c.are_alike_in.new.self _ _ c.self.view_is c.are_alike_in.ensures.same c.in_ok-are_alike_in-2.ensures.alike e)

pub returns-else-branch-clause-other : goal.returns-else-branch-clause-other
returns-else-branch-clause-other c = λ e.
    let r = c.args.self.now in
    let q : RulesOf = record { old = c.self.inside.old_system.now; new = c.self.inside.new_system.now; level = c.self.inside.level } in
    some_unlike r (table_at r.old.schedule r.level) r.old.rules (told_old r q _ _ c.self.view_is c.in_ok-are_alike_in.ensures.alike e)
