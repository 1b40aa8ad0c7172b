use Rattle.std.proofs.Common.{ap, sym, ◌∙◌}
use Rattle.lsys_module.specs.Views.{module_name}
use Rattle.lsys_front.specs.Others.{RulesOf, are_alike}
use Rattle.lsys_front.proofs.KnownRules.{same_known, more_known}
use Rattle.lsys_front.proofs.others.LevelRules.are_alike.Goals as goal

pub returns-in-Some-clause-alike : goal.returns-in-Some-clause-alike
returns-in-Some-clause-alike c =
    let a = c.args in
    c.self.invariant.4 (record { name = a.name; arity = a.arity }) c.in-Some.known.now (sym c.in-Some.ensures.value)
    ∙ ap (λ (r : RulesOf). are_alike r.old r.new r.level (module_name a.name) a.arity) c.self.view_is

pub invariant_of-self : goal.invariant_of-self
invariant_of-self c =
    let s = c.self.inside in
    let h = c.self.invariant in
    (h.0, h.1, h.2, h.3, same_known s.known c.insert.new.self s.old_system.now s.new_system.now s.level c.in_err-insert.ensures.err h.4)

pub invariant_of-self-2 : goal.invariant_of-self-2
invariant_of-self-2 c =
    let s = c.self.inside in
    let h = c.self.invariant in
    let a = c.args in
    let told = c.compare-alike.ensures ∙ ap (λ (r : RulesOf). are_alike r.old r.new r.level (module_name a.name) a.arity) (sym c.self.view_is) in
    (h.0, h.1, h.2, h.3, more_known s.known c.insert.new.self s.old_system.now s.new_system.now s.level (record { name = a.name; arity = a.arity }) c.compare-alike.result c.in_ok-insert.ensures.updates.0 told h.4)
