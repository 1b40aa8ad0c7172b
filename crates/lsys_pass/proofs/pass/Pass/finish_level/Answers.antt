use Rattle.std.proofs.Common.{◌<◌, sym, subst, ap, ◌∙◌, arith}
use Rattle.std.proofs.lemmas.Result.{err_from_is_err_and}
use Rattle.lsys_pass.specs.Passes.{PassView, IsPass}
use Rattle.lsys_pass.specs.Moves.{SameRun}
use Rattle.lsys_pass.specs.Fresh.{WasAsked}
use Rattle.lsys_pass.proofs.Coming.{was_asked, run_on, finishes}
use Rattle.lsys_pass.proofs.Exact.{fault_refuses, fault_exact, limit_refuses, limit_exact, memory_exact, made_exact}
use Rattle.lsys_pass.proofs.pass.Pass.finish_level.Goals as goal

pub make_next-requires-clause-asked : goal.make_next-requires-clause-asked
make_next-requires-clause-asked g c =
    was_asked c.args.self.now c.fail-2.new.self c.in-Level.level (subst (λ (v : PassView). IsPass v) c.self.view_is c.self.invariant) (ap (λ (v : PassView). v.state) (sym c.self.view_is) ∙ c.in-Level.is) c.requires.pending c.in_default-fault_refusal.ensures
    c.fail-2.ensures.same

pub overflow_add-next : goal.overflow_add-next
overflow_add-next g c =
    let v : PassView = c.args.self.now in
    let a : WasAsked c.fail-2.new.self c.in-Level.level = was_asked v c.fail-2.new.self c.in-Level.level (subst (λ (v : PassView). IsPass v) c.self.view_is c.self.invariant) (ap (λ (v : PassView). v.state) (sym c.self.view_is) ∙ c.in-Level.is) c.requires.pending c.in_default-fault_refusal.ensures c.fail-2.ensures.same in
    let below : c.in-Level.level < c.fail-2.new.self.next.depth = a.asked.at.tree.below in
    let depth = c.depth-depth.ensures in
    let few = c.depth-depth.type_inv in
    omega (arith, below, depth, few)

pub make_next-requires-clause-few : goal.make_next-requires-clause-few
make_next-requires-clause-few g c =
    let v : PassView = c.args.self.now in
    let a : WasAsked c.fail-2.new.self c.in-Level.level = was_asked v c.fail-2.new.self c.in-Level.level (subst (λ (v : PassView). IsPass v) c.self.view_is c.self.invariant) (ap (λ (v : PassView). v.state) (sym c.self.view_is) ∙ c.in-Level.is) c.requires.pending c.in_default-fault_refusal.ensures c.fail-2.ensures.same in
    let below : c.in-Level.level < c.fail-2.new.self.next.depth = a.asked.at.tree.below in
    let depth = c.depth-depth.ensures in
    let few = c.depth-depth.type_inv in
    omega (arith, below, depth, few)

pub returns-clause-finishes : goal.returns-clause-finishes
returns-clause-finishes g c =
    let u : PassView = c.args.self.now in
    let v : PassView = c.fail-2.new.self in
    let x : PassView = c.make_next.new.self in
    let run : SameRun u x = run_on u v x c.fail-2.ensures.fails.run c.make_next.ensures.run in
    let renewed = c.in_ok-make_next.ensures.renewed ∙ ap (λ (y : PassView). y.renewed) c.fail-2.ensures.same in
    finishes u x c.come_to.new.self c.in-Level.level (ap (λ (v : PassView). v.state) (sym c.self.view_is) ∙ c.in-Level.is) run renewed c.come_to.ensures.run c.in_ok-come_to.ensures.renewed c.in_ok-come_to.ensures.comes

pub returns-in-Some-clause-refusal : goal.returns-in-Some-clause-refusal
returns-in-Some-clause-refusal g c =
    fault_refuses c.args.self.now c.in-Level.level (subst (λ (v : PassView). IsPass v) c.self.view_is c.self.invariant) (ap (λ (v : PassView). v.state) (sym c.self.view_is) ∙ c.in-Level.is) c.in-Some.refusal c.in-Some.ensures

pub returns-in-Some-clause-exact : goal.returns-in-Some-clause-exact
returns-in-Some-clause-exact g c =
    fault_exact c.args.self.now c.in-Level.level (subst (λ (v : PassView). IsPass v) c.self.view_is c.self.invariant) (ap (λ (v : PassView). v.state) (sym c.self.view_is) ∙ c.in-Level.is) _ c.in-Some.refusal c.in-Some.ensures

pub returns-in_err-make_next-clause-refusal : goal.returns-in_err-make_next-clause-refusal
returns-in_err-make_next-clause-refusal g c =
    let v : PassView = c.args.self.now in
    let w : PassView = c.fail-2.new.self in
    let t = c.in-Level.level in
    let pass : IsPass v = subst (λ (v : PassView). IsPass v) c.self.view_is c.self.invariant in
    let state = ap (λ (v : PassView). v.state) (sym c.self.view_is) ∙ c.in-Level.is in
    let asked : WasAsked w t = was_asked v w t pass state c.requires.pending c.in_default-fault_refusal.ensures c.fail-2.ensures.same in
    let p = err_from_is_err_and c.from_residual.result c.from_residual.ensures.1 in
    rw (p.1, p.2) (limit_refuses v t pass state w c.fail-2.ensures.same asked c.in_err-make_next.field-0.0 c.in_err-make_next.ensures.refusal)

pub returns-in_err-make_next-clause-exact : goal.returns-in_err-make_next-clause-exact
returns-in_err-make_next-clause-exact g c =
    let v : PassView = c.args.self.now in
    let w : PassView = c.fail-2.new.self in
    let t = c.in-Level.level in
    let pass : IsPass v = subst (λ (v : PassView). IsPass v) c.self.view_is c.self.invariant in
    let state = ap (λ (v : PassView). v.state) (sym c.self.view_is) ∙ c.in-Level.is in
    let asked : WasAsked w t = was_asked v w t pass state c.requires.pending c.in_default-fault_refusal.ensures c.fail-2.ensures.same in
    let p = err_from_is_err_and c.from_residual.result c.from_residual.ensures.1 in
    rw (p.1, p.2) (limit_exact v t pass state w c.fail-2.ensures.same asked _ c.in_err-make_next.field-0.0 c.in_err-make_next.ensures.refusal)

pub returns-in_err-come_to-clause-exact : goal.returns-in_err-come_to-clause-exact
returns-in_err-come_to-clause-exact g c =
    let v : PassView = c.args.self.now in
    let w : PassView = c.fail-2.new.self in
    let t = c.in-Level.level in
    let pass : IsPass v = subst (λ (v : PassView). IsPass v) c.self.view_is c.self.invariant in
    let state = ap (λ (v : PassView). v.state) (sym c.self.view_is) ∙ c.in-Level.is in
    let asked : WasAsked w t = was_asked v w t pass state c.requires.pending c.in_default-fault_refusal.ensures c.fail-2.ensures.same in
    let p = err_from_is_err_and c.from_residual-in_err-come_to.result c.from_residual-in_err-come_to.ensures.1 in
    rw (p.1, p.2) (memory_exact v t pass state w c.fail-2.ensures.same asked _)

pub returns-clause-exact : goal.returns-clause-exact
returns-clause-exact g c =
    let v : PassView = c.args.self.now in
    let w : PassView = c.fail-2.new.self in
    let x : PassView = c.make_next.new.self in
    let run : SameRun v x = run_on v w x c.fail-2.ensures.fails.run c.make_next.ensures.run in
    made_exact v c.in-Level.level (subst (λ (v : PassView). IsPass v) c.self.view_is c.self.invariant) (ap (λ (v : PassView). v.state) (sym c.self.view_is) ∙ c.in-Level.is) _ x run c.in_ok-make_next.ensures.fresh tt
