use Rattle.std.specs.Prelude.{IfOk}
use Rattle.std.proofs.Common.{◌∙◌, ◌<◌, ap, sym, subst}
use Rattle.std.proofs.lemmas.Result.{IfOk-weaker}
use Rattle.lsys_spec.specs.Systems.{System}
use Rattle.lsys_pass.specs.Passes.{PassView}
use Rattle.lsys_pass.specs.Others.{IsOthers}
use Rattle.lsys_pass.proofs.Askings.{row_lives, others_some}
use Rattle.lsys_pass.proofs.pass.Pass.find_unlike.Goals as goal

pub unlike_on-requires-clause-live : goal.unlike_on-requires-clause-live
unlike_on-requires-clause-live g c = row_lives _ c.args.level c.self.invariant

pub returns : goal.returns
returns g c =
    let below : c.args.level < c.self.inside.system.depth = subst (λ (v : PassView). c.args.level < v.system.depth) (sym c.self.view_is) c.requires.below in
    let same = c.in_ok-rules.ensures ∙ ap (λ (n : System). record { old = c.self.inside.system; new = n; level = c.args.level }) c.target-system.ensures in
    record {
      others = subst (λ (v : PassView). IfOk c.unlike_on.result (λ others. IsOthers v c.args.level others.items)) c.self.view_is
          (IfOk-weaker c.unlike_on.result _ _ (λ others unlike. others_some _ c.args.level _ others.items below same unlike) c.unlike_on.ensures);
    }
