use Rattle.std.proofs.Common.{◌∙◌, ap, fold, []}
use Rattle.lsys_spec.specs.Draws.{child_key_of}
use Rattle.lsys_spec.proofs.Keys.{key_from}
use Rattle.lsys_spec.proofs.draws.law_of_unique_keys.Goals as goal

pub returns : goal.returns
returns c seed key axiom_rule child_rule place below =
    key_from key place (child_rule place) [] below ∙ ap (λ k. fold child_key_of k below) (axiom_rule place)
