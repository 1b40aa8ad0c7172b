use Rattle.std.proofs.Common.{rules, is_none}
use Rattle.std.proofs.lemmas.Iterator.{YieldsList-from_slice}
use Rattle.std.proofs.lemmas.Iterator.Search.{all_from_yields_List}
use Rattle.lsys_spec.specs.Bodies.{body_of}
use Rattle.lsys_bodies.specs.Views.{rule_of}
use Rattle.lsys_pass.proofs.Weights.{none_weighted}
use Rattle.lsys_pass.proofs.posed.have_no_weights.Goals as goal

pub returns : goal.returns
returns c =
    none_weighted c.args.rules.now c.all.result
    (all_from_yields_List (λ r. is_none (body_of (rule_of r)).weight) _ _ _ c.all.ensures.ran
    (YieldsList-from_slice c.args.rules.now cc) (λ x b q k. search rules))
