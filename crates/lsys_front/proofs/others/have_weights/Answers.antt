use Rattle.std.proofs.Common.{rules, is_some, ◌∙◌}
use Rattle.std.proofs.lemmas.Iterator.{YieldsList-from_slice}
use Rattle.std.proofs.lemmas.Iterator.Search.{any_from_yields_List}
use Rattle.lsys_spec.specs.Bodies.{body_of}
use Rattle.lsys_bodies.specs.Views.{rule_of}
use Rattle.lsys_front.proofs.Alike.{weights_among}
use Rattle.lsys_front.proofs.others.have_weights.Goals as goal

pub returns : goal.returns
returns c =
    any_from_yields_List (λ r. is_some (body_of (rule_of r)).weight) _ _ _ c.any.ensures.ran (YieldsList-from_slice c.args.rules.now cc) (λ x b q k. search rules)
    ∙ weights_among c.args.rules.now
