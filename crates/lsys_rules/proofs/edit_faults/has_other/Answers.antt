use Rattle.std.proofs.Common.{rules, ◌∙◌, ◌&&◌, not, sym, bytes_eq}
use Rattle.std.proofs.lemmas.Iterator.{YieldsList-from_slice}
use Rattle.std.proofs.lemmas.Iterator.Search.{any_from_yields_List}
use Rattle.lsys_bodies.specs.declared.rule.Rule.{Rule}
use Rattle.lsys_rules.specs.Faults.{labelled_else}
use Rattle.lsys_bodies.specs.Views.{as_production}
use Rattle.lsys_rules.proofs.Tables.{any_same, any_map}
use Rattle.lsys_rules.proofs.edit_faults.has_other.Goals as goal

pub returns : goal.returns
returns c =
    any_from_yields_List (λ (q : Rule). not (bytes_eq q.label c.args.label) && bytes_eq q.table c.args.table) _ _ _ c.any.ensures.ran (YieldsList-from_slice c.args.rules.now cc) (λ x b q k. search rules)
    ∙ any_map (labelled_else c.args.label c.args.table) as_production c.args.rules.now ∙ sym (any_same (labelled_else c.args.label c.args.table) _)
