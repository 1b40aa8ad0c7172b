use Rattle.std.proofs.Common.{rules, map, ◌∙◌}
use Rattle.std.proofs.lemmas.Iterator.{YieldsList-from_slice}
use Rattle.std.proofs.lemmas.Iterator.Search.{all_from_yields_List}
use Rattle.lsys_spec.specs.Meaning.{ignores}
use Rattle.lsys_module.specs.Views.{module_name}
use Rattle.lsys_match.proofs.Groups.{all_named}
use Rattle.lsys_front.proofs.filters.are_listed.Goals as goal

pub returns : goal.returns
returns c =
    let others = map module_name c.args.others.now in
    let has = c.in_ok-listed.ensures in
    all_from_yields_List (λ o. ignores others (module_name o)) _ _ _ c.all.ensures.ran (YieldsList-from_slice c.args.names.now cc) (λ x b q k. search (rules, has))
    ∙ all_named others c.args.names.now
