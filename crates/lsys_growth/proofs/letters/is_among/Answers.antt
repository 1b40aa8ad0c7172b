use Rattle.std.proofs.Common.{rules, ◌∙◌}
use Rattle.std.proofs.lemmas.Iterator.{YieldsList-from_slice}
use Rattle.std.proofs.lemmas.Iterator.Search.{any_from_yields_List}
use Rattle.lsys_spec.specs.Systems.{same_name}
use Rattle.lsys_module.specs.Views.{module_name}
use Rattle.lsys_growth.proofs.LettersPut.{any_among}
use Rattle.lsys_growth.proofs.letters.is_among.Goals as goal

pub returns : goal.returns
returns c =
    let n = module_name c.args.name in
    any_from_yields_List (λ o. same_name (module_name o) n) _ _ _ c.any.ensures.ran (YieldsList-from_slice c.args.letters.now cc) (λ x b q k. search rules) ∙ any_among n c.args.letters.now
