use Rattle.std.proofs.Common.{◌≡◌, ℕ, Bool, List, rules, tests, ap, ◌∙◌, length, position, unwrap_or}
use Rattle.std.proofs.lemmas.Iterator.{YieldsList-from_slice}
use Rattle.std.proofs.lemmas.Iterator.Search.{position_from_yields_List}
use Rattle.lsys_spec.specs.Systems.{comes_before, module_name_text}
use Rattle.lsys_module.specs.Views.{module_name}
use Rattle.lsys_growth.proofs.LettersPut.{place_found}
use Rattle.lsys_growth.proofs.letters.place_of.Goals as goal

pub returns-clause-place : goal.returns-clause-place
returns-clause-place c =
    let n = module_name c.args.name in
    let p : List ℕ → Bool = λ l. comes_before (module_name_text n) (module_name_text (module_name l)) in
    let found : c.position.result ≡ position p c.args.letters.now =
    position_from_yields_List p _ _ c.position.result c.position.ensures.ran (YieldsList-from_slice c.args.letters.now cc) (λ x b q k. search (rules, tests)) in
    c.unwrap_or.ensures ∙ ap (λ r. unwrap_or r (length c.args.letters.now)) found ∙ place_found n c.args.letters.now
