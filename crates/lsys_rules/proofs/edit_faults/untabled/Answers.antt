use Rattle.std.proofs.Common.{◌≡◌, None, not, rules, tests, ◌∙◌, ap, sym, List, ℕ, Bool}
use Rattle.std.specs.List.{position}
use Rattle.std.proofs.lemmas.Iterator.{YieldsList-from_slice}
use Rattle.std.proofs.lemmas.Iterator.Search.{position_from_yields_List}
use Rattle.lsys_spec.specs.Systems.{is_table}
use Rattle.lsys_rules.proofs.Searches.{counted_on, place-from}
use Rattle.lsys_rules.proofs.edit_faults.untabled.Goals as goal

pub returns-in_err-place : goal.returns-in_err-place
returns-in_err-place c =
    let p : List ℕ → Bool = λ w. not (is_table c.args.tables.now w) in
    let found : c.position.result ≡ position p c.args.words.now =
    position_from_yields_List p _ _ c.position.result c.position.ensures.ran (YieldsList-from_slice c.args.words.now cc) (λ x b q k. search (rules, tests)) in
    let none : c.from_residual.result ≡ None = search rules in
    none ∙ ap (counted_on 1) (sym c.in_err-place.was ∙ found) ∙ place-from p 1 c.args.words.now

pub returns : goal.returns
returns c =
    let p : List ℕ → Bool = λ w. not (is_table c.args.tables.now w) in
    let found : c.position.result ≡ position p c.args.words.now =
    position_from_yields_List p _ _ c.position.result c.position.ensures.ran (YieldsList-from_slice c.args.words.now cc) (λ x b q k. search (rules, tests)) in
    ap (counted_on 1) (sym c.in_ok-place.was ∙ found) ∙ place-from p 1 c.args.words.now
