use Rattle.std.proofs.Common.{arith, ◌≡◌, List, ℕ, true, map, sym, subst, ◌∙◌}
use Rattle.std.specs.Prelude.{Option, Some}
use Rattle.std.proofs.lemmas.Grind.{elements}
use Rattle.lsys_module.specs.Views.{module_name}
use Rattle.lsys_growth.specs.Matrices.{place}
use Rattle.lsys_growth.specs.Growth.{in_class}
use Rattle.lsys_growth.specs.Letters.{AreLettersOf}
use Rattle.lsys_growth.specs.Steps.{IsLevelRow}
use Rattle.lsys_growth.specs.Census.{IsCensus}
use Rattle.lsys_growth.proofs.ToldRows.{told_some}
use Rattle.lsys_growth.proofs.growing.growth.Goals as goal

pub returns-in-Some-2-clause-answer : goal.returns-in-Some-2-clause-answer
returns-in-Some-2-clause-answer g c =
    let s = c.args.system.now in
    let ls = c.in-Some.letters.items in
    let row = c.in_ok-row.row.items in
    let class : in_class s ≡ true = sym c.is_in_class.ensures.class ∙ c.if-not-is_in_class.false in
    let found : AreLettersOf s (Some c.in-Some.letters) = subst (AreLettersOf s) c.in-Some.is c.in_ok-letters.ensures in
    let there : IsLevelRow s (map module_name ls) c.args.level row = subst (λ (l : List (List ℕ)). IsLevelRow s (map module_name l) c.args.level row) c.deref.ensures.value c.in_ok-row.ensures.row in
    let told : IsCensus (map module_name ls) (place row) c.in_ok-growth.field-0 =
    subst (λ (l : List (List ℕ)). IsCensus (map module_name l) (place row) c.in_ok-growth.field-0) c.deref-2.ensures.value
    (subst (λ (r : List (Option ℕ)). IsCensus (map module_name c.deref-2.result.now) (place r) c.in_ok-growth.field-0) c.deref-3.ensures.value c.in_ok-growth.ensures) in
    told_some s c.args.level ls row c.is_in_class.ensures.well class found.0 found.1 there ∙ subst (IsCensus (map module_name ls) (place row)) c.in-Some-2.is told

pub returns-clause-answer : goal.returns-clause-answer
returns-clause-answer g c =
    let s = c.args.system.now in
    let ls = c.in-Some.letters.items in
    let row = c.in_ok-row.row.items in
    let class : in_class s ≡ true = sym c.is_in_class.ensures.class ∙ c.if-not-is_in_class.false in
    let found : AreLettersOf s (Some c.in-Some.letters) = subst (AreLettersOf s) c.in-Some.is c.in_ok-letters.ensures in
    let there : IsLevelRow s (map module_name ls) c.args.level row = subst (λ (l : List (List ℕ)). IsLevelRow s (map module_name l) c.args.level row) c.deref.ensures.value c.in_ok-row.ensures.row in
    let told : IsCensus (map module_name ls) (place row) c.in_ok-growth.field-0 =
    subst (λ (l : List (List ℕ)). IsCensus (map module_name l) (place row) c.in_ok-growth.field-0) c.deref-2.ensures.value
    (subst (λ (r : List (Option ℕ)). IsCensus (map module_name c.deref-2.result.now) (place r) c.in_ok-growth.field-0) c.deref-3.ensures.value c.in_ok-growth.ensures) in
    told_some s c.args.level ls row c.is_in_class.ensures.well class found.0 found.1 there ∙ subst (IsCensus (map module_name ls) (place row)) c.in-None.is told

pub census-requires : goal.census-requires
census-requires g c = grind (arith, elements)
