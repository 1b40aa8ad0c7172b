-- Whether rules have weights.
use Rattle.std.proofs.Common.{◌≡◌, Bool, true, false, List, [], ◌∷◌, map, Option, Some, None, refl, sym, ap, ◌∙◌}
use Rattle.std.specs.Prelude.{◌↔◌, ◌&&◌, IsTrue, is_none, option_map}
use Rattle.std.specs.List.{list_all}
use Rattle.lsys_syntax.specs.Rules.{Production}
use Rattle.lsys_spec.specs.Systems.{Each}
use Rattle.lsys_spec.specs.Bodies.{body_of}
use Rattle.lsys_bodies.specs.declared.rule.Rule.{Rule}
use Rattle.lsys_bodies.specs.Views.{rule_of, as_production}

none_there : {A B : Type 0} (f : A → B) (o : Option A) → is_none (option_map f o) ≡ true → o ≡ None
none_there f None h = refl
none_there f (Some x) h = cc

none_here : {A B : Type 0} (f : A → B) (o : Option A) → o ≡ None → is_none (option_map f o) ≡ true
none_here f o e = ap (λ p. is_none (option_map f p)) e

both : (a b : Bool) → (a && b) ≡ true → (a ≡ true) × (b ≡ true)
both true b h = (refl, h)
both false b h = cc

of_both : (a b : Bool) → a ≡ true → b ≡ true → (a && b) ≡ true
of_both a b e f = ap (λ c. c && b) e ∙ f

abbrev unweighted : Rule → Bool
unweighted r = is_none (body_of (rule_of r)).weight

none_from : (rs : List Rule) → list_all unweighted rs ≡ true → Each (λ (p : Production). p.rule.weight ≡ None)
    (map as_production rs)
none_from [] h = tt
none_from (r ∷ rs) h = let b = both (unweighted r) (list_all unweighted rs) h in
    (none_there _ (rule_of r).weight b.0, none_from rs b.1)

none_to : (rs : List Rule) → Each (λ (p : Production). p.rule.weight ≡ None) (map as_production rs)
    → list_all unweighted rs ≡ true
none_to [] h = refl
none_to (r ∷ rs) h = of_both (unweighted r) (list_all unweighted rs) (none_here _ (rule_of r).weight h.0) (none_to rs h.1)

pub none_weighted : (rs : List Rule) (b : Bool) → b ≡ list_all unweighted rs → IsTrue b ↔ Each
    (λ (p : Production). p.rule.weight ≡ None) (map as_production rs)
none_weighted rs b e = (λ h. none_from rs (sym e ∙ h), λ h. e ∙ none_to rs h)
