-- The rules that are left to try.
use Rattle.std.proofs.Common.{◌≡◌, ℕ, ℤ, Bool, true, false, Result, Ok, List, ◌∷◌, map, drop, get_or, length, ◌<◌, ◌+◌, if◌then◌else◌, refl, ap, sym, ◌∙◌}
use Rattle.lsys_syntax.specs.Strings as S
use Rattle.lsys_spec.specs.Systems.{Homomorphism}
use Rattle.lsys_spec.specs.Values.{Arith, judged, ◌and_then◌}
use Rattle.lsys_spec.specs.Bodies.{body_of}
use Rattle.lsys_spec.specs.Levels.{ModuleValue}
use Rattle.lsys_spec.specs.Meaning.{filled}
use Rattle.lsys_spec.specs.Images.{for_module, image_of}
use Rattle.lsys_expr.specs.Answers.{as_meant}
use Rattle.lsys_expr.specs.declared.arith.Arith as code
use Rattle.lsys_rewrite.proofs.After.{drop_item}
use Rattle.lsys_bodies.specs.Views.{homomorphism_of}
use Rattle.lsys_bodies.specs.declared.rule.HomRule.{HomRule}
use Rattle.lsys_hom.specs.Parts.{applies}

abbrev pub by_rule : Homomorphism → List Homomorphism → ModuleValue → Result Bool Arith → Result (List (S.Symbol ℤ)) Arith
by_rule h hs m r = r and_then λ holds. if holds then filled (body_of h.rule).successor m.params else image_of hs m

tried : {A : Type 0} (b : Bool) (r : Result Bool Arith) (x y : Result A Arith)
    → (if b then (r and_then λ holds. if holds then x else y) else y) ≡ ((if b then r else Ok false) and_then λ holds. if holds then x else y)
tried true r x y = refl
tried false r x y = refl

-- whether a rule applies decides what is done with it
pub rule_tried : (h : Homomorphism) (hs : List Homomorphism) (m : ModuleValue) (r : Result Bool Arith) → r ≡ applies m h
    → image_of (h ∷ hs) m ≡ by_rule h hs m r
rule_tried h hs m r e = tried (for_module m h) (judged (body_of h.rule).condition m.params) (filled (body_of h.rule).successor m.params) (image_of hs m) ∙ ap (by_rule h hs m) (sym e)

-- the same of the rule at a place
pub rule_at : (rules : List HomRule) (i : ℕ) (rule : HomRule) (m : ModuleValue) (r : Result Bool code.Arith) → i < length rules → rule ≡ get_or rules i rule
    → as_meant r ≡ applies m (homomorphism_of rule)
    → image_of (map homomorphism_of (drop i rules)) m ≡ by_rule (homomorphism_of rule) (map homomorphism_of (drop (i + 1) rules)) m (as_meant r)
rule_at rules i rule m r h e told =
    ap (λ rs. image_of (map homomorphism_of rs) m) (drop_item rules i rule h e) ∙ rule_tried (homomorphism_of rule) (map homomorphism_of (drop (i + 1) rules)) m (as_meant r) told
