-- The image of one symbol of the level, as it is kept until its symbols are asked for.
use Rattle.std.specs.Prelude.{◌≡◌, ℕ, ℤ, Bool, false, Option, Some, None, List, [], ◌∷◌, Result, Ok, Err, map, if◌then◌else◌}
use denote.Ref.{Bor}
use Rattle.lsys_syntax.specs.Strings as S
use Rattle.lsys_spec.specs.Systems.{Homomorphism}
use Rattle.lsys_spec.specs.Values as V
use Rattle.lsys_spec.specs.Values.{Arith, judged}
use Rattle.lsys_spec.specs.Bodies.{body_of}
use Rattle.lsys_spec.specs.Levels.{ModuleValue}
use Rattle.lsys_spec.specs.Meaning.{filled}
use Rattle.lsys_spec.specs.Images as meaning
use Rattle.lsys_spec.specs.Images.{for_module, image_of}
use Rattle.lsys_expr.specs.Answers.{arith_of}
use Rattle.lsys_expr.specs.declared.arith.Arith as code
use Rattle.lsys_module.specs.Views.{module_name, string_of, symbol_of}
use Rattle.lsys_module.specs.declared.symbol.Symbol.{Symbol}
use Rattle.lsys_syntax.specs.Smalls.{HaveFewParams}
use Rattle.lsys_bodies.specs.Views.{homomorphism_of, template_of, template_symbol, as_rule}
use Rattle.lsys_bodies.specs.declared.body.Body.{Body}
use Rattle.lsys_bodies.specs.declared.rule.HomRule.{HomRule}
use Rattle.lsys_level.specs.Spots.{Seen, with_lineage}
use Rattle.lsys_hom.specs.Coming.{symbol_image}
use Rattle.lsys_hom.specs.Looks.{in_short, looked_at}
use Rattle.lsys_hom.specs.declared.look.Glance.{Glance}
use Rattle.lsys_hom.specs.Refusals.{refusal_of}
use Rattle.lsys_hom.specs.declared.refusal.ImageRefusal.{ImageRefusal}
use Rattle.lsys_hom.specs.declared.part.Part.{Part}
use Rattle.lsys_hom.specs.declared.part.Part.TheVariants.{Nothing, Single, Successor, Constant}

-- 1. the rule of a module

abbrev pub module_with : List ℕ → List ℤ → ModuleValue
module_with name params = record { name = module_name name; params = params }

-- the rule is for the module, and its condition holds
abbrev pub applies : ModuleValue → Homomorphism → Result Bool Arith
applies m h = if for_module m h then judged (body_of h.rule).condition m.params else Ok false

-- what the module becomes by the rule that was found for it, or without one
abbrev pub image_by : ModuleValue → Result (Option (Bor Body)) code.Arith → Result (List (S.Symbol ℤ)) Arith
image_by m (Ok None) = Ok (S.Module m.name m.params ∷ [])
image_by m (Ok (Some b)) = filled (body_of (as_rule b.now)).successor m.params
image_by m (Err e) = Err (arith_of e)

-- this is the rule that is found for a module, or none, or the fault
abbrev pub IsRuleFor : List HomRule → ModuleValue → Result (Option (Bor Body)) code.Arith → Type 0
IsRuleFor rules m r = image_of (map homomorphism_of rules) m ≡ image_by m r

-- the fault alone
abbrev pub fault_alone : {A : Type 0} → Result A Arith → Result (Unit {0}) Arith
fault_alone (Ok a) = Ok tt
fault_alone (Err e) = Err e

-- 2. what is left of the image of one symbol

abbrev pub or_none : {A E : Type 0} → Result (List A) E → List A
or_none (Ok xs) = xs
or_none (Err e) = []

abbrev pub symbols_of : Part → List (S.Symbol ℤ)
symbols_of Nothing = []
symbols_of (Single s) = symbol_of s ∷ []
symbols_of (Successor templates params) = or_none (filled (map template_of templates.now) params.now)
symbols_of (Constant symbols) = string_of symbols.now

-- no template has a fault
pub record AreFilled (templates : List (S.Symbol V.Tree)) (params : List ℤ) : Type 0 where
  pub is : filled templates params ≡ Ok (or_none (filled templates params))

abbrev pub IsSoundPart : Part → Type 0
IsSoundPart Nothing = Unit {0}
IsSoundPart (Single s) = Unit {0}
IsSoundPart (Successor templates params) = AreFilled (map template_of templates.now) params.now × HaveFewParams (map template_symbol templates.now)
IsSoundPart (Constant symbols) = Unit {0}

-- the image of a module, kept
abbrev pub IsImage : Result (List (S.Symbol ℤ)) Arith → Result Part code.Arith → Type 0
IsImage r (Ok part) = (r ≡ Ok (symbols_of part)) × IsSoundPart part
IsImage r (Err e) = r ≡ Err (arith_of e)

-- the image of a symbol, kept
abbrev pub IsSymbolImage : Result (List (S.Symbol ℤ)) meaning.ImageRefusal → Result Part ImageRefusal → Type 0
IsSymbolImage r (Ok part) = (r ≡ Ok (symbols_of part)) × IsSoundPart part
IsSymbolImage r (Err e) = r ≡ Err (refusal_of e)

-- the first of the symbols is taken, where there is one
abbrev pub IsFirstTaken : List (S.Symbol ℤ) → List (S.Symbol ℤ) → Option Symbol → Type 0
IsFirstTaken old new (Some s) = old ≡ symbol_of s ∷ new
IsFirstTaken old new None = (old ≡ []) × (new ≡ [])

-- the same, and the symbol is looked at
abbrev pub IsFirstLookedAt : List (S.Symbol ℤ) → List (S.Symbol ℤ) → Option Glance → Type 0
IsFirstLookedAt old new (Some look) = (x : S.Symbol ℤ) × (looked_at look ≡ in_short x) × (old ≡ x ∷ new)
IsFirstLookedAt old new None = (old ≡ []) × (new ≡ [])

-- it is the only symbol, and is looked at
abbrev pub IsLookedAtAlone : List (S.Symbol ℤ) → Glance → Type 0
IsLookedAtAlone xs look = IsFirstLookedAt xs [] (Some look)

-- the image of what is seen, kept, where n modules of the level and k symbols of the image stand
-- before
abbrev pub IsPartOf : List HomRule → ℕ → ℕ → Seen → Result Part ImageRefusal → Type 0
IsPartOf rules n k x r =
    IsSymbolImage (symbol_image (map homomorphism_of rules) n k (with_lineage [] x)) r
