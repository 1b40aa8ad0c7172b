-- The successor of a rule: which symbols may stand at a place, and what the functions that read them answer.
use Rattle.std.specs.Prelude.{◌≡◌, ◌+◌, ◌-◌, ℕ, Bool, true, false, nat_lt, Option, Some, None, Result, Ok, Err, List, [], ◌∷◌, map, Vec}
use Rattle.std.specs.declared.alloc.Global.{Global}
use Rattle.lsys_syntax.specs.Tokens.{Kind}
use Rattle.lsys_syntax.specs.Strings as S
use Rattle.lsys_syntax.specs.Expressions.{Expr}
use Rattle.lsys_syntax.specs.RuleMachine as machine
use Rattle.lsys_syntax.specs.RuleMachine.{Premise, RuleState, InExpr, as_param, Successor, expr_start, reversed, open_in, rule_with}
use Rattle.lsys_module.specs.Views.{module_name}
use Rattle.lsys_syntax.specs.RulePoints.{whole, at_state, after_image, verdict_at}
use Rattle.lsys_reading.specs.Reads.{Refuses, IsRead}
use Rattle.lsys_reading.specs.Heads.{form_in}
use Rattle.lsys_reading.specs.Spans.{expr_at, AreSpans}
use Rattle.lsys_reading.specs.declared.refusal.PartRefusal.{PartRefusal}
use Rattle.lsys_reading.specs.declared.glyph.RuleGlyph.{RuleGlyph}
use Rattle.lsys_reading.specs.declared.glyph.RuleGlyph.TheVariants as glyphs
use Rattle.lsys_reading.specs.declared.glyph.Separator.{Separator}
use Rattle.lsys_reading.specs.declared.glyph.Separator.TheVariants as separators
use Rattle.lsys_reading.specs.declared.form.Form.{Form}
use Rattle.lsys_reading.specs.declared.form.Form.TheVariants.{Production, Homomorphism}
use Rattle.lsys_reading.specs.declared.span.ExprSpan.{ExprSpan}
use Rattle.lsys_reading.specs.declared.images.ImageModule.{ImageModule}
use Rattle.lsys_reading.specs.declared.images.ImageSymbol.{ImageSymbol}
use Rattle.lsys_reading.specs.declared.images.ImageSymbol.TheVariants as images
use Rattle.lsys_reading.specs.declared.images.ImageOpening.{ImageOpening}
use Rattle.lsys_reading.specs.declared.images.ImageOpening.TheVariants as openings
use Rattle.lsys_reading.specs.declared.images.ParamRead.{ParamRead}
use Rattle.lsys_reading.specs.declared.images.ParamsRead.{ParamsRead}
use Rattle.lsys_reading.specs.declared.images.ImageModuleRead.{ImageModuleRead}
use Rattle.lsys_reading.specs.declared.images.ImageRead.{ImageRead}

abbrev pub params_at : List Kind → List ExprSpan → List Expr
params_at ks ss = map (expr_at ks) ss

abbrev pub module_at : List Kind → ImageModule → S.Symbol Expr
module_at ks x = S.Module (module_name x.name) (params_at ks x.params.items)

abbrev pub image_at : List Kind → ImageSymbol → S.Symbol Expr
image_at ks (images.Module x) = module_at ks x
image_at ks images.Push = S.Push
image_at ks images.Pop = S.Pop
image_at ks images.Cut = S.Cut

abbrev pub images_at : List Kind → List ImageSymbol → List (S.Symbol Expr)
images_at ks xs = map (image_at ks) xs

-- Every expression of the symbols stands at its span.
abbrev pub ImageIsAt : List Kind → ImageSymbol → Type 0
ImageIsAt ks (images.Module x) = AreSpans ks x.params.items
ImageIsAt ks x = Unit {0}

abbrev pub ImagesAreAt : List Kind → List ImageSymbol → Type 0
ImagesAreAt ks [] = Unit {0}
ImagesAreAt ks (x ∷ xs) = ImageIsAt ks x × ImagesAreAt ks xs

abbrev pub image_branches : ImageSymbol → ℕ → ℕ
image_branches images.Push b = b + 1
image_branches images.Pop b = b - 1
image_branches x b = b

-- 1. which symbols may stand at a place

abbrev pub opening_if : Bool → ImageOpening → Option ImageOpening
opening_if true o = Some o
opening_if false o = None

abbrev pub has_cuts : Form → Bool
has_cuts Production = true
has_cuts Homomorphism = false

abbrev pub image_opening_of : Form → ℕ → RuleGlyph → Option ImageOpening
image_opening_of f b (glyphs.Letters x) = Some (openings.Name x)
image_opening_of f b (glyphs.Sign x) = Some (openings.Name x)
image_opening_of f b glyphs.Push = Some openings.Push
image_opening_of f b glyphs.Pop = opening_if (nat_lt 0 b) openings.Pop
image_opening_of f b glyphs.Cut = opening_if (has_cuts f) openings.Cut
image_opening_of f b g = None

-- 2. what is read

abbrev pub param_due : Premise → List (S.Symbol Expr) → S.ModuleName → List Expr → RuleState
param_due b r n es = InExpr (as_param b r n es) expr_start

abbrev pub after_param : Separator → Premise → List (S.Symbol Expr) → S.ModuleName → List Expr → RuleState
after_param separators.Comma b r n es = param_due b r n es
after_param separators.Close b r n es = Successor b (S.Module n (reversed es) ∷ r)

abbrev pub IsParamRead : List Kind → ℕ → Result ParamRead PartRefusal → Type 0
IsParamRead ks at result = (m : machine.Form) (b : Premise) (r : List (S.Symbol Expr)) (n : S.ModuleName) (es : List Expr)
    → IsRead m ks at (at_state (param_due b r n es)) (λ x. x.span.to + 1) (λ x. at_state (after_param x.separator b r n (expr_at ks x.span ∷ es))) result

abbrev pub AreParamsRead : List Kind → ℕ → Result ParamsRead PartRefusal → Type 0
AreParamsRead ks at result = (m : machine.Form) (b : Premise) (r : List (S.Symbol Expr)) (n : S.ModuleName)
    → IsRead m ks at (at_state (param_due b r n [])) (λ x. x.end) (λ x. at_state (Successor b (S.Module n (params_at ks x.params.items) ∷ r))) result

abbrev pub IsImageModuleRead : List ℕ → List Kind → ℕ → Result ImageModuleRead PartRefusal → Type 0
IsImageModuleRead x ks at result = (m : machine.Form) (b : Premise) (r : List (S.Symbol Expr))
    → IsRead m ks at (at_state (Successor b (S.Module (module_name x) [] ∷ r))) (λ y. y.end) (λ y. after_image b (module_at ks y.image ∷ r)) result

abbrev pub IsImageRead : Form → ℕ → List Kind → ℕ → Result ImageRead PartRefusal → Type 0
IsImageRead f branches ks at result = (b : Premise) (r : List (S.Symbol Expr)) → branches ≡ open_in r
    → IsRead (form_in f) ks at (after_image b r) (λ x. x.end) (λ x. after_image b (image_at ks x.symbol ∷ r)) result

-- the rule is whole after the symbols, which reach to the line's end; or it is refused
abbrev pub IsSuccessorRead : Form → List Kind → ℕ → Result (Vec ImageSymbol Global) PartRefusal → Type 0
IsSuccessorRead f ks at (Ok xs) = (b : Premise) → verdict_at (form_in f) ks at (at_state (Successor b [])) ≡ whole (rule_with b (images_at ks xs.items))
IsSuccessorRead f ks at (Err e) = (b : Premise) → Refuses (form_in f) ks at (at_state (Successor b [])) e
