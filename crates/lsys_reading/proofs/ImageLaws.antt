-- The successor of a rule: parameters, symbols, and the loops over them.
use Rattle.std.proofs.Common.{◌≡◌, ◌≤◌, ◌<◌, ◌+◌, ℕ, true, Ok, Err, List, [], ◌∷◌, ◌++◌, drop, length, refl, ap, sym, subst, ◌∙◌, arith}
use Rattle.lsys_syntax.specs.Tokens.{Kind, LeftParen}
use Rattle.lsys_syntax.specs.Strings.{ModuleName, Symbol, Module}
use Rattle.lsys_syntax.specs.Expressions.{Expr}
use Rattle.lsys_syntax.specs.RuleMachine as machine
use Rattle.lsys_syntax.specs.RuleMachine.{production, homomorphism, Premise, RuleState, InExpr, as_param, Successor, Stop, expr_start, done_step, reversed, open_in, popped, where_closed, rule_with, successor_open, successor_step, only_production}
use Rattle.lsys_module.specs.Views.{module_name}
use Rattle.lsys_reading.specs.declared.refusal.PartRefusal.{PartRefusal}
use Rattle.lsys_reading.specs.declared.glyph.RuleGlyph.{RuleGlyph}
use Rattle.lsys_reading.specs.declared.glyph.RuleGlyph.TheVariants as glyphs
use Rattle.lsys_reading.specs.declared.glyph.Separator.TheVariants as separators
use Rattle.lsys_reading.specs.declared.span.ExprSpan.{ExprSpan}
use Rattle.lsys_reading.specs.declared.images.ParamRead.{ParamRead}
use Rattle.lsys_reading.specs.declared.images.ParamsRead.{ParamsRead}
use Rattle.lsys_syntax.specs.RulePoints.{at_state, after_image, taken, rule_from, point_from, verdict_at, Leads}
use Rattle.lsys_reading.specs.Glyphs.{IsPeeked, is_opening}
use Rattle.lsys_reading.specs.Spans.{expr_at, IsSpan, AreSpans, IsExpressionRead}
use Rattle.lsys_reading.specs.Images.{params_at, param_due, after_param, IsParamRead, AreParamsRead, IsImageModuleRead}
use Rattle.lsys_syntax.proofs.RulePoints.{leads-on, leads-stay, leads-token}
use Rattle.lsys_reading.proofs.ReadLaws.{refuses-on}
use Rattle.lsys_reading.proofs.Reversals.{mapped-push, mapped-whole}

pub param-err : (ks : List Kind) (at : ℕ) (q : PartRefusal) → IsExpressionRead ks at (Err q) → IsParamRead ks at (Err q)
param-err ks at q h = λ m b r n es. h m (as_param b r n es)

-- 2. the loop over parameters

pub record ParamsSoFar (ks : List Kind) (at end : ℕ) (ss : List ExprSpan) : Type 0 where
  pub after : at ≤ end
  pub within : end ≤ length ks
  pub spans : AreSpans ks ss
  pub read : (m : machine.Form) (b : Premise) (r : List (Symbol Expr)) (n : ModuleName) → Leads m ks at (at_state (param_due b r n [])) end (at_state (param_due b r n (reversed (params_at ks ss))))

pub spans-push : (ks : List Kind) (ss : List ExprSpan) (s : ExprSpan) → AreSpans ks ss → IsSpan ks s → AreSpans ks (ss ++ s ∷ [])
spans-push ks [] s h i = (i, tt)
spans-push ks (t ∷ ss) s h i = (h.0, spans-push ks ss s h.1 i)

module _ (ks : List Kind) (at end : ℕ) (ss : List ExprSpan) (x : ParamRead) (so : ParamsSoFar ks at end ss) (one : IsParamRead ks end (Ok x)) where
  further : (m : machine.Form) (b : Premise) (r : List (Symbol Expr)) (n : ModuleName)
      → Leads m ks at (at_state (param_due b r n [])) (x.span.to + 1) (at_state (after_param x.separator b r n (expr_at ks x.span ∷ reversed (params_at ks ss))))
  further m b r n =
      leads-on m ks at end (x.span.to + 1) (at_state (param_due b r n [])) (at_state (param_due b r n (reversed (params_at ks ss)))) (at_state (after_param x.separator b r n (expr_at ks x.span ∷ reversed (params_at ks ss))))
      (so.read m b r n) (one m b r n (reversed (params_at ks ss)))

  pub params-more : x.separator ≡ separators.Comma → IsSpan ks x.span → end < x.span.to → x.span.to + 1 ≤ length ks → ParamsSoFar ks at (x.span.to + 1) (ss ++ x.span ∷ [])
  params-more e i f w = record {
    after = omega (arith, so.after, f);
    within = w;
    spans = spans-push ks ss x.span so.spans i;
    read = λ m b r n.
        subst (λ es. Leads m ks at (at_state (param_due b r n [])) (x.span.to + 1) (at_state (param_due b r n es))) (sym (mapped-push (expr_at ks) ss x.span))
        (subst (λ s. Leads m ks at (at_state (param_due b r n [])) (x.span.to + 1) (at_state (after_param s b r n (expr_at ks x.span ∷ reversed (params_at ks ss))))) e (further m b r n));
  }

  pub params-done : x.separator ≡ separators.Close → (y : ParamsRead) → y.params.items ≡ ss ++ x.span ∷ [] → y.end ≡ x.span.to + 1 → AreParamsRead ks at (Ok y)
  params-done e y i j = λ m b r n.
      subst (λ q. Leads m ks at (at_state (param_due b r n [])) q (at_state (Successor b (Module n (params_at ks y.params.items) ∷ r)))) (sym j)
      (subst (λ es. Leads m ks at (at_state (param_due b r n [])) (x.span.to + 1) (at_state (Successor b (Module n es ∷ r)))) (mapped-whole (expr_at ks) ss x.span ∙ ap (params_at ks) (sym i))
      (subst (λ s. Leads m ks at (at_state (param_due b r n [])) (x.span.to + 1) (at_state (after_param s b r n (expr_at ks x.span ∷ reversed (params_at ks ss))))) e (further m b r n)))

pub params-refused : (ks : List Kind) (at end : ℕ) (ss : List ExprSpan) (q : PartRefusal) → ParamsSoFar ks at end ss → IsParamRead ks end (Err q) → AreParamsRead ks at (Err q)
params-refused ks at end ss q so one = λ m b r n.
    refuses-on m ks at end (at_state (param_due b r n [])) (at_state (param_due b r n (reversed (params_at ks ss)))) q (so.read m b r n) (one m b r n (reversed (params_at ks ss)))

-- 3. a module after its name

pub image-shut : (m : machine.Form) (ks : List Kind) (at : ℕ) (b : Premise) (r : List (Symbol Expr)) → successor_open b r ≡ Stop → verdict_at m ks at (at_state (Successor b r)) ≡ verdict_at m ks at (after_image b r)
image-shut m ks at b r e = by (drop at ks)
  where
    by : (rest : List Kind) → point_from m at (at_state (Successor b r)) rest ≡ point_from m at (after_image b r) rest
    by [] = refl
    by (LeftParen ∷ rest) = ap (λ s. taken at s (rule_from m (at + 1) s rest)) e
    by (k ∷ rest) = refl

image-opens : (m : machine.Form) (ks : List Kind) (at : ℕ) (b : Premise) (r : List (Symbol Expr)) (n : ModuleName) (g : RuleGlyph) → IsPeeked ks at g → is_opening g ≡ true
    → Leads m ks at (at_state (Successor b (Module n [] ∷ r))) (at + 1) (at_state (param_due b r n []))
image-opens m ks at b r n glyphs.Open h e = leads-token m ks at h.0 (at_state (Successor b (Module n [] ∷ r))) h.1 (param_due b r n []) (ap (λ k. successor_step m k b (Module n [] ∷ r)) h.2) (λ i v. refl)
image-opens m ks at b r n g h e = cc

with-params : (ks : List Kind) (b : Premise) (n : ModuleName) (ss : List ExprSpan) (r : List (Symbol Expr)) → 0 < length ss → successor_open b (Module n (params_at ks ss) ∷ r) ≡ Stop
with-params ks b n [] r h = absurd (omega arith)
with-params ks b n (s ∷ ss) r h = refl

module _ (x : List ℕ) (ks : List Kind) (at : ℕ) (g : RuleGlyph) (h : IsPeeked ks at g) where
  module _ (o : is_opening g ≡ true) where
    pub image-module-ok : (y : ParamsRead) → AreParamsRead ks (at + 1) (Ok y) → 0 < length y.params.items → IsImageModuleRead x ks at (Ok (record { image = record { name = x; params = y.params }; end = y.end }))
    image-module-ok y i some = λ m b r.
        let n = module_name x in
        let es = params_at ks y.params.items in
        let read = i m b r n in
        leads-on m ks at (at + 1) y.end (at_state (Successor b (Module n [] ∷ r))) (at_state (param_due b r n [])) (after_image b (Module n es ∷ r)) (image-opens m ks at b r n g h o)
        (leads-on m ks (at + 1) y.end y.end (at_state (param_due b r n [])) (at_state (Successor b (Module n es ∷ r))) (after_image b (Module n es ∷ r)) read
        (leads-stay m ks y.end (at_state (Successor b (Module n es ∷ r))) (after_image b (Module n es ∷ r)) read.within (image-shut m ks y.end b (Module n es ∷ r) (with-params ks b n y.params.items r some))))

    pub image-module-err : (q : PartRefusal) → AreParamsRead ks (at + 1) (Err q) → IsImageModuleRead x ks at (Err q)
    image-module-err q i = λ m b r.
        refuses-on m ks at (at + 1) (at_state (Successor b (Module (module_name x) [] ∷ r))) (at_state (param_due b r (module_name x) [])) q (image-opens m ks at b r (module_name x) g h o) (i m b r (module_name x))
