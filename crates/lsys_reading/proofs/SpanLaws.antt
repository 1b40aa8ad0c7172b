-- The expressions of a rule, and what stands between them.
use Rattle.std.proofs.Common.{◌≡◌, ◌≤◌, ◌<◌, ◌+◌, ◌-◌, ℕ, zero, suc, true, Option, Some, Ok, Err, List, [], ◌∷◌, take, drop, length, refl, ap, sym, ◌∙◌, arith}
use Rattle.std.specs.Prelude.{unwrap_or}
use Rattle.std.proofs.lemmas.List.{length-drop, drop-drop}
use Rattle.lsys_syntax.specs.Tokens.{Kind, At, Arrow}
use Rattle.lsys_syntax.specs.Expressions.{Expr, expr_kinds, IsExpr}
use Rattle.lsys_syntax.specs.ExpressionPlaces as X
use Rattle.lsys_syntax.specs.ExpressionPlaces.{Extent, extent, read_expr}
use Rattle.lsys_syntax.specs.Nesting.{expr_nesting}
use Rattle.lsys_syntax.specs.Sentences.{AreTokens}
use Rattle.lsys_syntax.specs.RuleMachine as machine
use Rattle.lsys_syntax.specs.RuleMachine.{production, homomorphism, Head, Premise, Spot, as_condition, as_weight, InExpr, Successor, Stop, expr_start, only_production}
use Rattle.lsys_syntax.proofs.Extents.{ends-whole, ends-read}
use Rattle.lsys_expr.specs.Codes.{any_expr}
use Rattle.lsys_expr.specs.Scanned.{IsExtent}
use Rattle.lsys_text.specs.declared.refusals.PlaceRefusal.{PlaceRefusal}
use Rattle.lsys_text.specs.declared.refusals.PlaceRefusal.TheVariants as places
use Rattle.lsys_reading.specs.declared.refusal.PartRefusal.{PartRefusal}
use Rattle.lsys_reading.specs.declared.glyph.RuleGlyph.{RuleGlyph}
use Rattle.lsys_reading.specs.declared.glyph.RuleGlyph.TheVariants as glyphs
use Rattle.lsys_reading.specs.declared.form.Form.{Form}
use Rattle.lsys_reading.specs.declared.form.Form.TheVariants.{Production, Homomorphism}
use Rattle.lsys_reading.specs.declared.span.ExprSpan.{ExprSpan}
use Rattle.lsys_syntax.specs.RulePoints.{by_extent, at_state, after_head, after_condition, after_weight, after_expr, body_with, stops, too_deep, taken, rule_from, point_from, verdict_at, Leads, head_step, condition_step, weight_step}
use Rattle.lsys_reading.specs.Glyphs.{IsPeeked, is_colon}
use Rattle.lsys_reading.specs.Reads.{Refuses}
use Rattle.lsys_reading.specs.Heads.{form_in, takes_weight}
use Rattle.lsys_reading.specs.Refusals.{refusal_at}
use Rattle.lsys_reading.specs.Spans.{part, expr_at, IsSpan, IsExpressionRead, IsConditionRead, IsWeightRead}
use Rattle.lsys_syntax.proofs.RulePoints.{leads-on, leads-stay, leads-token, rule-expr}
use Rattle.lsys_reading.proofs.ReadLaws.{refuses-on}

-- 1. expressions

tokens-drop : (n : ℕ) (ks : List Kind) → AreTokens ks → AreTokens (drop n ks)
tokens-drop zero ks g = g
tokens-drop (suc n) [] g = tt
tokens-drop (suc n) (k ∷ ks) g = tokens-drop n ks g.1

some-read : (d : ℕ) (ks : List Kind) (e : Expr) → read_expr (take d ks) ≡ Some e → 0 < d
some-read zero [] e h = cc
some-read zero (k ∷ ks) e h = cc
some-read (suc d) ks e h = omega arith

abbrev span : ℕ → ℕ → ExprSpan
span at to = record { from = at; to = to }

-- an expression of d tokens stands there
module _ (ks : List Kind) (at d : ℕ) (e : Expr) (g : AreTokens ks) (w : at ≤ length ks) (x : extent (drop at ks) ≡ X.ends d e) (to : ℕ) (t : to ≡ at + d) where
  whole : (d ≤ length (drop at ks)) × (expr_kinds e ≡ take d (drop at ks)) × IsExpr e × (expr_nesting e ≤ 32)
  whole = ends-whole (drop at ks) d e (tokens-drop at ks g) x

  at_part : part ks (span at to) ≡ take d (drop at ks)
  at_part = let n : to - at ≡ d = omega (arith, t) in ap (λ i. take i (drop at ks)) n

  read_part : read_expr (part ks (span at to)) ≡ Some e
  read_part = ap read_expr at_part ∙ ends-read (drop at ks) d e x

  here : expr_at ks (span at to) ≡ e
  here = ap (λ o. unwrap_or o any_expr) read_part

  pub span-is : IsSpan ks (span at to)
  span-is = record {
    ordered = omega (arith, t);
    within = omega (arith, whole.0, length-drop at ks, t, w);
    reads = read_part ∙ ap (λ f. Some f) (sym here);
    kinds = ap expr_kinds here ∙ whole.1 ∙ sym at_part;
  }

  pub span-further : at < to
  span-further = omega (arith, t, some-read d (drop at ks) e (ends-read (drop at ks) d e x))

  pub span-leads : IsExpressionRead ks at (Ok (span at to))
  span-leads = λ m spot.
      let same : verdict_at m ks at (at_state (InExpr spot expr_start)) ≡ verdict_at m ks to (after_expr spot (expr_at ks (span at to))) =
      rule-expr m spot at (drop at ks) ∙ ap (by_extent m spot at (drop at ks)) x
      ∙ ap (λ rest. point_from m (at + d) (after_expr spot e) rest) (drop-drop d at ks)
      ∙ ap (λ i. point_from m i (after_expr spot e) (drop i ks)) (sym t) ∙ ap (λ f. verdict_at m ks to (after_expr spot f)) (sym here) in
      record { after = omega (arith, t); within = span-is.within; same = same }

pub expression-ok : (ks : List Kind) (at to : ℕ) → AreTokens ks → at ≤ length ks → IsExtent at (extent (drop at ks)) (Ok to) → IsExpressionRead ks at (Ok (span at to)) × IsSpan ks (span at to) × (at < to)
expression-ok ks at to g w i = by (extent (drop at ks)) refl i
  where
    by : (x : Extent) → extent (drop at ks) ≡ x → IsExtent at x (Ok to) → IsExpressionRead ks at (Ok (span at to)) × IsSpan ks (span at to) × (at < to)
    by (X.ends d e) q i = (span-leads ks at d e g w q to i, span-is ks at d e g w q to i, span-further ks at d e g w q to i)
    by (X.stops d) q i = elim i [ ]
    by (X.too_deep d) q i = elim i [ ]

pub expression-err : (ks : List Kind) (at : ℕ) (r : PlaceRefusal) → IsExtent at (extent (drop at ks)) (Err r) → IsExpressionRead ks at (Err (refusal_at r))
expression-err ks at r i = λ m spot. by m spot r (extent (drop at ks)) refl i
  where
    by : (m : machine.Form) (spot : Spot) (r : PlaceRefusal) (x : Extent) → extent (drop at ks) ≡ x → IsExtent at x (Err r) → Refuses m ks at (at_state (InExpr spot expr_start)) (refusal_at r)
    by m spot (places.Token p) (X.stops d) q i = rule-expr m spot at (drop at ks) ∙ ap (by_extent m spot at (drop at ks)) q ∙ ap stops (sym i)
    by m spot (places.Deep p) (X.too_deep d) q i = rule-expr m spot at (drop at ks) ∙ ap (by_extent m spot at (drop at ks)) q ∙ ap too_deep (sym i)
    by m spot (places.Token p) (X.ends d e) q i = elim i [ ]
    by m spot (places.Token p) (X.too_deep d) q i = elim i [ ]
    by m spot (places.Deep p) (X.ends d e) q i = elim i [ ]
    by m spot (places.Deep p) (X.stops d) q i = elim i [ ]

-- 2. the condition

colon-goes : (ks : List Kind) (at : ℕ) (g : RuleGlyph) → IsPeeked ks at g → is_colon g ≡ true → (m : machine.Form) (x : Head) → Leads m ks at (after_head x) (at + 1) (at_state (InExpr (as_condition x) expr_start))
colon-goes ks at glyphs.Colon h t m x = leads-token m ks at h.0 (after_head x) h.1 (InExpr (as_condition x) expr_start) (ap (λ k. head_step m k x) h.2) (λ i v. refl)
colon-goes ks at g h t m x = cc

condition-done : (m : machine.Form) (ks : List Kind) (at : ℕ) (x : Head) (e : Expr) → verdict_at m ks at (after_expr (as_condition x) e) ≡ verdict_at m ks at (after_condition x (Some e))
condition-done m ks at x e = by (drop at ks)
  where
    same : (k : Kind) → machine.done_step m k (as_condition x) e ≡ condition_step m k x (Some e)
    same At = refl
    same Arrow = refl
    same k = refl

    by : (rest : List Kind) → point_from m at (after_expr (as_condition x) e) rest ≡ point_from m at (after_condition x (Some e)) rest
    by [] = refl
    by (k ∷ rest) = ap (λ s. taken at s (rule_from m (at + 1) s rest)) (same k)

module _ (ks : List Kind) (at : ℕ) (g : RuleGlyph) (h : IsPeeked ks at g) (t : is_colon g ≡ true) where
  pub condition-ok : (s : ExprSpan) → IsExpressionRead ks (at + 1) (Ok s) → IsConditionRead ks at (Ok (record { span = Some s; end = s.to }))
  condition-ok s i = λ m x.
      let e = expr_at ks s in
      let read = i m (as_condition x) in
      leads-on m ks at (at + 1) s.to (after_head x) (at_state (InExpr (as_condition x) expr_start)) (after_condition x (Some e)) (colon-goes ks at g h t m x)
      (leads-on m ks (at + 1) s.to s.to (at_state (InExpr (as_condition x) expr_start)) (after_expr (as_condition x) e) (after_condition x (Some e)) read
      (leads-stay m ks s.to (after_expr (as_condition x) e) (after_condition x (Some e)) read.within (condition-done m ks s.to x e)))

  pub condition-err : (q : PartRefusal) → IsExpressionRead ks (at + 1) (Err q) → IsConditionRead ks at (Err q)
  condition-err q i = λ m x. refuses-on m ks at (at + 1) (after_head x) (at_state (InExpr (as_condition x) expr_start)) q (colon-goes ks at g h t m x) (i m (as_condition x))

-- 3. the weight

at-goes : (f : Form) (ks : List Kind) (at : ℕ) (g : RuleGlyph) → IsPeeked ks at g → takes_weight f g ≡ true → (x : Head) (c : Option Expr) → Leads (form_in f) ks at (after_condition x c) (at + 1) (at_state (InExpr (as_weight x c) expr_start))
at-goes Production ks at glyphs.At h t x c = leads-token production ks at h.0 (after_condition x c) h.1 (InExpr (as_weight x c) expr_start) (ap (λ k. condition_step production k x c) h.2) (λ i v. refl)
at-goes Production ks at g h t x c = cc
at-goes Homomorphism ks at g h t x c = cc

weight-done : (m : machine.Form) (ks : List Kind) (at : ℕ) (x : Head) (c : Option Expr) (e : Expr) → verdict_at m ks at (after_expr (as_weight x c) e) ≡ verdict_at m ks at (after_weight (body_with x c (Some e)))
weight-done m ks at x c e = by (drop at ks)
  where
    same : (k : Kind) → machine.done_step m k (as_weight x c) e ≡ weight_step k (body_with x c (Some e))
    same Arrow = refl
    same k = refl

    by : (rest : List Kind) → point_from m at (after_expr (as_weight x c) e) rest ≡ point_from m at (after_weight (body_with x c (Some e))) rest
    by [] = refl
    by (k ∷ rest) = ap (λ s. taken at s (rule_from m (at + 1) s rest)) (same k)

module _ (f : Form) (ks : List Kind) (at : ℕ) (g : RuleGlyph) (h : IsPeeked ks at g) (t : takes_weight f g ≡ true) where
  pub weight-ok : (s : ExprSpan) → IsExpressionRead ks (at + 1) (Ok s) → IsWeightRead f ks at (Ok (record { span = Some s; end = s.to }))
  weight-ok s i = λ x c.
      let e = expr_at ks s in
      let read = i (form_in f) (as_weight x c) in
      leads-on (form_in f) ks at (at + 1) s.to (after_condition x c) (at_state (InExpr (as_weight x c) expr_start)) (after_weight (body_with x c (Some e))) (at-goes f ks at g h t x c)
      (leads-on (form_in f) ks (at + 1) s.to s.to (at_state (InExpr (as_weight x c) expr_start)) (after_expr (as_weight x c) e) (after_weight (body_with x c (Some e))) read
      (leads-stay (form_in f) ks s.to (after_expr (as_weight x c) e) (after_weight (body_with x c (Some e))) read.within (weight-done (form_in f) ks s.to x c e)))

  pub weight-err : (q : PartRefusal) → IsExpressionRead ks (at + 1) (Err q) → IsWeightRead f ks at (Err q)
  weight-err q i = λ x c. refuses-on (form_in f) ks at (at + 1) (after_condition x c) (at_state (InExpr (as_weight x c) expr_start)) q (at-goes f ks at g h t x c) (i (form_in f) (as_weight x c))
