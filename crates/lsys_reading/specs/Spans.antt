-- The expressions of a rule by their places, and what the functions that read them answer.
use Rattle.std.specs.Prelude.{◌≡◌, ◌≤◌, ◌-◌, ℕ, Option, Some, None, Result, List, [], ◌∷◌, take, drop, length, option_map, unwrap_or}
use Rattle.lsys_syntax.specs.Tokens.{Kind}
use Rattle.lsys_syntax.specs.Expressions.{Expr, expr_kinds}
use Rattle.lsys_syntax.specs.ExpressionPlaces.{read_expr}
use Rattle.lsys_syntax.specs.RuleMachine as machine
use Rattle.lsys_syntax.specs.RuleMachine.{Head, Premise, Spot, InExpr, Successor, expr_start}
use Rattle.lsys_expr.specs.Codes.{any_expr}
use Rattle.lsys_syntax.specs.RulePoints.{at_state, after_head, after_condition, after_weight, after_expr, body_with}
use Rattle.lsys_reading.specs.Reads.{IsRead}
use Rattle.lsys_reading.specs.Heads.{form_in}
use Rattle.lsys_reading.specs.declared.refusal.PartRefusal.{PartRefusal}
use Rattle.lsys_reading.specs.declared.form.Form.{Form}
use Rattle.lsys_reading.specs.declared.span.ExprSpan.{ExprSpan}
use Rattle.lsys_reading.specs.declared.span.OptionRead.{OptionRead}

-- the tokens of a span
abbrev pub part : List Kind → ExprSpan → List Kind
part ks s = take (s.to - s.from) (drop s.from ks)

-- the expression that they spell
abbrev pub expr_at : List Kind → ExprSpan → Expr
expr_at ks s = unwrap_or (read_expr (part ks s)) any_expr

-- The span lies within the tokens, and an expression is spelled there.
pub record IsSpan (ks : List Kind) (s : ExprSpan) : Type 0 where
  pub ordered : s.from ≤ s.to
  pub within : s.to ≤ length ks
  pub reads : read_expr (part ks s) ≡ Some (expr_at ks s)
  pub kinds : expr_kinds (expr_at ks s) ≡ part ks s

abbrev pub AreSpans : List Kind → List ExprSpan → Type 0
AreSpans ks [] = Unit {0}
AreSpans ks (s ∷ ss) = IsSpan ks s × AreSpans ks ss

abbrev pub ConditionIsSpan : List Kind → Option ExprSpan → Type 0
ConditionIsSpan ks None = Unit {0}
ConditionIsSpan ks (Some s) = IsSpan ks s

abbrev pub option_at : List Kind → Option ExprSpan → Option Expr
option_at ks o = option_map (expr_at ks) o

abbrev pub IsExpressionRead : List Kind → ℕ → Result ExprSpan PartRefusal → Type 0
IsExpressionRead ks at result = (m : machine.Form) (spot : Spot)
    → IsRead m ks at (at_state (InExpr spot expr_start)) (λ s. s.to) (λ s. after_expr spot (expr_at ks s)) result

abbrev pub IsConditionRead : List Kind → ℕ → Result OptionRead PartRefusal → Type 0
IsConditionRead ks at result = (m : machine.Form) (h : Head)
    → IsRead m ks at (after_head h) (λ x. x.end) (λ x. after_condition h (option_at ks x.span)) result

abbrev pub IsWeightRead : Form → List Kind → ℕ → Result OptionRead PartRefusal → Type 0
IsWeightRead f ks at result = (h : Head) (c : Option Expr)
    → IsRead (form_in f) ks at (after_condition h c) (λ x. x.end) (λ x. after_weight (body_with h c (option_at ks x.span))) result

abbrev pub IsArrowRead : List Kind → ℕ → Result ℕ PartRefusal → Type 0
IsArrowRead ks at result = (m : machine.Form) (b : Premise)
    → IsRead m ks at (after_weight b) (λ end. end) (λ end. at_state (Successor b [])) result
