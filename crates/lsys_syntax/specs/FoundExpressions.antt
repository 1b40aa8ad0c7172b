-- Where an expression at the front of some tokens ends or
-- stops, and with it the rule in which it stands.
use Rattle.std.specs.Prelude.{◌≡◌, ◌≤◌, List, ℕ, take, length, ◌<◌, suc, ◌++◌, Some}
use Rattle.lsys_syntax.specs.Limits.{nesting_bound}
use Rattle.lsys_syntax.specs.Tokens.{Kind}
use Rattle.lsys_syntax.specs.Expressions.{Expr, expr_kinds, IsExpr}
use Rattle.lsys_syntax.specs.Nesting.{expr_nesting}
use Rattle.lsys_syntax.specs.ExpressionPlaces.{extent, ends, BeginsAnyExpression, BeginsExpression, IsAnyExpression, CantGoOn, read_expr}
use Rattle.lsys_syntax.specs.Sentences.{AreTokens}
use Rattle.lsys_syntax.specs.ExpressionPlaces as places
use Rattle.lsys_syntax.specs.LineMachine.{verdict_from}
use Rattle.lsys_syntax.specs.RuleMachine as rules
use Rattle.lsys_syntax.specs.RulePoints.{Line, form_of, line_state, line_verdict, rule_from, by_extent}

-- where an expression ends, the tokens before the place are
-- that expression, nested within the bound
abbrev pub EndedTokensAreTheExpression : Type 0
EndedTokensAreTheExpression =
    (kinds : List Kind) (place : ℕ) (expr : Expr) → AreTokens kinds → extent kinds ≡ ends place expr
    → (place ≤ length kinds) × (expr_kinds expr ≡ take place kinds) × IsExpr expr
    × (expr_nesting expr ≤ nesting_bound)

-- and none goes on with the token at the place, of any nesting
abbrev pub NoLongerExpressionBegins : Type 0
NoLongerExpressionBegins =
    (kinds : List Kind) (place : ℕ) (expr : Expr) → extent kinds ≡ ends place expr
    → place < length kinds → BeginsAnyExpression (take (suc place) kinds) → ⊥

-- where it stops, some expression begins with the tokens before the place
abbrev pub SomeExpressionBeginsBeforeTheStop : Type 0
SomeExpressionBeginsBeforeTheStop =
    (kinds : List Kind) (place : ℕ) → AreTokens kinds → extent kinds ≡ places.stops place
    → (place ≤ length kinds) × BeginsExpression nesting_bound (take place kinds)

-- and none goes on with the token there
abbrev pub NoExpressionGoesOnAtTheStop : Type 0
NoExpressionGoesOnAtTheStop =
    (kinds : List Kind) (place : ℕ) → extent kinds ≡ places.stops place → place < length kinds
    → BeginsAnyExpression (take (suc place) kinds) → ⊥

-- the tokens before the place are no whole expression
abbrev pub StoppedTokensAreNoExpression : Type 0
StoppedTokensAreNoExpression =
    (kinds : List Kind) (place : ℕ) → extent kinds ≡ places.stops place
    → IsAnyExpression (take place kinds) → ⊥

-- where it is too deep, some expression within the bound begins with the tokens before the place
abbrev pub SomeExpressionBeginsBeforeTooDeep : Type 0
SomeExpressionBeginsBeforeTooDeep =
    (kinds : List Kind) (place : ℕ) → AreTokens kinds → extent kinds ≡ places.too_deep place
    → (place < length kinds) × BeginsExpression nesting_bound (take place kinds)

-- none within the bound goes on with the token there
abbrev pub NoExpressionWithinTheBoundGoesOn : Type 0
NoExpressionWithinTheBoundGoesOn =
    (kinds : List Kind) (place : ℕ) → extent kinds ≡ places.too_deep place
    → BeginsExpression nesting_bound (take (suc place) kinds) → ⊥

-- but a deeper one does
abbrev pub OnlyADeeperExpressionGoesOn : Type 0
OnlyADeeperExpressionGoesOn =
    (kinds : List Kind) (place : ℕ) → AreTokens kinds → extent kinds ≡ places.too_deep place
    → BeginsAnyExpression (take (suc place) kinds)

-- each expression within the bound is found before a token that can't go on with it
abbrev pub ExpressionsAreFoundWhole : Type 0
ExpressionsAreFoundWhole =
    (expr : Expr) (rest : List Kind) → IsExpr expr → expr_nesting expr ≤ nesting_bound
    → CantGoOn rest
    → extent (expr_kinds expr ++ rest) ≡ ends (length (expr_kinds expr)) expr

-- the tokens of an extent are read as its expression
abbrev pub ExtentsAreReadAsTheirExpressions : Type 0
ExtentsAreReadAsTheirExpressions =
    (kinds : List Kind) (place : ℕ) (expr : Expr) → extent kinds ≡ ends place expr
    → read_expr (take place kinds) ≡ Some expr

-- the verdict on a line after the colon of its label is that on its rule
abbrev pub LinesGoOnAsTheirRules : Type 0
LinesGoOnAsTheirRules =
    (line : Line) (kinds : List Kind) (place : ℕ) (state : rules.RuleState)
    → verdict_from place (line_state line state) kinds
    ≡ line_verdict line (rule_from (form_of line) place state kinds)

-- where an expression stands next, a rule goes by the extent of that expression
abbrev pub RulesGoOnByTheirExpressions : Type 0
RulesGoOnByTheirExpressions =
    (form : rules.Form) (spot : rules.Spot) (place : ℕ) (kinds : List Kind)
    → rule_from form place (rules.InExpr spot rules.expr_start) kinds
    ≡ by_extent form spot place kinds (extent kinds)
