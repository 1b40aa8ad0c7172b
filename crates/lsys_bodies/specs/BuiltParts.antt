-- What the parts of a rule are built from: the spans of its expressions among the tokens, and its formals.
use Rattle.std.specs.Prelude.{◌≡◌, ℕ, List, ◌++◌, Option, map, option_map}
use Rattle.lsys_syntax.specs.Tokens.{Kind}
use Rattle.lsys_syntax.specs.Strings.{Symbol}
use Rattle.lsys_syntax.specs.Expressions.{Expr}
use Rattle.lsys_syntax.specs.Checks.{all_formals, rule_formals}
use Rattle.lsys_spec.specs.Values.{Tree}
use Rattle.lsys_text.specs.Tokens.{kind_row, name_of}
use Rattle.lsys_text.specs.declared.token_kind.Token.{Token}
use Rattle.lsys_expr.specs.Expression.{Expression}
use Rattle.lsys_reading.specs.Heads.{patterns_of}
use Rattle.lsys_reading.specs.Images.{image_at, images_at, params_at}
use Rattle.lsys_reading.specs.RuleLines.{rule_at}
use Rattle.lsys_reading.specs.declared.images.ImageSymbol.{ImageSymbol}
use Rattle.lsys_reading.specs.declared.patterns.PatternSymbol.{PatternSymbol}
use Rattle.lsys_reading.specs.declared.rule.RuleLine.{RuleLine}
use Rattle.lsys_reading.specs.declared.span.ExprSpan.{ExprSpan}
use Rattle.lsys_bodies.specs.Building.{image_tree, tree_at}
use Rattle.lsys_bodies.specs.Views.{template_of, tree_in}
use Rattle.lsys_bodies.specs.declared.body.Template.{Template}

-- 1. expressions

-- the tree of the expression at a span, with these formals
abbrev pub span_tree : List (List ℕ) → List Token → ExprSpan → Tree
span_tree fs ts s = tree_at (map name_of fs) (kind_row ts) s

-- the tree of an expression, where there is one
abbrev pub optional_tree : Option Expression → Option Tree
optional_tree o = option_map tree_in o

-- the same of the expression at a span, where there is one
abbrev pub optional_span_tree : List (List ℕ) → List Token → Option ExprSpan → Option Tree
optional_span_tree fs ts o = option_map (span_tree fs ts) o

-- the trees of the expressions at these spans
abbrev pub trees_at : List (List ℕ) → List Token → List ExprSpan → List Tree
trees_at fs ts ss = map (span_tree fs ts) ss

-- the expressions at these spans, as they are spelled
abbrev pub expressions_in : List Token → List ExprSpan → List Expr
expressions_in ts ss = params_at (kind_row ts) ss

-- 2. symbols of a successor

-- as it is spelled
abbrev pub image_in : List Token → ImageSymbol → Symbol Expr
image_in ts x = image_at (kind_row ts) x

abbrev pub images_in : List Token → List ImageSymbol → List (Symbol Expr)
images_in ts xs = images_at (kind_row ts) xs

-- its expressions as trees, with these formals
abbrev pub template_at : List (List ℕ) → List Token → ImageSymbol → Symbol Tree
template_at fs ts x = image_tree (map name_of fs) (kind_row ts) x

-- these templates mean the symbols at these places
abbrev pub MeanImages : List (List ℕ) → List Token → List ImageSymbol → List Template → Type 0
MeanImages fs ts xs templates = map template_of templates ≡ map (template_at fs ts) xs

-- 3. formals

-- they are those of the rule, by their places
abbrev pub AreRuleFormals : List Kind → RuleLine → List (List ℕ) → Type 0
AreRuleFormals ks r fs = map name_of fs ≡ rule_formals (rule_at ks r)

-- those of a context were added
abbrev pub AddsFormalsOf : List PatternSymbol → List (List ℕ) → List (List ℕ) → Type 0
AddsFormalsOf xs old new = map name_of new ≡ map name_of old ++ all_formals (patterns_of xs)
