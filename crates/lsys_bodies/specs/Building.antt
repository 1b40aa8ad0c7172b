-- Which rules can be built.
use Rattle.std.specs.Prelude.{◌≡◌, false, Option, Some, None, List, [], ◌∷◌, map, unwrap_or}
use Rattle.std.specs.List.{list_any}
use Rattle.lsys_syntax.specs.Tokens.{NameText, Kind}
use Rattle.lsys_syntax.specs.Strings as S
use Rattle.lsys_syntax.specs.Strings.{Symbol}
use Rattle.lsys_syntax.specs.Expressions.{Expr, expr_kinds}
use Rattle.lsys_syntax.specs.Checks.{is_unknown, rule_formals}
use Rattle.lsys_syntax.specs.Rules as R
use Rattle.lsys_syntax.specs.Rules.{IsRule}
use Rattle.lsys_spec.specs.Values.{Tree, expr_tree}
use Rattle.lsys_spec.specs.Systems.{Homomorphism, main}
use Rattle.lsys_reading.specs.declared.parts.LabeledRule.{LabeledRule}
use Rattle.lsys_reading.specs.declared.span.ExprSpan.{ExprSpan}
use Rattle.lsys_reading.specs.declared.images.ImageSymbol.{ImageSymbol}
use Rattle.lsys_reading.specs.Spans.{expr_at}
use Rattle.lsys_reading.specs.Images.{image_at}
use Rattle.lsys_reading.specs.RuleLines.{rule_at}
use Rattle.lsys_syntax.specs.Smalls.{IsSmall}

-- each name of the expression is a formal
abbrev pub IsKnown : List NameText → Expr → Type 0
IsKnown fs e = list_any (is_unknown fs) (expr_kinds e) ≡ false

abbrev pub AreKnown : List NameText → List Expr → Type 0
AreKnown fs [] = Unit {0}
AreKnown fs (e ∷ es) = IsKnown fs e × AreKnown fs es

abbrev pub OptionIsKnown : List NameText → Option Expr → Type 0
OptionIsKnown fs None = Unit {0}
OptionIsKnown fs (Some e) = IsKnown fs e

abbrev pub SymbolIsKnown : List NameText → Symbol Expr → Type 0
SymbolIsKnown fs (S.Module n es) = AreKnown fs es
SymbolIsKnown fs x = Unit {0}

abbrev pub StringIsKnown : List NameText → List (Symbol Expr) → Type 0
StringIsKnown fs [] = Unit {0}
StringIsKnown fs (x ∷ xs) = SymbolIsKnown fs x × StringIsKnown fs xs

-- What is known of a rule before it is built: it is one of the language, as each line's is, and an edit has checked that its
-- expressions name formals of it alone, and that it passes no limit.
pub record CanBuild (r : R.Rule) : Type 0 where
  pub sentence : IsRule r
  pub condition : OptionIsKnown (rule_formals r) r.condition
  pub weight : OptionIsKnown (rule_formals r) r.weight
  pub successor : StringIsKnown (rule_formals r) r.successor
  pub small : IsSmall r

-- the production that a line spells, in the table `main` where no table is written
abbrev pub production_at : List Kind → LabeledRule → R.Production
production_at ks l = record { table = unwrap_or l.table main; label = l.label; rule = rule_at ks l.rule }

abbrev pub homomorphism_at : List Kind → LabeledRule → Homomorphism
homomorphism_at ks l = record { label = l.label; rule = rule_at ks l.rule }

-- the tree of the expression at a span
abbrev pub tree_at : List NameText → List Kind → ExprSpan → Tree
tree_at fs ks s = expr_tree fs (expr_at ks s)

-- a symbol of a successor, its expressions as trees
abbrev pub symbol_tree : List NameText → Symbol Expr → Symbol Tree
symbol_tree fs (S.Module n es) = S.Module n (map (expr_tree fs) es)
symbol_tree fs S.Push = S.Push
symbol_tree fs S.Pop = S.Pop
symbol_tree fs S.Cut = S.Cut

abbrev pub image_tree : List NameText → List Kind → ImageSymbol → Symbol Tree
image_tree fs ks x = symbol_tree fs (image_at ks x)
