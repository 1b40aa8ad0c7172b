-- The code's rules and bodies as those of the definitions.
use Rattle.std.specs.Prelude.{List, [], ◌∷◌, length, map, option_map}
use Rattle.lsys_syntax.specs.Tokens.{NameText}
use Rattle.lsys_syntax.specs.Strings as S
use Rattle.lsys_syntax.specs.Expressions.{Expr}
use Rattle.lsys_syntax.specs.Rules as R
use Rattle.lsys_spec.specs.Values.{Tree}
use Rattle.lsys_spec.specs.Systems.{Homomorphism}
use Rattle.lsys_spec.specs.Bodies as spec
use Rattle.lsys_spec.specs.Bodies.{PatternNest, outermost, within, with_pattern, opened, innermost, Done}
use Rattle.lsys_text.specs.Tokens.{name_of}
use Rattle.lsys_expr.specs.Expression.{Expression}
use Rattle.lsys_module.specs.Views.{module_name}
use Rattle.lsys_bodies.specs.declared.body.Pattern.{Pattern}
use Rattle.lsys_bodies.specs.declared.body.Item.{Item}
use Rattle.lsys_bodies.specs.declared.body.Item.TheVariants as items
use Rattle.lsys_bodies.specs.declared.body.Template.{Template}
use Rattle.lsys_bodies.specs.declared.body.Template.TheVariants as templates
use Rattle.lsys_bodies.specs.declared.body.Body.{Body}
use Rattle.lsys_bodies.specs.declared.rule.Rule.{Rule}
use Rattle.lsys_bodies.specs.declared.rule.HomRule.{HomRule}

-- 1. how a rule is written

-- the syntax tree of an expression
abbrev pub expr_in : Expression → Expr
expr_in e = e.spelled

abbrev pub pattern_formals : Pattern → List NameText
pattern_formals p = map name_of p.formals.items

abbrev pub pattern_symbol : Pattern → S.Symbol NameText
pattern_symbol p = S.Module (module_name p.name) (pattern_formals p)

abbrev pub item_symbol : Item → S.Symbol NameText
item_symbol items.Push = S.Push
item_symbol items.Pop = S.Pop
item_symbol (items.Pattern p) = pattern_symbol p

abbrev pub template_symbol : Template → S.Symbol Expr
template_symbol templates.Push = S.Push
template_symbol templates.Pop = S.Pop
template_symbol templates.Cut = S.Cut
template_symbol (templates.Module name params) = S.Module (module_name name) (map expr_in params.items)

abbrev pub as_rule : Body → R.Rule
as_rule b = record {
  left = map pattern_symbol b.left.items;
  name = module_name b.predecessor.name;
  formals = pattern_formals b.predecessor;
  right = map item_symbol b.right.items;
  condition = option_map expr_in b.condition;
  weight = option_map expr_in b.weight;
  successor = map template_symbol b.successor.items;
}

abbrev pub rule_of : Rule → R.Rule
rule_of r = as_rule r.body

abbrev pub as_production : Rule → R.Production
as_production r = record { table = r.table; label = r.label; rule = rule_of r }

abbrev pub homomorphism_of : HomRule → Homomorphism
homomorphism_of r = record { label = r.label; rule = as_rule r.body }

-- 2. what a body means

abbrev pub tree_in : Expression → Tree
tree_in e = e.tree

abbrev pub as_pattern : Pattern → spec.Pattern
as_pattern p = record { name = module_name p.name; arity = length p.formals.items }

-- the patterns that items are, and after each bracket that ends their branch the patterns around it
abbrev pub nest : List Item → PatternNest
nest [] = outermost Done
nest (items.Pattern p ∷ xs) = with_pattern (as_pattern p) (nest xs)
nest (items.Push ∷ xs) = opened (nest xs)
nest (items.Pop ∷ xs) = within Done (nest xs)

abbrev pub template_of : Template → S.Symbol Tree
template_of templates.Push = S.Push
template_of templates.Pop = S.Pop
template_of templates.Cut = S.Cut
template_of (templates.Module name params) = S.Module (module_name name) (map tree_in params.items)

abbrev pub body_value : Body → spec.Body
body_value b = record {
  left = map as_pattern b.left.items;
  own = as_pattern b.predecessor;
  right = innermost (nest b.right.items);
  condition = option_map tree_in b.condition;
  weight = option_map tree_in b.weight;
  successor = map template_of b.successor.items;
}
