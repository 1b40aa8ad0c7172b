-- The texts of a rule's parts, as the code holds them.
use Rattle.std.specs.Prelude.{ℕ, Option, List, [], ◌∷◌, ◌++◌, map, option_map}
use Rattle.lsys_syntax.specs.Pieces.{text_of}
use Rattle.lsys_syntax.specs.Rules.{formal_pieces, left_pieces, right_pieces, rule_pieces, successor_pieces}
use Rattle.lsys_spec.specs.Shown.{as_put, as_put_homomorphism}
use Rattle.lsys_text.specs.Tokens.{name_of}
use Rattle.lsys_expr.specs.Expression.{Expression}
use Rattle.lsys_bodies.specs.declared.body.Body.{Body}
use Rattle.lsys_bodies.specs.declared.body.Item.{Item}
use Rattle.lsys_bodies.specs.declared.body.Pattern.{Pattern}
use Rattle.lsys_bodies.specs.declared.body.Template.{Template}
use Rattle.lsys_bodies.specs.declared.rule.HomRule.{HomRule}
use Rattle.lsys_bodies.specs.declared.rule.Rule.{Rule}
use Rattle.lsys_bodies.specs.Views.{homomorphism_of, item_symbol, pattern_symbol, as_production, expr_in, template_symbol, as_rule}
use Rattle.lsys_rules.specs.Showing.{expr_after, script_line}

-- 1. lines

-- the line of a production
abbrev pub production_line : Rule → List ℕ
production_line r = script_line (as_put (as_production r))

-- the line of a rule of the homomorphism
abbrev pub homomorphism_line : HomRule → List ℕ
homomorphism_line r = script_line (as_put_homomorphism (homomorphism_of r))

-- a rule without its label
abbrev pub body_text : Body → List ℕ
body_text b = text_of (rule_pieces (as_rule b))

-- a label and the rule after it, up to the line's end
abbrev pub labelled_line : List ℕ → Body → List ℕ
labelled_line label b = label ++ (58 ∷ 32 ∷ (body_text b ++ 10 ∷ []))

-- 2. contexts

-- a left context and the mark after it, where there is one
abbrev pub left_text : List Pattern → List ℕ
left_text ps = text_of (left_pieces (map pattern_symbol ps))

abbrev pub formal_text : List ℕ → List ℕ
formal_text f = text_of (formal_pieces (name_of f))

-- a right context and the mark before it, where there is one
abbrev pub right_text : List Item → List ℕ
right_text xs = text_of (right_pieces (map item_symbol xs))

-- 3. the condition, the weight and the successor

-- an expression after its mark, where there is one
abbrev pub expression_after : List ℕ → Option Expression → List ℕ
expression_after mark o = expr_after mark (option_map expr_in o)

-- a successor, after a blank where it has symbols
abbrev pub successor_text : List Template → List ℕ
successor_text xs = text_of (successor_pieces (map template_symbol xs))
