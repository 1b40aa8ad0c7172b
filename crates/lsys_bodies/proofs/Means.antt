-- What a body means is what its rule means.
use Rattle.std.proofs.Common.{◌≡◌, List, [], ◌∷◌, map, refl, ap, sym, subst, ◌∙◌}
use Rattle.std.proofs.lemmas.List.{length-map}
use Rattle.std.specs.Prelude.{option_map}
use Rattle.lsys_syntax.specs.Tokens.{NameText}
use Rattle.lsys_syntax.specs.Strings as S
use Rattle.lsys_syntax.specs.Expressions.{Expr}
use Rattle.lsys_syntax.specs.Rules as R
use Rattle.lsys_syntax.specs.Rules.{IsRule}
use Rattle.lsys_syntax.specs.Checks.{rule_formals}
use Rattle.lsys_spec.specs.Values.{expr_tree}
use Rattle.lsys_spec.specs.Bodies as spec
use Rattle.lsys_spec.specs.Bodies.{left_patterns, nest_of, innermost, with_pattern, opened, within, Done, templates, body_of}
use Rattle.lsys_text.specs.Tokens.{name_of}
use Rattle.lsys_module.specs.Views.{module_name}
use Rattle.lsys_bodies.specs.declared.body.Pattern.{Pattern}
use Rattle.lsys_bodies.specs.declared.body.Item.{Item}
use Rattle.lsys_bodies.specs.declared.body.Item.TheVariants as items
use Rattle.lsys_bodies.specs.declared.body.Body.{Body}
use Rattle.lsys_syntax.specs.Smalls.{IsSmall}
use Rattle.lsys_bodies.specs.Built.{IsBuilt}
use Rattle.lsys_bodies.specs.Views.{pattern_symbol, as_pattern, item_symbol, nest, tree_in, template_of, as_rule, body_value}
use Rattle.lsys_bodies.specs.Building.{CanBuild, symbol_tree}

pub pattern-means : (p : Pattern) → spec.pattern_of (module_name p.name) (map name_of p.formals.items) ≡ as_pattern p
pattern-means p = ap (λ n. record { name = module_name p.name; arity = n }) (length-map p.formals.items name_of)

pub left-means : (ps : List Pattern) → left_patterns (map pattern_symbol ps) ≡ map as_pattern ps
left-means [] = refl
left-means (p ∷ ps) = λ i. pattern-means p i ∷ left-means ps i

-- items as the symbols that they are written as
pub nest-means : (xs : List Item) → nest_of (map item_symbol xs) ≡ nest xs
nest-means [] = refl
nest-means (items.Pattern p ∷ xs) = λ i. with_pattern (pattern-means p i) (nest-means xs i)
nest-means (items.Push ∷ xs) = ap opened (nest-means xs)
nest-means (items.Pop ∷ xs) = ap (within Done) (nest-means xs)

pub templates-mean : (fs : List NameText) (xs : List (S.Symbol Expr)) → templates fs xs ≡ map (symbol_tree fs) xs
templates-mean fs [] = refl
templates-mean fs (S.Module n es ∷ xs) = ap (λ t. symbol_tree fs (S.Module n es) ∷ t) (templates-mean fs xs)
templates-mean fs (S.Push ∷ xs) = ap (λ t. S.Push ∷ t) (templates-mean fs xs)
templates-mean fs (S.Pop ∷ xs) = ap (λ t. S.Pop ∷ t) (templates-mean fs xs)
templates-mean fs (S.Cut ∷ xs) = ap (λ t. S.Cut ∷ t) (templates-mean fs xs)

-- The parts of a rule, as they are written; the expressions' trees are those that the definitions give.
pub record IsMade (b : Body) (r : R.Rule) : Type 0 where
  pub rule : as_rule b ≡ r
  pub condition : option_map tree_in b.condition ≡ option_map (expr_tree (rule_formals r)) r.condition
  pub weight : option_map tree_in b.weight ≡ option_map (expr_tree (rule_formals r)) r.weight
  pub successor : map template_of b.successor.items ≡ map (symbol_tree (rule_formals r)) r.successor

means : (b : Body) (r : R.Rule) → IsMade b r → body_of (as_rule b) ≡ body_value b
means b r h =
    let condition : option_map (expr_tree (rule_formals (as_rule b))) (as_rule b).condition ≡ option_map tree_in b.condition =
    ap (λ (q : R.Rule). option_map (expr_tree (rule_formals q)) q.condition) h.rule ∙ sym h.condition in
    let weight : option_map (expr_tree (rule_formals (as_rule b))) (as_rule b).weight ≡ option_map tree_in b.weight =
    ap (λ (q : R.Rule). option_map (expr_tree (rule_formals q)) q.weight) h.rule ∙ sym h.weight in
    let successor : templates (rule_formals (as_rule b)) (as_rule b).successor ≡ map template_of b.successor.items =
    templates-mean (rule_formals (as_rule b)) (as_rule b).successor ∙ ap (λ (q : R.Rule). map (symbol_tree (rule_formals q)) q.successor) h.rule ∙ sym h.successor in
    λ i. record {
      left = left-means b.left.items i;
      own = pattern-means b.predecessor i;
      right = innermost (nest-means b.right.items i);
      condition = condition i;
      weight = weight i;
      successor = successor i;
    }

-- the parts of a rule that can be built are a body
pub made-built : (b : Body) (r : R.Rule) → IsMade b r → CanBuild r → IsBuilt b
made-built b r h can = record { sentence = subst IsRule (sym h.rule) can.sentence; small = subst IsSmall (sym h.rule) can.small; means = means b r h }
