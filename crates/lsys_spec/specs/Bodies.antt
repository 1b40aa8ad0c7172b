-- The body of a rule: what is left of it without its label, its table and the names of its formals.
use Rattle.std.specs.Prelude.{ℕ, Bool, Option, List, [], ◌∷◌, ◌==◌, ◌%◌, ◌&&◌, bytes_eq, zero, suc, length, map, if◌then◌else◌, option_map}
use Rattle.lsys_syntax.specs.Tokens.{NameText}
use Rattle.lsys_syntax.specs.Strings.{ModuleName}
use Rattle.lsys_syntax.specs.Strings as S
use Rattle.lsys_syntax.specs.Expressions.{Expr}
use Rattle.lsys_syntax.specs.Rules.{Rule, Production}
use Rattle.lsys_syntax.specs.Checks.{rule_formals}
use Rattle.lsys_syntax.specs.Commands.{ListKind, to_ignore}
use Rattle.lsys_spec.specs.Systems.{System, Own, main, same_name}
use Rattle.lsys_spec.specs.Values.{Tree, expr_tree}

-- a letter and a number of formals
pub record Pattern : Type 0 where
  pub name : ModuleName
  pub arity : ℕ

-- The patterns of a right context: a module and more patterns; a branch with its own patterns, and more patterns.
pub data Patterns : Type 0 where
  Done : Patterns
  OneOf : Pattern → Patterns → Patterns
  BranchOf : Patterns → Patterns → Patterns

pub record Body : Type 0 where
  pub left : List Pattern
  pub own : Pattern
  pub right : Patterns
  pub condition : Option Tree
  pub weight : Option Tree
  pub successor : List (S.Symbol Tree)

abbrev pub pattern_of : ModuleName → List NameText → Pattern
pattern_of n fs = record { name = n; arity = length fs }

-- (In a well-spelled system a left context has modules alone, so no bracket is passed over.)
abbrev pub left_patterns : List (S.Symbol NameText) → List Pattern
left_patterns [] = []
left_patterns (S.Module n fs ∷ xs) = pattern_of n fs ∷ left_patterns xs
left_patterns (x ∷ xs) = left_patterns xs

-- patterns, and after each bracket that ends their branch the patterns around it
pub data PatternNest : Type 0 where
  outermost : Patterns → PatternNest
  within : Patterns → PatternNest → PatternNest

abbrev pub with_pattern : Pattern → PatternNest → PatternNest
with_pattern q (outermost p) = outermost (OneOf q p)
with_pattern q (within p n) = within (OneOf q p) n

abbrev pub with_branch : Patterns → PatternNest → PatternNest
with_branch inner (outermost p) = outermost (BranchOf inner p)
with_branch inner (within p n) = within (BranchOf inner p) n

-- a branch is after its `[` (In a well-spelled system a right context is balanced, so there is always one around it.)
abbrev pub opened : PatternNest → PatternNest
opened (outermost inner) = outermost (BranchOf inner Done)
opened (within inner n) = with_branch inner n

-- (In a well-spelled system a right context has no cuts.)
abbrev pub nest_of : List (S.Symbol NameText) → PatternNest
nest_of [] = outermost Done
nest_of (S.Module n fs ∷ xs) = with_pattern (pattern_of n fs) (nest_of xs)
nest_of (S.Push ∷ xs) = opened (nest_of xs)
nest_of (S.Pop ∷ xs) = within Done (nest_of xs)
nest_of (S.Cut ∷ xs) = nest_of xs

abbrev pub innermost : PatternNest → Patterns
innermost (outermost p) = p
innermost (within p n) = p

abbrev pub right_patterns : List (S.Symbol NameText) → Patterns
right_patterns xs = innermost (nest_of xs)

abbrev pub templates : List NameText → List (S.Symbol Expr) → List (S.Symbol Tree)
templates fs [] = []
templates fs (S.Module n es ∷ xs) = S.Module n (map (expr_tree fs) es) ∷ templates fs xs
templates fs (S.Push ∷ xs) = S.Push ∷ templates fs xs
templates fs (S.Pop ∷ xs) = S.Pop ∷ templates fs xs
templates fs (S.Cut ∷ xs) = S.Cut ∷ templates fs xs

abbrev pub body_of : Rule → Body
body_of r = record {
  left = left_patterns r.left;
  own = pattern_of r.name r.formals;
  right = right_patterns r.right;
  condition = option_map (expr_tree (rule_formals r)) r.condition;
  weight = option_map (expr_tree (rule_formals r)) r.weight;
  successor = templates (rule_formals r) r.successor;
}

-- (The schedule of a well-formed system isn't empty, and the place is a remainder by its length, so `main` doesn't stand in for a word.)
abbrev pub word_at : List (List ℕ) → ℕ → List ℕ
word_at [] i = main
word_at (w ∷ ws) zero = w
word_at (w ∷ ws) (suc i) = word_at ws i

-- the table of the step from level t: word number t mod n of a schedule of n words
abbrev pub table_at : List (List ℕ) → ℕ → List ℕ
table_at ws t = word_at ws (t % length ws)

-- the rules of the table of a level for a letter with a number of parameters, in order
abbrev pub is_for : List ℕ → ModuleName → ℕ → Production → Bool
is_for table n arity p = bytes_eq p.table table && (same_name p.rule.name n && (length p.rule.formals == arity))

abbrev pub group_in : List ℕ → ModuleName → ℕ → List Production → List Body
group_in table n arity [] = []
group_in table n arity (p ∷ ps) = if is_for table n arity p then body_of p.rule ∷ group_in table n arity ps else group_in table n arity ps

abbrev pub group : System → ℕ → ModuleName → ℕ → List Body
group s t n arity = group_in (table_at s.schedule t) n arity s.rules

-- what a level's ignored modules are told by: names to ignore, or to consider
pub record Filter : Type 0 where
  pub kind : ListKind
  pub names : List ModuleName

abbrev pub filter_in : List ℕ → List Own → List ModuleName → Filter
filter_in table [] ignored = record { kind = to_ignore; names = ignored }
filter_in table (o ∷ os) ignored = if bytes_eq o.table table then record { kind = o.kind; names = o.names } else filter_in table os ignored

-- the own list of the table of a level, or the ignored names where that table has none
abbrev pub filter : System → ℕ → Filter
filter s t = filter_in (table_at s.schedule t) s.own s.ignored
