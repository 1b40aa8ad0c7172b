-- Equality, as tests: of lineages, symbols, rules' bodies and entries.
use Rattle.std.specs.Prelude.{ℕ, Bool, true, false, Option, Some, None, List, [], ◌∷◌, ◌==◌, ◌&&◌}
use Rattle.lsys_syntax.specs.Strings as S
use Rattle.lsys_syntax.specs.Expressions.{TermOp, multiply, divide, remainder, SumOp, add, subtract, RelOp, equal, unequal, less, at_most, greater, at_least}
use Rattle.lsys_spec.specs.Systems.{same_name}
use Rattle.lsys_spec.specs.Values.{Tree, Constant, Formal, Negation, Inversion, Binary, Both, Either, Operator, sum_of, product_of, power_of, comparison, int_same}
use Rattle.lsys_spec.specs.Bodies.{Body, Pattern, Patterns, Done, OneOf, BranchOf}
use Rattle.lsys_spec.specs.Levels.{ModuleValue, LevelSymbol, Push, Pop, Module}
use Rattle.lsys_spec.specs.Walks.{Mark, Entry, Compared, Ignored, Out, Branched}

abbrev pub same_number : ℕ → ℕ → Bool
same_number a b = a == b

abbrev pub same_option : {A : Type 0} → (A → A → Bool) → Option A → Option A → Bool
same_option same None None = true
same_option same (Some a) (Some b) = same a b
same_option same a b = false

abbrev pub same_all : {A : Type 0} → (A → A → Bool) → List A → List A → Bool
same_all same [] [] = true
same_all same (a ∷ xs) (b ∷ ys) = same a b && same_all same xs ys
same_all same xs ys = false

abbrev pub same_lineage : List ℕ → List ℕ → Bool
same_lineage a b = same_all same_number a b

abbrev pub same_module : ModuleValue → ModuleValue → Bool
same_module m n = same_name m.name n.name && same_all int_same m.params n.params

abbrev pub same_symbol : LevelSymbol → LevelSymbol → Bool
same_symbol (Push l) (Push m) = same_lineage l m
same_symbol (Pop l) (Pop m) = same_lineage l m
same_symbol (Module l a) (Module m b) = same_lineage l m && same_module a b
same_symbol s t = false

abbrev pub same_term_op : TermOp → TermOp → Bool
same_term_op multiply multiply = true
same_term_op divide divide = true
same_term_op remainder remainder = true
same_term_op a b = false

abbrev pub same_sum_op : SumOp → SumOp → Bool
same_sum_op add add = true
same_sum_op subtract subtract = true
same_sum_op a b = false

abbrev pub same_rel_op : RelOp → RelOp → Bool
same_rel_op equal equal = true
same_rel_op unequal unequal = true
same_rel_op less less = true
same_rel_op at_most at_most = true
same_rel_op greater greater = true
same_rel_op at_least at_least = true
same_rel_op a b = false

abbrev pub same_operator : Operator → Operator → Bool
same_operator (sum_of a) (sum_of b) = same_sum_op a b
same_operator (product_of a) (product_of b) = same_term_op a b
same_operator power_of power_of = true
same_operator (comparison a) (comparison b) = same_rel_op a b
same_operator a b = false

abbrev pub same_tree : Tree → Tree → Bool
same_tree (Constant m) (Constant n) = m == n
same_tree (Formal i) (Formal j) = i == j
same_tree (Negation t) (Negation u) = same_tree t u
same_tree (Inversion t) (Inversion u) = same_tree t u
same_tree (Binary a t u) (Binary b v w) = same_operator a b && (same_tree t v && same_tree u w)
same_tree (Both t u) (Both v w) = same_tree t v && same_tree u w
same_tree (Either t u) (Either v w) = same_tree t v && same_tree u w
same_tree t u = false

abbrev pub same_pattern : Pattern → Pattern → Bool
same_pattern p q = same_name p.name q.name && (p.arity == q.arity)

abbrev pub same_patterns : Patterns → Patterns → Bool
same_patterns Done Done = true
same_patterns (OneOf q p) (OneOf r s) = same_pattern q r && same_patterns p s
same_patterns (BranchOf q p) (BranchOf r s) = same_patterns q r && same_patterns p s
same_patterns p q = false

abbrev pub same_template : S.Symbol Tree → S.Symbol Tree → Bool
same_template (S.Module m ts) (S.Module n us) = same_name m n && same_all same_tree ts us
same_template S.Push S.Push = true
same_template S.Pop S.Pop = true
same_template S.Cut S.Cut = true
same_template a b = false

abbrev pub same_body : Body → Body → Bool
same_body a b =
    same_all same_pattern a.left b.left && (same_pattern a.own b.own && (same_patterns a.right b.right
    && (same_option same_tree a.condition b.condition && (same_option same_tree a.weight b.weight && same_all same_template a.successor b.successor))))

abbrev pub same_mark : Mark → Mark → Bool
same_mark a b = (a.rule == b.rule) && (a.depth == b.depth)

abbrev pub same_entry : Entry → Entry → Bool
same_entry (Compared d s) (Compared e t) = same_mark d e && same_symbol s t
same_entry (Ignored d s) (Ignored e t) = same_mark d e && same_symbol s t
same_entry (Out d l) (Out e m) = same_mark d e && same_lineage l m
same_entry (Branched d o c) (Branched e p q) = same_mark d e && (same_lineage o p && same_lineage c q)
same_entry e f = false
