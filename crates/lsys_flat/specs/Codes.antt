-- How the bodies of rules are stored where a proof compares them.
use Rattle.std.specs.Prelude.{◌≡◌, ℕ, List, [], ◌∷◌, refl}
use Rattle.std.proofs.Common.{ap}
use Rattle.std.specs.Coded.{Coded, code_by}
use base.Stored.{Gv, gnil, gnum, gcons}
use denote.Struct.Codes.{itself}
use Rattle.lsys_syntax.specs.Tokens.{short, long}
use Rattle.lsys_syntax.specs.Strings.{ModuleName, named, plus, minus, ampersand, caret, backslash, slash, bar, bang}
use Rattle.lsys_syntax.specs.Expressions.{only_and, only_rel, only_sum, only_term, only_unary, only_atom, number}
use Rattle.lsys_spec.specs.Values.{Tree}
use Rattle.lsys_spec.specs.Bodies.{Pattern, Patterns, Done, OneOf, BranchOf}
use Rattle.lsys_expr.specs.Expression.{Expression}
use Rattle.lsys_expr.specs.Codes.{expression_code}

-- 1. trees

-- a tree is stored as that of some expression
abbrev pub tree_code : Coded Tree
tree_code =
    code_by Expression expression_code (λ t. record { spelled = only_and (only_rel (only_sum (only_term (only_unary (only_atom (number 0)))))); tree = t }) (λ x. x.tree) (λ _. refl)

-- 2. names, and back

abbrev numbers_code : List ℕ → Gv
numbers_code [] = gnil
numbers_code (n ∷ ns) = gcons (gnum n) (numbers_code ns)

abbrev number_from : Gv → ℕ
number_from gnil = 0
number_from (gnum n) = n
number_from (gcons x y) = 0

abbrev numbers_from : Gv → List ℕ
numbers_from gnil = []
numbers_from (gnum n) = []
numbers_from (gcons x y) = number_from x ∷ numbers_from y

pub numbers_back : (ns : List ℕ) → numbers_from (numbers_code ns) ≡ ns
numbers_back [] = refl
numbers_back (n ∷ ns) = ap (λ x. n ∷ x) (numbers_back ns)

abbrev name_code : ModuleName → Gv
name_code (named (short c)) = gnum c
name_code (named (long c more)) = gcons (gnum c) (numbers_code more)
name_code plus = gnil
name_code minus = gcons gnil gnil
name_code ampersand = gcons gnil (gcons gnil gnil)
name_code caret = gcons gnil (gcons gnil (gcons gnil gnil))
name_code backslash = gcons gnil (gnum 0)
name_code slash = gcons gnil (gcons gnil (gnum 0))
name_code bar = gcons gnil (gcons gnil (gcons gnil (gnum 0)))
name_code bang = gcons (gcons gnil gnil) gnil

abbrev name_from : Gv → ModuleName
name_from gnil = plus
name_from (gnum c) = named (short c)
name_from (gcons (gnum c) x) = named (long c (numbers_from x))
name_from (gcons (gcons x y) z) = bang
name_from (gcons gnil gnil) = minus
name_from (gcons gnil (gnum n)) = backslash
name_from (gcons gnil (gcons x gnil)) = ampersand
name_from (gcons gnil (gcons x (gnum n))) = slash
name_from (gcons gnil (gcons x (gcons y gnil))) = caret
name_from (gcons gnil (gcons x (gcons y (gnum n)))) = bar
name_from (gcons gnil (gcons x (gcons y (gcons z w)))) = bar

pub name_back : (n : ModuleName) → name_from (name_code n) ≡ n
name_back (named (short c)) = refl
name_back (named (long c more)) = ap (λ ns. named (long c ns)) (numbers_back more)
name_back plus = refl
name_back minus = refl
name_back ampersand = refl
name_back caret = refl
name_back backslash = refl
name_back slash = refl
name_back bar = refl
name_back bang = refl

-- 3. patterns, and back

abbrev module_code : Pattern → Gv
module_code p = gcons (gnum p.arity) (name_code p.name)

abbrev module_from : Gv → Pattern
module_from gnil = record { name = plus; arity = 0 }
module_from (gnum n) = record { name = plus; arity = 0 }
module_from (gcons x y) = record { name = name_from y; arity = number_from x }

pub module_back : (p : Pattern) → module_from (module_code p) ≡ p
module_back p = λ i. record { name = name_back p.name i; arity = p.arity }

abbrev patterns_code : Patterns → Gv
patterns_code Done = gnil
patterns_code (OneOf p ps) = gcons (gcons gnil (module_code p)) (patterns_code ps)
patterns_code (BranchOf inner ps) = gcons (gcons (gnum 0) (patterns_code inner)) (patterns_code ps)

abbrev patterns_from : Gv → Patterns
patterns_from gnil = Done
patterns_from (gnum n) = Done
patterns_from (gcons gnil y) = Done
patterns_from (gcons (gnum n) y) = Done
patterns_from (gcons (gcons gnil x) y) = OneOf (module_from x) (patterns_from y)
patterns_from (gcons (gcons (gnum n) x) y) = BranchOf (patterns_from x) (patterns_from y)
patterns_from (gcons (gcons (gcons v w) x) y) = Done

pub patterns_back : (ps : Patterns) → patterns_from (patterns_code ps) ≡ ps
patterns_back Done = refl
patterns_back (OneOf p ps) = λ i. OneOf (module_back p i) (patterns_back ps i)
patterns_back (BranchOf inner ps) = λ i. BranchOf (patterns_back inner i) (patterns_back ps i)

-- how the patterns of a right context are stored
abbrev pub right_code : Coded Patterns
right_code = code_by Gv itself patterns_code patterns_from patterns_back
