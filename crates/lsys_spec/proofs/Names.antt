-- Where names are names of the language, the tests of equality tell equality.
use Rattle.std.proofs.Common.{◌≡◌, ℕ, Bool, true, ◌&&◌, cond, eqb, Option, Some, None, List, [], ◌∷◌, refl, ap, sym, ◌∙◌, arith}
use Rattle.std.specs.Prelude.{ℤ, pos, negsuc, ◌-ℤ◌}
use Rattle.std.proofs.lemmas.Bool.{eqb-true}
use Rattle.std.proofs.lemmas.Int.{ints}
use Rattle.lsys_syntax.specs.Tokens.{short, long, is_letter}
use Rattle.lsys_syntax.specs.Strings.{ModuleName, named, plus, minus, ampersand, caret, backslash, slash, bar, bang, IsModuleName}
use Rattle.lsys_syntax.specs.Strings as S
use Rattle.lsys_syntax.specs.Expressions.{TermOp, multiply, divide, remainder, SumOp, add, subtract, RelOp, equal, unequal, less, at_most, greater, at_least}
use Rattle.lsys_spec.specs.Systems.{Each, same_name, module_name_text}
use Rattle.lsys_spec.specs.Values.{Tree, Constant, Formal, Negation, Inversion, Binary, Both, Either, Operator, sum_of, product_of, power_of, comparison, is_zero, int_same}
use Rattle.lsys_spec.specs.Bodies.{Body, Pattern, Patterns, Done, OneOf, BranchOf}
use Rattle.lsys_spec.specs.Levels.{ModuleValue, LevelSymbol, Push, Pop, Module}
use Rattle.lsys_spec.specs.Equalities.{same_number, same_option, same_all, same_lineage, same_module, same_symbol, same_term_op, same_sum_op, same_rel_op, same_operator, same_tree, same_pattern, same_patterns, same_template, same_body}
use Rattle.lsys_spec.specs.Standings.{Standing, same_standing}
use Rattle.lsys_spec.proofs.Equal.{same_number_true, same_lineage_true, same_name_text}
use Rattle.lsys_spec.proofs.Tests.{both}

-- 1. a name by its text

mark_at : ℕ → ModuleName
mark_at c =
    cond (eqb c 43) plus (cond (eqb c 45) minus (cond (eqb c 38) ampersand (cond (eqb c 94) caret
    (cond (eqb c 92) backslash (cond (eqb c 47) slash (cond (eqb c 124) bar bang))))))

name_at : List ℕ → ModuleName
name_at [] = plus
name_at (c ∷ []) = cond (is_letter c) (named (short c)) (mark_at c)
name_at (c ∷ d ∷ more) = named (long c more)

name_again : (m : ModuleName) → IsModuleName m → name_at (module_name_text m) ≡ m
unfolding name_at mark_at
name_again (named (short c)) h = ap (λ b. cond b (named (short c)) (mark_at c)) h
name_again (named (long c more)) h = refl
name_again plus h = refl
name_again minus h = refl
name_again ampersand h = refl
name_again caret h = refl
name_again backslash h = refl
name_again slash h = refl
name_again bar h = refl
name_again bang h = refl

same_name_true : (m n : ModuleName) → IsModuleName m → IsModuleName n → same_name m n ≡ true → m ≡ n
same_name_true m n a b h = sym (name_again m a) ∙ ap name_at (same_name_text m n h) ∙ name_again n b

-- 2. whose names are names of the language

abbrev pub NamedSymbol : LevelSymbol → Type 0
NamedSymbol (Push l) = Unit {0}
NamedSymbol (Pop l) = Unit {0}
NamedSymbol (Module l m) = IsModuleName m.name

abbrev pub NamedPattern : Pattern → Type 0
NamedPattern q = IsModuleName q.name

abbrev pub NamedPatterns : Patterns → Type 0
NamedPatterns Done = Unit {0}
NamedPatterns (OneOf q p) = NamedPattern q × NamedPatterns p
NamedPatterns (BranchOf q p) = NamedPatterns q × NamedPatterns p

abbrev pub NamedTemplate : {P : Type 0} → S.Symbol P → Type 0
NamedTemplate (S.Module m ts) = IsModuleName m
NamedTemplate S.Push = Unit {0}
NamedTemplate S.Pop = Unit {0}
NamedTemplate S.Cut = Unit {0}

pub record NamedBody (b : Body) : Type 0 where
  pub left : Each NamedPattern b.left
  pub own : NamedPattern b.own
  pub right : NamedPatterns b.right
  pub successor : Each NamedTemplate b.successor

abbrev pub InOption : {A : Type 0} → (A → Type 0) → Option A → Type 0
InOption V None = Unit {0}
InOption V (Some a) = V a

-- 3. the tests

pub same_option_true : {A : Type 0} (f : A → A → Bool) (V : A → Type 0) → ((a b : A) → V a → V b → f a b ≡ true → a ≡ b) → (o p : Option A) → InOption V o → InOption V p → same_option f o p ≡ true → o ≡ p
same_option_true f V g None None u v h = refl
same_option_true f V g (Some a) (Some b) u v h = ap (λ a. Some a) (g a b u v h)
same_option_true f V g None (Some b) u v h = cc
same_option_true f V g (Some a) None u v h = cc

pub same_all_true : {A : Type 0} (f : A → A → Bool) (V : A → Type 0) → ((a b : A) → V a → V b → f a b ≡ true → a ≡ b) → (xs ys : List A) → Each V xs → Each V ys → same_all f xs ys ≡ true → xs ≡ ys
same_all_true f V g [] [] u v h = refl
same_all_true f V g [] (b ∷ ys) u v h = cc
same_all_true f V g (a ∷ xs) [] u v h = cc
same_all_true f V g (a ∷ xs) (b ∷ ys) u v h =
    let e = both (f a b) (same_all f xs ys) h in
    ap (λ a. a ∷ xs) (g a b u.0 v.0 e.0) ∙ ap (λ xs. b ∷ xs) (same_all_true f V g xs ys u.1 v.1 e.1)

-- of what has no names

abbrev Any : {A : Type 0} → A → Type 0
Any a = Unit {0}

any_option : {A : Type 0} (o : Option A) → InOption Any o
any_option None = tt
any_option (Some a) = tt

any_list : {A : Type 0} (xs : List A) → Each Any xs
any_list [] = tt
any_list (a ∷ xs) = (tt, any_list xs)

pub same_plain_option : {A : Type 0} (f : A → A → Bool) → ((a b : A) → f a b ≡ true → a ≡ b) → (o p : Option A) → same_option f o p ≡ true → o ≡ p
same_plain_option f g o p h = same_option_true f Any (λ a b u v. g a b) o p (any_option o) (any_option p) h

pub same_plain_list : {A : Type 0} (f : A → A → Bool) → ((a b : A) → f a b ≡ true → a ≡ b) → (xs ys : List A) → same_all f xs ys ≡ true → xs ≡ ys
same_plain_list f g xs ys h = same_all_true f Any (λ a b u v. g a b) xs ys (any_list xs) (any_list ys) h

zero_true : (z : ℤ) → is_zero z ≡ true → z ≡ pos 0
zero_true (pos n) h = ap (λ n. pos n) (eqb-true n 0 h)
zero_true (negsuc n) h = cc

int_same_true : (x y : ℤ) → int_same x y ≡ true → x ≡ y
int_same_true x y h = let e : x -ℤ y ≡ pos 0 = zero_true (x -ℤ y) h in omega (arith, ints, e)

same_module_true : (m n : ModuleValue) → IsModuleName m.name → IsModuleName n.name → same_module m n ≡ true → m ≡ n
same_module_true m n u v h =
    let e = both (same_name m.name n.name) (same_all int_same m.params n.params) h in
    let p : m.name ≡ n.name = same_name_true m.name n.name u v e.0 in
    let q : m.params ≡ n.params = same_plain_list int_same int_same_true m.params n.params e.1 in
    λ i. record { name = p i; params = q i }

pub same_symbol_true : (s t : LevelSymbol) → NamedSymbol s → NamedSymbol t → same_symbol s t ≡ true → s ≡ t
same_symbol_true (Push l) (Push m) u v h = ap (λ l. Push l) (same_lineage_true l m h)
same_symbol_true (Pop l) (Pop m) u v h = ap (λ l. Pop l) (same_lineage_true l m h)
same_symbol_true (Module l a) (Module m b) u v h =
    let e = both (same_lineage l m) (same_module a b) h in
    ap (λ l. Module l a) (same_lineage_true l m e.0) ∙ ap (λ a. Module m a) (same_module_true a b u v e.1)
same_symbol_true s t u v h = cc

same_term_op_true : (a b : TermOp) → same_term_op a b ≡ true → a ≡ b
same_term_op_true multiply multiply h = refl
same_term_op_true divide divide h = refl
same_term_op_true remainder remainder h = refl
same_term_op_true a b h = cc

same_sum_op_true : (a b : SumOp) → same_sum_op a b ≡ true → a ≡ b
same_sum_op_true add add h = refl
same_sum_op_true subtract subtract h = refl
same_sum_op_true a b h = cc

same_rel_op_true : (a b : RelOp) → same_rel_op a b ≡ true → a ≡ b
same_rel_op_true equal equal h = refl
same_rel_op_true unequal unequal h = refl
same_rel_op_true less less h = refl
same_rel_op_true at_most at_most h = refl
same_rel_op_true greater greater h = refl
same_rel_op_true at_least at_least h = refl
same_rel_op_true a b h = cc

same_operator_true : (a b : Operator) → same_operator a b ≡ true → a ≡ b
same_operator_true (sum_of a) (sum_of b) h = ap (λ a. sum_of a) (same_sum_op_true a b h)
same_operator_true (product_of a) (product_of b) h = ap (λ a. product_of a) (same_term_op_true a b h)
same_operator_true power_of power_of h = refl
same_operator_true (comparison a) (comparison b) h = ap (λ a. comparison a) (same_rel_op_true a b h)
same_operator_true a b h = cc

same_tree_true : (t u : Tree) → same_tree t u ≡ true → t ≡ u
same_tree_true (Constant m) (Constant n) h = ap (λ n. Constant n) (same_number_true m n h)
same_tree_true (Formal m) (Formal n) h = ap (λ n. Formal n) (same_number_true m n h)
same_tree_true (Negation t) (Negation u) h = ap (λ t. Negation t) (same_tree_true t u h)
same_tree_true (Inversion t) (Inversion u) h = ap (λ t. Inversion t) (same_tree_true t u h)
same_tree_true (Binary a t u) (Binary b v w) h =
    let e = both (same_operator a b) (same_tree t v && same_tree u w) h in
    let f = both (same_tree t v) (same_tree u w) e.1 in
    let p : a ≡ b = same_operator_true a b e.0 in
    let q : t ≡ v = same_tree_true t v f.0 in
    let r : u ≡ w = same_tree_true u w f.1 in cc
same_tree_true (Both t u) (Both v w) h =
    let f = both (same_tree t v) (same_tree u w) h in
    let q : t ≡ v = same_tree_true t v f.0 in
    let r : u ≡ w = same_tree_true u w f.1 in cc
same_tree_true (Either t u) (Either v w) h =
    let f = both (same_tree t v) (same_tree u w) h in
    let q : t ≡ v = same_tree_true t v f.0 in
    let r : u ≡ w = same_tree_true u w f.1 in cc
same_tree_true t u h = cc

same_pattern_true : (p q : Pattern) → NamedPattern p → NamedPattern q → same_pattern p q ≡ true → p ≡ q
same_pattern_true p q u v h =
    let e = both (same_name p.name q.name) (same_number p.arity q.arity) h in
    let a : p.name ≡ q.name = same_name_true p.name q.name u v e.0 in
    let b : p.arity ≡ q.arity = same_number_true p.arity q.arity e.1 in
    λ i. record { name = a i; arity = b i }

same_patterns_true : (p q : Patterns) → NamedPatterns p → NamedPatterns q → same_patterns p q ≡ true → p ≡ q
same_patterns_true Done Done u v h = refl
same_patterns_true (OneOf q p) (OneOf r s) u v h =
    let e = both (same_pattern q r) (same_patterns p s) h in
    ap (λ q. OneOf q p) (same_pattern_true q r u.0 v.0 e.0) ∙ ap (λ p. OneOf r p) (same_patterns_true p s u.1 v.1 e.1)
same_patterns_true (BranchOf q p) (BranchOf r s) u v h =
    let e = both (same_patterns q r) (same_patterns p s) h in
    ap (λ q. BranchOf q p) (same_patterns_true q r u.0 v.0 e.0) ∙ ap (λ p. BranchOf r p) (same_patterns_true p s u.1 v.1 e.1)
same_patterns_true p q u v h = cc

same_template_true : (a b : S.Symbol Tree) → NamedTemplate a → NamedTemplate b → same_template a b ≡ true → a ≡ b
same_template_true (S.Module m ts) (S.Module n us) u v h =
    let e = both (same_name m n) (same_all same_tree ts us) h in
    ap (λ m. S.Module m ts) (same_name_true m n u v e.0) ∙ ap (λ ts. S.Module n ts) (same_plain_list same_tree same_tree_true ts us e.1)
same_template_true S.Push S.Push u v h = refl
same_template_true S.Pop S.Pop u v h = refl
same_template_true S.Cut S.Cut u v h = refl
same_template_true a b u v h = cc

pub same_body_true : (a b : Body) → NamedBody a → NamedBody b → same_body a b ≡ true → a ≡ b
same_body_true a b u v h =
    let e1 = both (same_all same_pattern a.left b.left) _ h in
    let e2 = both (same_pattern a.own b.own) _ e1.1 in
    let e3 = both (same_patterns a.right b.right) _ e2.1 in
    let e4 = both (same_option same_tree a.condition b.condition) _ e3.1 in
    let e5 = both (same_option same_tree a.weight b.weight) (same_all same_template a.successor b.successor) e4.1 in
    let p1 : a.left ≡ b.left = same_all_true same_pattern NamedPattern same_pattern_true a.left b.left u.left v.left e1.0 in
    let p2 : a.own ≡ b.own = same_pattern_true a.own b.own u.own v.own e2.0 in
    let p3 : a.right ≡ b.right = same_patterns_true a.right b.right u.right v.right e3.0 in
    let p4 : a.condition ≡ b.condition = same_plain_option same_tree same_tree_true a.condition b.condition e4.0 in
    let p5 : a.weight ≡ b.weight = same_plain_option same_tree same_tree_true a.weight b.weight e5.0 in
    let p6 : a.successor ≡ b.successor = same_all_true same_template NamedTemplate same_template_true a.successor b.successor u.successor v.successor e5.1 in
    λ i. record { left = p1 i; own = p2 i; right = p3 i; condition = p4 i; weight = p5 i; successor = p6 i }

pub record NamedStanding (s : Standing) : Type 0 where
  pub symbol : InOption NamedSymbol s.symbol
  pub before : InOption NamedSymbol s.before
  pub after : InOption NamedSymbol s.after

pub same_standing_true : (s t : Standing) → NamedStanding s → NamedStanding t → same_standing s t ≡ true → s ≡ t
same_standing_true s t u v h =
    let a = both (same_option same_symbol s.symbol t.symbol) _ h in
    let b = both (same_option same_symbol s.before t.before) _ a.1 in
    let c = both (same_option same_symbol s.after t.after) (same_option same_lineage s.mate t.mate) b.1 in
    let p : s.symbol ≡ t.symbol = same_option_true same_symbol NamedSymbol same_symbol_true s.symbol t.symbol u.symbol v.symbol a.0 in
    let q : s.before ≡ t.before = same_option_true same_symbol NamedSymbol same_symbol_true s.before t.before u.before v.before b.0 in
    let r : s.after ≡ t.after = same_option_true same_symbol NamedSymbol same_symbol_true s.after t.after u.after v.after c.0 in
    let w : s.mate ≡ t.mate = same_plain_option same_lineage same_lineage_true s.mate t.mate c.1 in
    λ i. record { symbol = p i; before = q i; after = r i; mate = w i }
