-- The tests of equality: what is equal passes them.
use Rattle.std.proofs.Common.{◌≡◌, ℕ, Bool, true, ◌&&◌, Option, Some, None, List, [], ◌∷◌, refl, ap, eq-eqb, arith}
use Rattle.std.specs.Prelude.{ℤ, pos, ◌-ℤ◌}
use Rattle.std.proofs.lemmas.Bool.{eqb-true}
use Rattle.std.proofs.lemmas.Int.{ints}
use Rattle.std.proofs.lemmas.Slice.Eq.{bytes_eq-Decides}
use Rattle.lsys_syntax.specs.Strings.{ModuleName}
use Rattle.lsys_syntax.specs.Strings as S
use Rattle.lsys_syntax.specs.Expressions.{TermOp, multiply, divide, remainder, SumOp, add, subtract, RelOp, equal, unequal, less, at_most, greater, at_least}
use Rattle.lsys_spec.specs.Systems.{same_name, module_name_text}
use Rattle.lsys_spec.specs.Values.{Tree, Constant, Formal, Negation, Inversion, Binary, Both, Either, Operator, sum_of, product_of, power_of, comparison, is_zero, int_same}
use Rattle.lsys_spec.specs.Bodies.{Body, Pattern, Patterns, Done, OneOf, BranchOf}
use Rattle.lsys_spec.specs.Levels.{ModuleValue, LevelSymbol, Push, Pop, Module}
use Rattle.lsys_spec.specs.Walks.{Mark, Entry, Compared, Ignored, Out, Branched}
use Rattle.lsys_spec.specs.Standings.{Standing, same_standing}
use Rattle.lsys_spec.specs.Equalities.{same_number, same_option, same_all, same_lineage, same_module, same_symbol, same_term_op, same_sum_op, same_rel_op, same_operator, same_tree, same_pattern, same_patterns, same_template, same_body, same_mark, same_entry}
use Rattle.lsys_spec.specs.Questions.{Question, same_question}
use Rattle.lsys_spec.proofs.Tests.{and_true, both}

pub same_option_refl : {A : Type 0} (f : A → A → Bool) → ((a : A) → f a a ≡ true) → (o : Option A) → same_option f o o ≡ true
same_option_refl f g None = refl
same_option_refl f g (Some a) = g a

pub same_all_refl : {A : Type 0} (f : A → A → Bool) → ((a : A) → f a a ≡ true) → (xs : List A) → same_all f xs xs ≡ true
same_all_refl f g [] = refl
same_all_refl f g (a ∷ xs) = and_true (f a a) (same_all f xs xs) (g a) (same_all_refl f g xs)

pub same_number_true : (a b : ℕ) → same_number a b ≡ true → a ≡ b
same_number_true a b h = eqb-true a b h

pub same_number_refl : (a : ℕ) → same_number a a ≡ true
same_number_refl a = eq-eqb a a refl

pub same_lineage_refl : (a : List ℕ) → same_lineage a a ≡ true
same_lineage_refl a = same_all_refl same_number same_number_refl a

pub same_lineage_true : (a b : List ℕ) → same_lineage a b ≡ true → a ≡ b
same_lineage_true [] [] h = refl
same_lineage_true [] (m ∷ b) h = cc
same_lineage_true (n ∷ a) [] h = cc
same_lineage_true (n ∷ a) (m ∷ b) h =
    let e = both (same_number n m) (same_lineage a b) h in
    let head : n ≡ m = same_number_true n m e.0 in
    let tail : a ≡ b = same_lineage_true a b e.1 in cc

-- names are the same where their texts are

pub same_name_text : (m n : ModuleName) → same_name m n ≡ true → module_name_text m ≡ module_name_text n
same_name_text m n h = (bytes_eq-Decides (module_name_text m) (module_name_text n)).0 h

pub text_same_name : (m n : ModuleName) → module_name_text m ≡ module_name_text n → same_name m n ≡ true
text_same_name m n h = (bytes_eq-Decides (module_name_text m) (module_name_text n)).1 h

pub same_name_refl : (n : ModuleName) → same_name n n ≡ true
same_name_refl n = text_same_name n n refl

-- what is equal passes

pub zero_difference : (x : ℤ) → is_zero (x -ℤ x) ≡ true
zero_difference x = let e : x -ℤ x ≡ pos 0 = omega (arith, ints) in ap is_zero e

same_module_refl : (m : ModuleValue) → same_module m m ≡ true
same_module_refl m = and_true (same_name m.name m.name) (same_all int_same m.params m.params) (same_name_refl m.name) (same_all_refl int_same zero_difference m.params)

pub same_symbol_refl : (s : LevelSymbol) → same_symbol s s ≡ true
same_symbol_refl (Push l) = same_lineage_refl l
same_symbol_refl (Pop l) = same_lineage_refl l
same_symbol_refl (Module l m) = and_true (same_lineage l l) (same_module m m) (same_lineage_refl l) (same_module_refl m)

same_term_op_refl : (o : TermOp) → same_term_op o o ≡ true
same_term_op_refl multiply = refl
same_term_op_refl divide = refl
same_term_op_refl remainder = refl

same_sum_op_refl : (o : SumOp) → same_sum_op o o ≡ true
same_sum_op_refl add = refl
same_sum_op_refl subtract = refl

same_rel_op_refl : (o : RelOp) → same_rel_op o o ≡ true
same_rel_op_refl equal = refl
same_rel_op_refl unequal = refl
same_rel_op_refl less = refl
same_rel_op_refl at_most = refl
same_rel_op_refl greater = refl
same_rel_op_refl at_least = refl

same_operator_refl : (o : Operator) → same_operator o o ≡ true
same_operator_refl (sum_of o) = same_sum_op_refl o
same_operator_refl (product_of o) = same_term_op_refl o
same_operator_refl power_of = refl
same_operator_refl (comparison o) = same_rel_op_refl o

same_tree_refl : (t : Tree) → same_tree t t ≡ true
same_tree_refl (Constant n) = same_number_refl n
same_tree_refl (Formal i) = same_number_refl i
same_tree_refl (Negation t) = same_tree_refl t
same_tree_refl (Inversion t) = same_tree_refl t
same_tree_refl (Binary o t u) =
    and_true (same_operator o o) (same_tree t t && same_tree u u) (same_operator_refl o) (and_true (same_tree t t) (same_tree u u) (same_tree_refl t) (same_tree_refl u))
same_tree_refl (Both t u) = and_true (same_tree t t) (same_tree u u) (same_tree_refl t) (same_tree_refl u)
same_tree_refl (Either t u) = and_true (same_tree t t) (same_tree u u) (same_tree_refl t) (same_tree_refl u)

same_pattern_refl : (q : Pattern) → same_pattern q q ≡ true
same_pattern_refl q = and_true (same_name q.name q.name) (same_number q.arity q.arity) (same_name_refl q.name) (same_number_refl q.arity)

same_patterns_refl : (p : Patterns) → same_patterns p p ≡ true
same_patterns_refl Done = refl
same_patterns_refl (OneOf q p) = and_true (same_pattern q q) (same_patterns p p) (same_pattern_refl q) (same_patterns_refl p)
same_patterns_refl (BranchOf q p) = and_true (same_patterns q q) (same_patterns p p) (same_patterns_refl q) (same_patterns_refl p)

same_template_refl : (a : S.Symbol Tree) → same_template a a ≡ true
same_template_refl (S.Module m ts) = and_true (same_name m m) (same_all same_tree ts ts) (same_name_refl m) (same_all_refl same_tree same_tree_refl ts)
same_template_refl S.Push = refl
same_template_refl S.Pop = refl
same_template_refl S.Cut = refl

same_body_refl : (b : Body) → same_body b b ≡ true
same_body_refl b =
    and_true (same_all same_pattern b.left b.left) _ (same_all_refl same_pattern same_pattern_refl b.left)
    (and_true (same_pattern b.own b.own) _ (same_pattern_refl b.own)
    (and_true (same_patterns b.right b.right) _ (same_patterns_refl b.right)
    (and_true (same_option same_tree b.condition b.condition) _ (same_option_refl same_tree same_tree_refl b.condition)
    (and_true (same_option same_tree b.weight b.weight) _ (same_option_refl same_tree same_tree_refl b.weight)
    (same_all_refl same_template same_template_refl b.successor)))))

same_mark_refl : (d : Mark) → same_mark d d ≡ true
same_mark_refl d = and_true (same_number d.rule d.rule) (same_number d.depth d.depth) (same_number_refl d.rule) (same_number_refl d.depth)

same_entry_refl : (e : Entry) → same_entry e e ≡ true
same_entry_refl (Compared d s) = and_true (same_mark d d) (same_symbol s s) (same_mark_refl d) (same_symbol_refl s)
same_entry_refl (Ignored d s) = and_true (same_mark d d) (same_symbol s s) (same_mark_refl d) (same_symbol_refl s)
same_entry_refl (Out d l) = and_true (same_mark d d) (same_lineage l l) (same_mark_refl d) (same_lineage_refl l)
same_entry_refl (Branched d o c) =
    and_true (same_mark d d) _ (same_mark_refl d) (and_true (same_lineage o o) (same_lineage c c) (same_lineage_refl o) (same_lineage_refl c))

pub same_question_refl : (q : Question) → same_question q q ≡ true
same_question_refl q =
    and_true (same_number q.level q.level) _ (same_number_refl q.level)
    (and_true (same_symbol q.own q.own) _ (same_symbol_refl q.own)
    (and_true (same_all same_body q.bodies q.bodies) _ (same_all_refl same_body same_body_refl q.bodies)
    (and_true (same_option same_number q.key q.key) (same_all same_entry q.trace q.trace) (same_option_refl same_number same_number_refl q.key)
    (same_all_refl same_entry same_entry_refl q.trace))))

same_standing_refl : (s : Standing) → same_standing s s ≡ true
same_standing_refl s =
    and_true (same_option same_symbol s.symbol s.symbol) _ (same_option_refl same_symbol same_symbol_refl s.symbol)
    (and_true (same_option same_symbol s.before s.before) _ (same_option_refl same_symbol same_symbol_refl s.before)
    (and_true (same_option same_symbol s.after s.after) (same_option same_lineage s.mate s.mate) (same_option_refl same_symbol same_symbol_refl s.after)
    (same_option_refl same_lineage same_lineage_refl s.mate)))

pub same_standings_refl : (o : Option Standing) → same_option same_standing o o ≡ true
same_standings_refl o = same_option_refl same_standing same_standing_refl o
