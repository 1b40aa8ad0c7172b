-- In the class, what a letter gives is the successor of the first rule for it, without its expressions.
use Rattle.std.proofs.Common.{◌≡◌, ℕ, Bool, true, false, List, [], ◌∷◌, refl, ap, ◌∙◌}
use Rattle.std.specs.Prelude.{ℤ, Option, Some, None, Result, Ok, if◌then◌else◌}
use Rattle.lsys_syntax.specs.Strings.{ModuleName}
use Rattle.lsys_syntax.specs.Strings as S
use Rattle.lsys_syntax.specs.Expressions.{Expr}
use Rattle.lsys_syntax.specs.Rules.{Rule, Production}
use Rattle.lsys_spec.specs.Systems.{System}
use Rattle.lsys_spec.specs.Bodies.{Body, body_of, templates, is_for, group_in, table_at}
use Rattle.lsys_spec.specs.Levels.{ModuleValue, Module, way, items_from}
use Rattle.lsys_spec.specs.Choice.{Fault, choice}
use Rattle.lsys_spec.specs.Meaning.{any_weight, filled, successor_by, asking, key_for}
use Rattle.lsys_spec.specs.Standings.{free}
use Rattle.lsys_spec.specs.Morphisms.{IsContextFree, IsUnweighted, given_alone}
use Rattle.lsys_spec.proofs.Tests.{both}
use Rattle.lsys_growth.specs.Growth.{is_nil, is_none, is_bare, is_plain_rule, all_plain, in_class}
use Rattle.lsys_growth.specs.Counts.{without_params, given_in, given}

nil_is : {A : Type 0} (xs : List A) → is_nil xs ≡ true → xs ≡ []
nil_is [] h = refl
nil_is (x ∷ xs) h = cc

none_is : {A : Type 0} (o : Option A) → is_none o ≡ true → o ≡ None
none_is None h = refl
none_is (Some a) h = cc

-- what a rule of the class is
pub record IsPlain (r : Rule) : Type 0 where
  pub left : r.left ≡ []
  pub right : r.right ≡ []
  pub formals : r.formals ≡ []
  pub condition : r.condition ≡ None
  pub weight : r.weight ≡ None
  pub successor : is_bare r.successor ≡ true

pub plain_rule : (r : Rule) → is_plain_rule r ≡ true → IsPlain r
plain_rule r h =
    let a = both (is_nil r.left) _ h in
    let b = both (is_nil r.right) _ a.1 in
    let c = both (is_nil r.formals) _ b.1 in
    let d = both (is_none r.condition) _ c.1 in
    let e = both (is_none r.weight) _ d.1 in
    record { left = nil_is r.left a.0; right = nil_is r.right b.0; formals = nil_is r.formals c.0; condition = none_is r.condition d.0; weight = none_is r.weight e.0; successor = e.1 }

-- a bare successor is filled without a value
filled_bare : (xs : List (S.Symbol Expr)) → is_bare xs ≡ true → filled (templates [] xs) [] ≡ Ok (without_params xs)
filled_bare [] h = refl
filled_bare (S.Module n (e ∷ es) ∷ xs) h = cc
filled_bare (S.Module n [] ∷ xs) h = rw (filled_bare xs h) refl
filled_bare (S.Push ∷ xs) h = rw (filled_bare xs h) refl
filled_bare (S.Pop ∷ xs) h = rw (filled_bare xs h) refl
filled_bare (S.Cut ∷ xs) h = cc

-- without weights in all rules the group has none
unweighted : (table : List ℕ) (n : ModuleName) (arity : ℕ) (ps : List Production) → all_plain ps ≡ true → any_weight (group_in table n arity ps) ≡ false
unweighted table n arity [] h = refl
unweighted table n arity (p ∷ ps) h =
    let e = both (is_plain_rule p.rule) (all_plain ps) h in
    let q = plain_rule p.rule e.0 in
    by (is_for table n arity p) q.weight (unweighted table n arity ps e.1)
  where
    by : (b : Bool) → p.rule.weight ≡ None → any_weight (group_in table n arity ps) ≡ false → any_weight (if b then body_of p.rule ∷ group_in table n arity ps else group_in table n arity ps) ≡ false
    by true w rest = rw w rest
    by false w rest = rest

all_free : (table : List ℕ) (n : ModuleName) (arity : ℕ) (ps : List Production) → all_plain ps ≡ true → free (group_in table n arity ps) ≡ true
all_free table n arity [] h = refl
all_free table n arity (p ∷ ps) h =
    let e = both (is_plain_rule p.rule) (all_plain ps) h in
    let q = plain_rule p.rule e.0 in
    by (is_for table n arity p) q.left q.right (all_free table n arity ps e.1)
  where
    by : (b : Bool) → p.rule.left ≡ [] → p.rule.right ≡ [] → free (group_in table n arity ps) ≡ true → free (if b then body_of p.rule ∷ group_in table n arity ps else group_in table n arity ps) ≡ true
    by true l r rest = rw (l, r) rest
    by false l r rest = rest

pub class_free : (s : System) → in_class s ≡ true → (t : ℕ) → IsContextFree s t
class_free s h t n arity = all_free (table_at s.schedule t) n arity s.rules (both (is_bare s.axiom_string) (all_plain s.rules) h).1

pub class_unweighted : (s : System) → in_class s ≡ true → (t : ℕ) → IsUnweighted s t
class_unweighted s h t n arity = unweighted (table_at s.schedule t) n arity s.rules (both (is_bare s.axiom_string) (all_plain s.rules) h).1

abbrev letter : ModuleName → ModuleValue
letter n = record { name = n; params = [] }

-- the first rule of a group decides
first_decides : (s : System) (t : ℕ) (n : ModuleName) (r : Rule) (bs : List Body) → IsPlain r
    → successor_by (body_of r ∷ bs) (letter n) (choice (asking s t (letter n)) None (way (Module [] (letter n) ∷ []) 0) (items_from (Module [] (letter n) ∷ []) 1) (body_of r ∷ bs)).answer ≡ Ok (without_params r.successor)
first_decides s t n r bs q = rw (q.left, q.right, q.formals, q.condition, filled_bare r.successor q.successor) refl

alone_in : (s : System) (t : ℕ) (table : List ℕ) (n : ModuleName) (ps : List Production) → all_plain ps ≡ true
    → (let bs = group_in table n 0 ps in successor_by bs (letter n) (choice (asking s t (letter n)) None (way (Module [] (letter n) ∷ []) 0) (items_from (Module [] (letter n) ∷ []) 1) bs).answer) ≡ Ok (given_in table n ps)
alone_in s t table n [] h = refl
alone_in s t table n (p ∷ ps) h =
    let e = both (is_plain_rule p.rule) (all_plain ps) h in
    by (is_for table n 0 p) (first_decides s t n p.rule (group_in table n 0 ps) (plain_rule p.rule e.0)) (alone_in s t table n ps e.1)
  where
    given_by : Bool → List (S.Symbol ℤ)
    given_by b = if b then without_params p.rule.successor else given_in table n ps

    chosen : List Body → Result (List (S.Symbol ℤ)) Fault
    chosen bs = successor_by bs (letter n) (choice (asking s t (letter n)) None (way (Module [] (letter n) ∷ []) 0) (items_from (Module [] (letter n) ∷ []) 1) bs).answer

    by : (b : Bool) → chosen (body_of p.rule ∷ group_in table n 0 ps) ≡ Ok (without_params p.rule.successor) → chosen (group_in table n 0 ps) ≡ Ok (given_in table n ps)
        → chosen (if b then body_of p.rule ∷ group_in table n 0 ps else group_in table n 0 ps) ≡ Ok (if b then without_params p.rule.successor else given_in table n ps)
    by true f g = f
    by false f g = g

-- what a letter gives, standing alone
pub given_is : (s : System) → in_class s ≡ true → (t : ℕ) (n : ModuleName) → given_alone s t (letter n) ≡ Ok (given s t n)
given_is s h t n =
    let table = table_at s.schedule t in
    let plain = (both (is_bare s.axiom_string) (all_plain s.rules) h).1 in
    let bs = group_in table n 0 s.rules in
    ap (λ key. successor_by bs (letter n) (choice (asking s t (letter n)) key (way (Module [] (letter n) ∷ []) 0) (items_from (Module [] (letter n) ∷ []) 1) bs).answer) (no_key bs (unweighted table n 0 s.rules plain))
    ∙ alone_in s t table n s.rules plain
  where
    no_key : (bs : List Body) → any_weight bs ≡ false → key_for s [] bs ≡ None
    no_key bs e = rw e refl
