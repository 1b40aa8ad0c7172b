-- Other rules are told by names and numbers of parameters.
use Rattle.std.proofs.Common.{◌≡◌, ◌<◌, ℕ, ◌^◌, Bool, true, false, not, ◌&&◌, ◌||◌, ◌==◌, List, [], ◌∷◌, length, Option, Some, None, is_some, refl, ap, sym, ◌∙◌, arith, if◌then◌else◌, true≢false}
use Rattle.std.proofs.lemmas.Bool.{eqb-true}
use Rattle.std.proofs.lemmas.Bool.Decides.{nat_tests}
use Rattle.lsys_spec.specs.Systems.{System}
use Rattle.std.specs.List.{list_any}
use Rattle.lsys_bodies.specs.declared.rule.Rule.{Rule}
use Rattle.lsys_bodies.specs.Views.{rule_of}
use Rattle.lsys_spec.specs.Bodies.{Body, body_of, filter}
use Rattle.lsys_spec.specs.Draws.{key_of}
use Rattle.lsys_spec.specs.Levels.{ModuleValue}
use Rattle.lsys_spec.specs.Meaning.{any_weight, key_for}
use Rattle.lsys_spec.specs.Equalities.{same_number, same_option, same_tree, same_pattern, same_patterns, same_template, same_all, same_body}
use Rattle.lsys_spec.specs.Standings.{free, same_filter}
use Rattle.lsys_laws.specs.Groups.{module_rules, has_same_rules}
use Rattle.lsys_laws.proofs.Keys.{key_back}
use Rattle.lsys_front.specs.Others.{are_alike, meant_bodies}

-- 1. groups with the same bodies have weights both or neither

first_of : (x y : Bool) → (x && y) ≡ true → x ≡ true
first_of true y h = refl
first_of false y h = cc

second_of : (x y : Bool) → (x && y) ≡ true → y ≡ true
second_of true y h = h
second_of false y h = cc

fifth : (a b c d e f : Bool) → (a && (b && (c && (d && (e && f))))) ≡ true → e ≡ true
fifth a b c d e f h =
    first_of e f (second_of d (e && f) (second_of c (d && (e && f)) (second_of b (c && (d && (e && f))) (second_of a (b && (c && (d && (e && f)))) h))))

some_both : {A : Type 0} (same : A → A → Bool) (a b : Option A) → same_option same a b ≡ true → is_some a ≡ is_some b
some_both same None None h = refl
some_both same (Some a) (Some b) h = refl
some_both same None (Some b) h = cc
some_both same (Some a) None h = cc

weight_both : (a b : Body) → same_body a b ≡ true → is_some a.weight ≡ is_some b.weight
weight_both a b h = some_both same_tree a.weight b.weight (fifth (same_all same_pattern a.left b.left) (same_pattern a.own b.own) (same_patterns a.right b.right)
    (same_option same_tree a.condition b.condition) (same_option same_tree a.weight b.weight) (same_all same_template a.successor b.successor) h)

pub weights_both : (xs ys : List Body) → same_all same_body xs ys ≡ true → any_weight xs ≡ any_weight ys
weights_both [] [] h = refl
weights_both [] (y ∷ ys) h = cc
weights_both (x ∷ xs) [] h = cc
weights_both (x ∷ xs) (y ∷ ys) h =
    let w = weight_both x y (first_of (same_body x y) (same_all same_body xs ys) h) in
    let r = weights_both xs ys (second_of (same_body x y) (same_all same_body xs ys) h) in
    ap (λ b. elim b [ true ↦ true | false ↦ any_weight xs ]) w ∙ ap (λ c. elim (is_some y.weight) [ true ↦ true | false ↦ c ]) r

or_else : (a b c : Bool) → b ≡ c → (a || b) ≡ (elim a [ true ↦ true | false ↦ c ])
or_else true b c h = refl
or_else false b c h = h

pub weights_among : (rs : List Rule) → list_any (λ r. is_some (body_of (rule_of r)).weight) rs ≡ any_weight (meant_bodies rs)
weights_among [] = refl
weights_among (r ∷ rs) = or_else (is_some (body_of (rule_of r)).weight) _ _ (weights_among rs)

-- 2. keys by seeds

by_seed : (a b : ℕ) (l : List ℕ) → a < 2 ^ 64 → b < 2 ^ 64 → (key_of a l == key_of b l) ≡ (a == b)
by_seed a b l p q = by_test (key_of a l == key_of b l) (a == b) refl refl
  where
    by_test : (s t : Bool) → (key_of a l == key_of b l) ≡ s → (a == b) ≡ t → s ≡ t
    by_test true true e f = refl
    by_test false false e f = refl
    by_test true false e f =
        let same = key_back a b l p q (eqb-true (key_of a l) (key_of b l) e) in
        let g : (a == b) ≡ true = grind (arith, nat_tests, same) in
        absurd (true≢false (sym g ∙ f))
    by_test false true e f =
        let same : key_of a l ≡ key_of b l = ap (λ s. key_of s l) (eqb-true a b f) in
        let g : (key_of a l == key_of b l) ≡ true = grind (arith, nat_tests, same) in
        absurd (true≢false (sym g ∙ e))

keys_by : (v w : Bool) (a b : ℕ) (l : List ℕ) → a < 2 ^ 64 → b < 2 ^ 64 → v ≡ w
    → same_option same_number (if v then Some (key_of a l) else None) (if w then Some (key_of b l) else None)
    ≡ (not w || (a == b))
keys_by true true a b l p q e = by_seed a b l p q
keys_by false false a b l p q e = refl
keys_by true false a b l p q e = cc
keys_by false true a b l p q e = cc

-- 3. so lineages do not matter

pub alike_is : (old new : System) (t : ℕ) (l : List ℕ) (m : ModuleValue) → old.seed < 2 ^ 64 → new.seed < 2 ^ 64
    → has_same_rules old new t l m ≡ are_alike old new t m.name (length m.params)
alike_is old new t l m p q = by (same_all same_body was are) refl
  where
    was : List Body
    was = module_rules old t m

    are : List Body
    are = module_rules new t m

    by : (s : Bool) → same_all same_body was are ≡ s
        → (s && (same_option same_number (key_for old l was) (key_for new l are) && (free are || same_filter (filter old t) (filter new t))))
        ≡ (s && ((not (any_weight are) || (old.seed == new.seed)) && (free are || same_filter (filter old t) (filter new t))))
    by false e = refl
    by true e = ap (λ b. b && (free are || same_filter (filter old t) (filter new t))) (keys_by (any_weight was) (any_weight are) old.seed new.seed l p q (weights_both was are e))
