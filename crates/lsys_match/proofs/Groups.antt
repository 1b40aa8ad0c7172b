-- The rules of a group.
use Rattle.std.proofs.Common.{Bor, ap₂, eqb, ◌&&◌, is_some, zero, suc, ◌≡◌, ℕ, Bool, true, false, List, [], ◌∷◌, ◌+◌, ◌≤◌, ◌<◌, length, map, slice_get, drop, Option, Some, None, arith, ap, sym, ◌∙◌, refl, if◌then◌else◌}
use Rattle.lsys_bodies.specs.declared.body.Body.{Body as CodeBody}
use Rattle.lsys_bodies.specs.declared.rule.Rule.{Rule}
use Rattle.lsys_match.specs.Groups.{bodies_of, meant, rules_of}
use Rattle.lsys_spec.specs.Bodies.{Body}
use Rattle.lsys_spec.specs.Equalities.{same_all, same_body}
use Rattle.lsys_spec.specs.Meaning.{any_weight, ignores}
use Rattle.lsys_spec.specs.Standings.{all_ignored, free, no_left, no_patterns}
use Rattle.lsys_syntax.specs.Strings.{ModuleName}
use Rattle.lsys_module.specs.Views.{module_name}
use Rattle.std.specs.List.{list_all}
use Rattle.std.proofs.Math.Dec.{eqb-zero-suc, eqb-suc-suc}
use Rattle.std.specs.Prelude.{option_map}
use Rattle.std.proofs.lemmas.List.{length-map}
use Rattle.std.proofs.lemmas.Option.{same_Some, slice_get-map, slice_get_within}

-- the rule at a place, and those after it
pub at_place : {A : Type 0} (bs : List A) (i : ℕ) (b : A) → Some b ≡ slice_get bs i → (i < length bs) × (drop i bs ≡ b ∷ drop (i + 1) bs)
at_place bs i b h = (slice_get_within bs i b (sym h), front bs i b (sym h))
  where
    front : {A : Type 0} (bs : List A) (i : ℕ) (b : A) → slice_get bs i ≡ Some b → drop i bs ≡ b ∷ drop (i + 1) bs
    front [] i b h = cc h
    front (c ∷ bs) zero b h = ap (λ x. x ∷ bs) (same_Some c b h)
    front (c ∷ bs) (suc i) b h = let e : suc (i + 1) ≡ suc i + 1 = omega arith in front bs i b h ∙ ap (λ k. b ∷ drop k (c ∷ bs)) e

-- there is none after the last one
pub past_end : {A : Type 0} (bs : List A) (i : ℕ) → slice_get bs i ≡ None → drop i bs ≡ []
past_end [] zero h = refl
past_end [] (suc i) h = refl
past_end (c ∷ bs) zero h = cc h
past_end (c ∷ bs) (suc i) h = past_end bs i h

-- whether a rule from a place on has a weight
pub weight_on : (bs : List Body) (i : ℕ) (b : Body) → Some b ≡ slice_get bs i → any_weight (drop i bs) ≡ (if is_some b.weight then true else any_weight (drop (i + 1) bs))
weight_on bs i b h = ap any_weight (at_place bs i b h).1 ∙ by (is_some b.weight) (any_weight (drop (i + 1) bs))
  where
    by : (x y : Bool) → (elim x [ true ↦ true | false ↦ y ]) ≡ (if x then true else y)
    by true y = refl
    by false y = refl

-- whether no rule from a place on has a context
pub free_on : (bs : List Body) (i : ℕ) (b : Body) → Some b ≡ slice_get bs i → free (drop i bs) ≡ free (b ∷ []) && free (drop (i + 1) bs)
free_on bs i b h = ap free (at_place bs i b h).1 ∙ by (no_left b.left && no_patterns b.right) (free (drop (i + 1) bs))
  where
    by : (x y : Bool) → (x && y) ≡ ((x && true) && y)
    by true y = refl
    by false y = refl

-- each of some names is among others
pub all_named : (others : List ModuleName) (names : List (List ℕ)) → list_all (λ o. ignores others (module_name o)) names ≡ all_ignored (map module_name names) others
all_named others [] = refl
all_named others (x ∷ xs) = step (ignores others (module_name x)) _ _ (all_named others xs)
  where
    step : (a b c : Bool) → b ≡ c → (a && b) ≡ (a && c)
    step a b c h = ap (λ d. a && d) h

-- two groups that are compared from a place on

pub same_on : (xs ys : List Body) (i : ℕ) (x y : Body) → Some x ≡ slice_get xs i → Some y ≡ slice_get ys i → same_all same_body (drop i xs) (drop i ys) ≡ same_body x y && same_all same_body (drop (i + 1) xs) (drop (i + 1) ys)
same_on xs ys i x y h k = ap₂ (same_all same_body) (at_place xs i x h).1 (at_place ys i y k).1

-- the first is shorter
pub same_short : (xs ys : List Body) (i : ℕ) (y : Body) → slice_get xs i ≡ None → Some y ≡ slice_get ys i → same_all same_body (drop i xs) (drop i ys) ≡ false
same_short xs ys i y h k = ap₂ (same_all same_body) (past_end xs i h) (at_place ys i y k).1

-- the second ends here
pub same_end : (xs ys : List Body) (i : ℕ) → i ≤ length xs → slice_get ys i ≡ None → same_all same_body (drop i xs) (drop i ys) ≡ eqb i (length xs)
same_end xs ys i l h = ap (same_all same_body (drop i xs)) (past_end ys i h) ∙ by xs i l
  where
    by : (xs : List Body) (i : ℕ) → i ≤ length xs → same_all same_body (drop i xs) [] ≡ eqb i (length xs)
    by [] zero l = refl
    by [] (suc i) l = absurd (omega (arith, l))
    by (x ∷ xs) zero l = sym (eqb-zero-suc (length xs))
    by (x ∷ xs) (suc i) l = by xs i (omega (arith, l)) ∙ sym (eqb-suc-suc i (length xs))

-- the rules that are kept of a group

pub meant_at : (rs : List Rule) (i : ℕ) (o : Option Rule) → slice_get rs i ≡ o → slice_get (rules_of (bodies_of rs)) i ≡ option_map (λ r. meant r.body) o
meant_at rs i o h = slice_get-map meant (bodies_of rs) i ∙ ap (option_map meant) (slice_get-map (λ r. r.body) rs i) ∙ twice (slice_get rs i) ∙ ap (option_map (λ r. meant r.body)) h
  where
    twice : (o : Option Rule) → option_map meant (option_map (λ r. r.body) o) ≡ option_map (λ r. meant r.body) o
    twice None = refl
    twice (Some r) = refl

-- the meaning of a body that is lent
pub meant_lent : (o : Option (Bor CodeBody)) → option_map meant (option_map (λ b. b.now) o) ≡ option_map (λ b. meant b.now) o
meant_lent None = refl
meant_lent (Some b) = refl

pub length_bodies : (rs : List Rule) → length (rules_of (bodies_of rs)) ≡ length rs
length_bodies rs = length-map (bodies_of rs) meant ∙ length-map rs (λ r. r.body)
