-- The tables of rules, one after another.
use Rattle.std.proofs.Common.{◌≡◌, ℕ, ◌+◌, ◌<◌, Bool, true, false, ◌||◌, List, [], ◌∷◌, drop, length, get_or, map, refl, ap, sym, ◌∙◌}
use Rattle.std.specs.List.{list_any}
use Rattle.lsys_syntax.specs.Strings.{ModuleName}
use Rattle.lsys_spec.specs.Meaning.{ignores}
use Rattle.lsys_spec.specs.Walks as W
use Rattle.lsys_spec.specs.Systems.{any, is_table, same_name, with_table, tables_onto}
use Rattle.lsys_bodies.specs.declared.rule.Rule.{Rule}
use Rattle.lsys_bodies.specs.Views.{as_production}
use Rattle.lsys_bodies.proofs.Loops.{drop-here}

pub any_same : {A : Type 0} (p : A → Bool) (xs : List A) → any p xs ≡ list_any p xs
any_same p [] = refl
any_same p (x ∷ xs) = ap (λ b. p x || b) (any_same p xs)

-- the tables with those of the rules from one on
pub tables_step : (rs : List Rule) (i : ℕ) (r : Rule) (ts us : List (List ℕ)) (all : List (List ℕ)) → i < length rs → r ≡ get_or rs i r
    → tables_onto ts (map as_production (drop i rs)) ≡ all → us ≡ with_table (is_table ts r.table) ts r.table → tables_onto us (map as_production (drop (i + 1) rs)) ≡ all
tables_step rs i r ts us all h e g f = ap (λ vs. tables_onto vs (map as_production (drop (i + 1) rs))) f ∙ ap (λ qs. tables_onto ts (map as_production qs)) (sym (drop-here rs i r h e)) ∙ g

pub any_map : {A B : Type 0} (p : B → Bool) (f : A → B) (xs : List A) → list_any (λ x. p (f x)) xs ≡ list_any p (map f xs)
any_map p f [] = refl
any_map p f (x ∷ xs) = ap (λ b. p (f x) || b) (any_map p f xs)

walks_any : {A : Type 0} (p : A → Bool) (xs : List A) → list_any p xs ≡ W.any_holds p xs
walks_any p [] = refl
walks_any p (x ∷ xs) = by (p x) (list_any p xs) (W.any_holds p xs) (walks_any p xs)
  where
    by : (a b c : Bool) → b ≡ c → (a || b) ≡ (elim a [ true ↦ true | false ↦ c ])
    by true b c h = refl
    by false b c h = h

pub ignores_same : (names : List ModuleName) (n : ModuleName) → list_any (λ y. same_name y n) names ≡ ignores names n
ignores_same names n = walks_any (λ y. same_name y n) names
