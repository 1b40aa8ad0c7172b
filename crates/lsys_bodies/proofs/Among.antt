-- A name among names, as it is looked for and as it is defined.
use Rattle.std.proofs.Common.{◌≡◌, ℕ, Bool, true, false, ◌||◌, List, [], ◌∷◌, map, refl}
use Rattle.std.specs.List.{list_any}
use Rattle.lsys_syntax.specs.Strings.{ModuleName}
use Rattle.lsys_spec.specs.Meaning.{ignores}
use Rattle.lsys_spec.specs.Systems.{same_name}
use Rattle.lsys_module.specs.Views.{module_name}

step : (a b c : Bool) → b ≡ c → (a || b) ≡ (elim a [ true ↦ true | false ↦ c ])
step true b c h = refl
step false b c h = h

pub any_named : (n : ModuleName) (names : List (List ℕ)) → list_any (λ o. same_name (module_name o) n) names ≡ ignores (map module_name names) n
any_named n [] = refl
any_named n (x ∷ xs) = step (same_name (module_name x) n) (list_any (λ o. same_name (module_name o) n) xs) (ignores (map module_name xs) n) (any_named n xs)
