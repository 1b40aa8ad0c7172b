-- What is seen of symbols.
use Rattle.std.proofs.Common.{◌≡◌, ℕ, ℤ, List, ap}
use Rattle.lsys_spec.specs.Levels.{ModuleValue}
use Rattle.lsys_module.specs.Views.{module_name}
use Rattle.lsys_level.specs.Spots.{Seen, Module}
use Rattle.lsys_level.specs.Views.{seen_of, HasFewParams}
use Rattle.lsys_level.specs.declared.sight.Sight.{Sight}
use Rattle.lsys_level.specs.declared.sight.Sight.TheVariants as sights
use Rattle.lsys_forest.specs.Groves.{HasFew}

-- what is seen of a module; two are the same only where their parameters are
abbrev pub seen_module : List ℕ → List ℤ → Seen
seen_module name params = Module (record { name = module_name name; params = params })

same_value : (a b : ModuleValue) → Module a ≡ Module b → a ≡ b
same_value a b e = cc

pub same_params : (m n : List ℕ) (p q : List ℤ) → seen_module m p ≡ seen_module n q → p ≡ q
same_params m n p q e =
    ap (λ (v : ModuleValue). v.params) (same_value (record { name = module_name m; params = p }) (record { name = module_name n; params = q }) e)

pub few_seen : (s : Sight) → HasFew (seen_of s) → HasFewParams s
few_seen sights.Push few = few
few_seen sights.Pop few = few
few_seen (sights.Module name params) few = few
