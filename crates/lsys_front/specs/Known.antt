-- What is kept of the rules that were compared.
use Rattle.std.specs.Prelude.{◌≡◌, ◌==◌, ◌&&◌, ℕ, Bool, Some, bytes_eq}
use Rattle.std.specs.HashMap.{HashMap, get}
use Rattle.lsys_spec.specs.Systems.{System}
use Rattle.lsys_module.specs.Views.{module_name}
use Rattle.lsys_front.specs.declared.module_key.ModuleKey.{ModuleKey}
use Rattle.lsys_front.specs.Others.{are_alike}

abbrev pub same_module_key : ModuleKey → ModuleKey → Bool
same_module_key a b = bytes_eq a.name b.name && (a.arity == b.arity)

-- each answer that is kept is whether such modules have the rules that they had
abbrev pub KnowsAlike : {S : Type 0} → HashMap ModuleKey Bool S → System → System → ℕ → Type 0
KnowsAlike known old new t =
    (key : ModuleKey) (alike : Bool) → get same_module_key known key ≡ Some alike
    → alike ≡ are_alike old new t (module_name key.name) key.arity
