-- Whether a level has other rules for a module than before.
use Rattle.std.specs.Prelude.{◌≡◌, ◌&&◌, ◌||◌, ℕ, Bool, true, List, length}
use Rattle.lsys_syntax.specs.Strings.{ModuleName}
use Rattle.lsys_spec.specs.Systems.{System}
use Rattle.lsys_spec.specs.Bodies.{Body, group, filter}
use Rattle.lsys_spec.specs.Levels.{ModuleValue}
use Rattle.lsys_spec.specs.Meaning.{any_weight, key_for}
use Rattle.lsys_spec.specs.Equalities.{same_number, same_option, same_all, same_body}
use Rattle.lsys_spec.specs.Standings.{free, same_filter}

-- the rules of level t for a module
abbrev pub module_rules : System → ℕ → ModuleValue → List Body
module_rules s t m = group s t m.name (length m.params)

-- they are the same, and so is the key of the module of lineage l, if they have weights; and the same modules are ignored,
-- if they have contexts
abbrev pub has_same_rules : System → System → ℕ → List ℕ → ModuleValue → Bool
has_same_rules old new t l m =
    let was = module_rules old t m in
    let are = module_rules new t m in
    same_all same_body was are
    && (same_option same_number (key_for old l was) (key_for new l are)
    && (free are || same_filter (filter old t) (filter new t)))

-- The modules of this name and so many parameters have the same rules on level t, with the same seed if they have weights,
-- and the same filter if they have contexts.
pub record AreSameRules (old new : System) (t : ℕ) (n : ModuleName) (arity : ℕ) : Type 0 where
  pub groups : group old t n arity ≡ group new t n arity
  pub seed : any_weight (group new t n arity) ≡ true → old.seed ≡ new.seed
  pub filters : free (group new t n arity) || same_filter (filter old t) (filter new t) ≡ true
