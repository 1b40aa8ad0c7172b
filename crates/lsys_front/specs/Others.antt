-- Whether a level has other rules for the modules of a name than the old system has there.
use Rattle.std.specs.Prelude.{◌≡◌, ◌==◌, ◌&&◌, ◌||◌, not, ℕ, Bool, true, false, List, [], ◌∷◌, length, map, bytes_eq}
use Rattle.lsys_syntax.specs.Strings.{ModuleName}
use Rattle.lsys_syntax.specs.Rules.{Production}
use Rattle.lsys_spec.specs.Systems.{System}
use Rattle.lsys_spec.specs.Bodies.{Body, body_of, group, filter, table_at}
use Rattle.lsys_spec.specs.Levels.{ModuleValue}
use Rattle.lsys_spec.specs.Meaning.{any_weight}
use Rattle.lsys_spec.specs.Equalities.{same_all, same_body}
use Rattle.lsys_spec.specs.Standings.{free, same_filter}
use Rattle.lsys_module.specs.Views.{module_name}
use Rattle.lsys_level.specs.Spots.{Module}
use Rattle.lsys_bodies.specs.declared.rule.Rule.{Rule}
use Rattle.lsys_bodies.specs.Views.{rule_of, as_production}
use Rattle.lsys_forest.specs.Nodes.{Nodes}
use Rattle.lsys_forest.specs.Pairs.{seen_at}

-- The modules of this name and so many parameters have the same bodies on level t; the seed is the same, if one has a weight; and
-- contexts pass over the same modules, if one has a context. No lineage is looked at.
abbrev pub are_alike : System → System → ℕ → ModuleName → ℕ → Bool
are_alike old new t n arity =
    let was = group old t n arity in
    let are = group new t n arity in
    same_all same_body was are
    && ((not (any_weight are) || (old.seed == new.seed))
    && (free are || same_filter (filter old t) (filter new t)))

-- the rules of a level, by an old system and by a new one
pub record RulesOf : Type 0 where
  pub old : System
  pub new : System
  pub level : ℕ

-- whether the modules of the name with this text and so many parameters have the rules that they had
abbrev pub alike_named : RulesOf → List ℕ → ℕ → Bool
alike_named r name arity = are_alike r.old r.new r.level (module_name name) arity

-- no modules have other rules, whatever their name and however many parameters they have
abbrev pub AreAllAlike : RulesOf → Type 0
AreAllAlike r = (n : ModuleName) (arity : ℕ) → are_alike r.old r.new r.level n arity ≡ true

-- the modules of some name and with so many parameters have other rules
pub record HasOther (r : RulesOf) : Type 0 where
  pub name : ModuleName
  pub arity : ℕ
  pub unlike : are_alike r.old r.new r.level name arity ≡ false

-- a rule is of another table, or the modules that it is for have the rules that they had
abbrev pub is_alike_for : RulesOf → List ℕ → Production → Bool
is_alike_for r table p =
    not (bytes_eq p.table table)
    || are_alike r.old r.new r.level p.rule.name (length p.rule.formals)

-- so of each of these rules
abbrev pub all_alike_for : RulesOf → List ℕ → List Production → Bool
all_alike_for r table [] = true
all_alike_for r table (p ∷ ps) = is_alike_for r table p && all_alike_for r table ps

-- and of those of a system, in its table of the level
abbrev pub all_alike_in : RulesOf → System → Bool
all_alike_in r s = all_alike_for r (table_at s.schedule r.level) s.rules

-- the productions that rules stand for
abbrev pub productions : List Rule → List Production
productions rules = map as_production rules

-- what the bodies of rules mean
abbrev pub meant_bodies : List Rule → List Body
meant_bodies rs = map (λ r. body_of (rule_of r)) rs

-- a node is a module whose rules on the level are others
pub record IsOtherwise {A : Type 0} (r : RulesOf) (m : Nodes A) (k : ℕ) : Type 0 where
  pub own : ModuleValue
  pub is : seen_at m k ≡ Module own
  pub rules : are_alike r.old r.new r.level own.name (length own.params) ≡ false
