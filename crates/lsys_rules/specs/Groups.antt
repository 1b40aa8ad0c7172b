-- The groups of some rules: those of a table that are for a letter with a number of parameters.
use Rattle.std.specs.Prelude.{◌≡◌, ℕ, Bool, true, false, ◌||◌, ◌&&◌, ◌==◌, Option, Some, None, List, [], ◌∷◌, ◌++◌, bytes_eq, filter, option_map, if◌then◌else◌}
use denote.Ref.{Bor}
use Rattle.std.specs.HashMap.{HashMap, get}
use Rattle.lsys_spec.specs.Bodies.{is_for}
use Rattle.lsys_text.specs.Packed.{packed}
use Rattle.lsys_text.specs.Texts.{IsNameBytes}
use Rattle.lsys_module.specs.Views.{module_name}
use Rattle.lsys_bodies.specs.declared.rule.Rule.{Rule}
use Rattle.lsys_bodies.specs.Views.{as_production}
use Rattle.lsys_rules.specs.declared.groups.GroupKey.{GroupKey}
use Rattle.lsys_rules.specs.declared.shared_group.SharedGroup.{SharedGroup}

abbrev pub same_key : GroupKey → GroupKey → Bool
same_key a b = bytes_eq a.table b.table && ((a.name == b.name) && (a.arity == b.arity))

abbrev pub group_key : List ℕ → List ℕ → ℕ → GroupKey
group_key table name arity = record { table = table; name = packed name; arity = arity }

-- the rules that were found; none where there is no group
abbrev pub rules_or_none : Option (List Rule) → List Rule
rules_or_none None = []
rules_or_none (Some rules) = rules

-- the rules of a group that was looked for; none where there is no group
abbrev pub found_rules : Option (Bor (List Rule)) → List Rule
found_rules o = rules_or_none (option_map (λ g. g.now) o)

-- the rules of a group
abbrev pub rules_at : {S : Type 0} → HashMap GroupKey SharedGroup S → GroupKey → List Rule
rules_at groups key = rules_or_none (get same_key groups key)

abbrev pub with_rule : Bool → List Rule → Rule → List Rule
with_rule b rules rule = if b then rules ++ rule ∷ [] else rules

-- whether a rule is one of its table for this letter with so many parameters
abbrev pub is_of : Rule → List ℕ → List ℕ → ℕ → Bool
is_of rule table name arity = is_for table (module_name name) arity (as_production rule)

-- whether there is a rule, and it is
abbrev pub is_some_of : Option Rule → List ℕ → List ℕ → ℕ → Bool
is_some_of None table name arity = false
is_some_of (Some rule) table name arity = is_of rule table name arity

-- whether this rule is, or the other one, where there is one
abbrev pub is_of_either : Rule → Option Rule → List ℕ → List ℕ → ℕ → Bool
is_of_either rule other table name arity = is_of rule table name arity || is_some_of other table name arity

-- of these rules, those of a table that are for a letter with so many parameters, in order
abbrev pub group_of : List Rule → List ℕ → List ℕ → ℕ → List Rule
group_of rules table name arity = filter (λ r. is_of r table name arity) rules

-- The group has the rules of its key among these.
abbrev pub IsGroup : List Rule → GroupKey → List Rule → Type 0
IsGroup rules key group =
    (table name : List ℕ) (arity : ℕ) → IsNameBytes name
    → same_key key (group_key table name arity) ≡ true → group ≡ group_of rules table name arity

-- The rules of each group are those of its table that are for its letter, in order.
abbrev pub AreGroups : {S : Type 0} → HashMap GroupKey SharedGroup S → List Rule → Type 0
AreGroups groups rules =
    (table name : List ℕ) (arity : ℕ) → IsNameBytes name
    → rules_at groups (group_key table name arity) ≡ group_of rules table name arity

-- At the key the new groups have this one, and the others are as they were.
abbrev pub HasGroup : {S : Type 0} → HashMap GroupKey SharedGroup S → HashMap GroupKey SharedGroup S → GroupKey → List Rule → Type 0
HasGroup old new key group = (q : GroupKey) → rules_at new q ≡ (if same_key key q then group else rules_at old q)

-- The new groups of some keys are those of these rules, and the others are as they were.
abbrev pub AreRegrouped : {S : Type 0} → HashMap GroupKey SharedGroup S → HashMap GroupKey SharedGroup S → List Rule → (List ℕ → List ℕ → ℕ → Bool) → Type 0
AreRegrouped old new rules anew =
    (table name : List ℕ) (arity : ℕ) → IsNameBytes name
    → rules_at new (group_key table name arity)
    ≡ (if anew table name arity then group_of rules table name arity else rules_at old (group_key table name arity))

-- There is another rule, and it is of the groups that this one is of.
abbrev pub AreOfOne : Option Rule → Rule → Type 0
AreOfOne other rule = (table name : List ℕ) (arity : ℕ) → IsNameBytes name → is_some_of other table name arity ≡ is_of rule table name arity
