-- How rules are kept: by label, in order, with their groups and their tables.
use Rattle.std.specs.Prelude.{◌≡◌, ℕ, List, [], ◌∷◌, map}
use Rattle.indexmap.specs.IndexMap.{IndexMap, values}
use Rattle.lsys_syntax.specs.Rules.{Production}
use Rattle.lsys_spec.specs.Systems.{Homomorphism, tables}
use Rattle.lsys_text.specs.declared.names.Word.{Word}
use Rattle.lsys_bodies.specs.declared.rule.Rule.{Rule}
use Rattle.lsys_bodies.specs.declared.rule.HomRule.{HomRule}
use Rattle.lsys_bodies.specs.Views.{as_production, homomorphism_of}
use Rattle.lsys_rules.specs.declared.rule_table.Rules.{Rules}
use Rattle.lsys_rules.specs.Groups.{AreGroups}

abbrev pub productions_in : {S : Type 0} → IndexMap Word Rule S → List Production
productions_in m = map as_production (values m)

abbrev pub homomorphisms_in : {S : Type 0} → IndexMap Word HomRule S → List Homomorphism
homomorphisms_in m = map homomorphism_of (values m)

-- each rule stands under its own label
abbrev pub HaveOwnLabels : {R : Type 0} → (R → List ℕ) → List (List ℕ × R) → Type 0
HaveOwnLabels label [] = Unit {0}
HaveOwnLabels label (e ∷ es) = (label e.1 ≡ e.0) × HaveOwnLabels label es

pub record AreByLabel (a : Rules) : Type 0 where
  pub labels : HaveOwnLabels (λ r. r.label) a.by_label.entries
  pub groups : AreGroups a.groups (values a.by_label)
  pub tables : a.tables.items ≡ tables (productions_in a.by_label)
