-- What refuses a command, as the definitions have it.
use Rattle.std.specs.Prelude.{◌≡◌, ℕ, Bool, not, ◌&&◌, ◌||◌, bytes_eq, length, List, if◌then◌else◌, Option, option_map}
use Rattle.lsys_syntax.specs.Rules.{Production}
use Rattle.lsys_spec.specs.Edits.{Why, Refusal, wrong_version, unknown_name, duplicate, mixed, wrong_label, wrong_table, wrong_level, many, same_label}
use Rattle.lsys_spec.specs.Systems.{any, clash, is_weighted, main}
use Rattle.lsys_module.specs.Views.{module_name}
use Rattle.lsys_rules.specs.declared.faults.Cause.{Cause}
use Rattle.lsys_rules.specs.declared.faults.Cause.TheVariants as causes
use Rattle.lsys_rules.specs.declared.faults.Fault.{Fault}
use Rattle.lsys_rules.specs.declared.rule_faults.Newcomer.{Newcomer}

abbrev pub why_of : Cause → Why
why_of causes.Version = wrong_version
why_of causes.Name = unknown_name
why_of causes.Duplicate = duplicate
why_of causes.Mixed = mixed
why_of causes.Label = wrong_label
why_of causes.Table = wrong_table
why_of causes.Level = wrong_level
why_of causes.TooMany = many

abbrev pub refusal_of_fault : Fault → Refusal
refusal_of_fault f = record { why = why_of f.cause; place = f.place }

-- The fault, or none, is what the definitions tell.
abbrev pub Tells : Option Fault → Option Refusal → Type 0
Tells fault told = option_map refusal_of_fault fault ≡ told

-- a rule of the table under another label
abbrev pub labelled_else : List ℕ → List ℕ → Production → Bool
labelled_else label table q = not (bytes_eq q.label label) && bytes_eq q.table table

-- the word is neither `main` nor the table of a rule under another label
abbrev pub is_lost_without : List ℕ → List Production → List ℕ → Bool
is_lost_without label rules word = not (bytes_eq word main || any (labelled_else label word) rules)

-- the rule has the label of p, and another table
abbrev pub elsewhere : Production → Production → Bool
elsewhere p q = same_label q p && not (bytes_eq q.table p.table)

-- the rule, under another label, would be in a group with p, and only one of both has a weight
abbrev pub mixes : Production → Production → Bool
mixes p q = not (same_label q p) && clash q p

-- what a production is among others
pub record IsNewcomer (p : Production) (n : Newcomer) : Type 0 where
  pub table : n.table ≡ p.table
  pub label : n.label ≡ p.label
  pub name : module_name n.name ≡ p.rule.name
  pub arity : n.arity ≡ length p.rule.formals
  pub weighted : n.is_weighted ≡ is_weighted p.rule.weight

abbrev pub one_unless : Bool → ℕ
one_unless b = if b then 0 else 1
