-- The commands that a line's tokens spell, by the parts that they were read as.
use Rattle.std.specs.Prelude.{◌≡◌, ℕ, ◌+◌, List, map}
use Rattle.lsys_syntax.specs.Strings.{Symbol, Signed}
use Rattle.lsys_syntax.specs.Rules as R
use Rattle.lsys_syntax.specs.Commands.{Command, put_homomorphism, put_production, set_axiom, set_own}
use Rattle.lsys_syntax.specs.LineMachine.{sentence}
use Rattle.lsys_spec.specs.Edits.{label_place}
use Rattle.lsys_text.specs.Tokens.{kind_row}
use Rattle.lsys_text.specs.declared.token_kind.Token.{Token}
use Rattle.lsys_module.specs.Views.{module_name}
use Rattle.lsys_reading.specs.Commands.{axiom_reading, list_kind_of, string_in}
use Rattle.lsys_reading.specs.RuleLines.{rule_at}
use Rattle.lsys_reading.specs.declared.parts.LabeledRule.{LabeledRule}
use Rattle.lsys_reading.specs.declared.parts.OwnNames.{OwnNames}
use Rattle.lsys_reading.specs.declared.rule.RuleLine.{RuleLine}

-- the string after an axiom's word
abbrev pub written_axiom : List Token → List (Symbol Signed)
written_axiom ts = string_in (axiom_reading (kind_row ts))

-- the tokens after an axiom's word are a string
abbrev pub SpellsAxiom : List Token → Type 0
SpellsAxiom ts = axiom_reading (kind_row ts) ≡ sentence (set_axiom (written_axiom ts))

-- a rule, the expressions of which stand among the tokens
abbrev pub written_rule : List Token → RuleLine → R.Rule
written_rule ts r = rule_at (kind_row ts) r

-- the first token of a production's rule
abbrev pub rule_place : LabeledRule → ℕ
rule_place l = label_place l.table + 2

-- to put a production
abbrev pub written_production : List Token → LabeledRule → Command
written_production ts l = put_production l.table l.label (written_rule ts l.rule)

-- to put a rule of the homomorphism
abbrev pub written_homomorphism : List Token → LabeledRule → Command
written_homomorphism ts l = put_homomorphism l.label (written_rule ts l.rule)

-- to give a table its own list
abbrev pub written_list : OwnNames → Command
written_list l = set_own (list_kind_of l.kind) l.table (map module_name l.names.items)
