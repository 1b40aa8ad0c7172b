-- What refuses a rule, part by part, as it is told by what the code knows of the rule.
use Rattle.std.specs.Prelude.{◌≡◌, ℕ, ◌+◌, Bool, false, Option, List, length, nat_lt}
use Rattle.lsys_syntax.specs.Limits.{most_ignored, most_rules, most_tables}
use Rattle.lsys_syntax.specs.Tokens.{Kind}
use Rattle.lsys_syntax.specs.Rules as R
use Rattle.lsys_syntax.specs.Rules.{Production, rule_pieces}
use Rattle.lsys_syntax.specs.Checks.{rule_many, rule_repeated, rule_unknown}
use Rattle.lsys_spec.specs.Systems.{Homomorphism, System, any, is_table, tables, with_table}
use Rattle.lsys_spec.specs.Edits.{Refusal, or_else, refused_at, refused_if, unknown_name, duplicate, mixed, wrong_label, many, label_place, production_refusal, homomorphism_refusal, put, put_hom, stands_elsewhere}
use Rattle.lsys_text.specs.Tokens.{kind_row}
use Rattle.lsys_text.specs.declared.token_kind.Token.{Token}
use Rattle.lsys_reading.specs.RuleLines.{rule_at, IsRuleLine}
use Rattle.lsys_reading.specs.declared.parts.LabeledRule.{LabeledRule}
use Rattle.lsys_reading.specs.declared.rule.RuleLine.{RuleLine}
use Rattle.lsys_bodies.specs.Building.{homomorphism_at, production_at}
use Rattle.lsys_bodies.specs.Formals.{AreFormalNames}
use Rattle.lsys_bodies.specs.Searching.{count}
use Rattle.lsys_bodies.specs.declared.formals.FormalNames.{FormalNames}
use Rattle.lsys_rules.specs.Faults.{Tells, mixes, elsewhere, IsNewcomer}
use Rattle.lsys_rules.specs.WrittenCommands.{written_rule}
use Rattle.lsys_rules.specs.declared.faults.Fault.{Fault}
use Rattle.lsys_rules.specs.declared.rule_faults.Newcomer.{Newcomer}

-- 1. the rule alone

-- how many tokens a rule has
abbrev pub rule_size : List Token → RuleLine → ℕ
rule_size ts r = count (rule_pieces (written_rule ts r))

-- a name in an expression that is no formal, or a formal that stands twice; the rule's first token has number `from`
abbrev pub names_refusal : ℕ → R.Rule → Option Refusal
names_refusal from r =
    or_else (refused_at (rule_unknown from r) unknown_name)
    (refused_at (rule_repeated from r) duplicate)

-- it is told what refuses the names of the rule that has these formals
abbrev pub TellsNames : List Token → RuleLine → FormalNames → Option Fault → Type 0
TellsNames ts r names told =
    (from : ℕ) → AreFormalNames from r names → Tells told (names_refusal from (written_rule ts r))

-- it is told which limit the rule passes
abbrev pub TellsLimit : ℕ → RuleLine → Option Fault → Type 0
TellsLimit from r told =
    (ks : List Kind) → IsRuleLine ks r
    → Tells told (refused_at (rule_many from (rule_at ks r)) many)

-- 2. the rule among others

-- it is so of each production that is this newcomer
abbrev pub AsNewcomer : Newcomer → (Production → Type 0) → Type 0
AsNewcomer n P = (p : Production) → IsNewcomer p n → P p

-- a group that it would mix, or a label that stands elsewhere
abbrev pub group_refusal : System → ℕ → Production → Option Refusal
group_refusal s label p =
    or_else (refused_if (any (mixes p) s.rules) mixed label)
    (refused_if (stands_elsewhere s p) wrong_label label)

-- with the production there are too many rules
abbrev pub is_one_too_many : Production → System → Bool
is_one_too_many p s = nat_lt most_rules (length (put p s.rules) + length s.homomorphisms)

-- with the rule of the homomorphism there are too many rules
abbrev pub is_hom_too_many : Homomorphism → System → Bool
is_hom_too_many h s = nat_lt most_rules (length s.rules + length (put_hom h s.homomorphisms))

-- a table more, unless it stands there
abbrev pub with_table_once : List (List ℕ) → List ℕ → List (List ℕ)
with_table_once ts t = with_table (is_table ts t) ts t

-- too many tables, or too many rules
abbrev pub number_refusal : System → ℕ → Production → Option Refusal
number_refusal s label p =
    or_else (refused_if (nat_lt most_tables (length (tables (put p s.rules)))) many 1)
    (refused_if (is_one_too_many p s) many label)

-- where the label has no other table, it is told which number the production would make too great
abbrev pub TellsNumber : System → ℕ → Option Fault → Production → Type 0
TellsNumber s label told p =
    any (elsewhere p) s.rules ≡ false → Tells told (number_refusal s label p)

-- 3. the rule of a line

-- what refuses the production that a line spells
abbrev pub spelled_refusal : System → List Token → LabeledRule → Option Refusal
spelled_refusal s ts l = production_refusal s (label_place l.table) (production_at (kind_row ts) l)

-- what refuses the rule of the homomorphism that a line spells
abbrev pub spelled_hom_refusal : System → List Token → LabeledRule → Option Refusal
spelled_hom_refusal s ts l = homomorphism_refusal s (homomorphism_at (kind_row ts) l)

-- 4. names to ignore

-- so many names to ignore, after a line's first token, are too many
abbrev pub ignored_refusal : ℕ → Option Refusal
ignored_refusal n = refused_if (nat_lt most_ignored n) many (most_ignored + 1)
