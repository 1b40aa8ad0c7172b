-- What is told of a rule's names by the formals that are kept of it.
use Rattle.std.specs.Prelude.{◌≡◌, ℕ, Bool, Option, List, map}
use Rattle.lsys_syntax.specs.Tokens.{Kind}
use Rattle.lsys_syntax.specs.Checks.{is_unknown, rule_repeated, rule_unknown}
use Rattle.lsys_text.specs.Tokens.{kind_of, name_of}
use Rattle.lsys_text.specs.declared.token_kind.TokenKind.{TokenKind}
use Rattle.lsys_reading.specs.RuleLines.{rule_at}
use Rattle.lsys_reading.specs.declared.rule.RuleLine.{RuleLine}
use Rattle.lsys_bodies.specs.Formals.{AreFormalNames, Numbered}
use Rattle.lsys_bodies.specs.declared.formals.FormalNames.{FormalNames}

-- whether the token is a name, and none of those that the numbers are of
abbrev pub TellsUnknown : FormalNames → TokenKind → Bool → Type 0
TellsUnknown names kind told =
    (fs : List (List ℕ)) → Numbered fs names.numbers → told ≡ is_unknown (map name_of fs) (kind_of kind)

-- the first formal that stands earlier in the rule that they are of
abbrev pub IsFirstRepeated : FormalNames → Option ℕ → Type 0
IsFirstRepeated names place =
    (from : ℕ) (r : RuleLine) (ks : List Kind) → AreFormalNames from r names
    → place ≡ rule_repeated from (rule_at ks r)

-- the first name in an expression of the rule that is no formal of it
abbrev pub IsFirstUnknown : List Kind → RuleLine → FormalNames → Option ℕ → Type 0
IsFirstUnknown ks r names place =
    (from : ℕ) → AreFormalNames from r names → place ≡ rule_unknown from (rule_at ks r)
