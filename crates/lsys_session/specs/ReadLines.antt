-- Lines that are read into tokens.
use Rattle.std.specs.Prelude.{◌≡◌, ◌≤◌, ℕ, true, false, Option, Some, None, Result, Ok, Err, List, Vec, All, IsOk, length, map, option_map}
use Rattle.std.specs.declared.alloc.Global.{Global}
use Rattle.lsys_syntax.specs.Limits.{most_line_bytes}
use Rattle.lsys_syntax.specs.Tokens.{tokens}
use Rattle.lsys_spec.specs.Refusals.{is_passed_over}
use Rattle.lsys_text.specs.Tokens.{LiesInLine, token_of}
use Rattle.lsys_text.specs.declared.refusals.TextRefusal.{TextRefusal}
use Rattle.lsys_text.specs.declared.refusals.TextRefusal.TheVariants as texts
use Rattle.lsys_text.specs.declared.token_kind.Token.{Token}
use Rattle.lsys_rules.specs.declared.refusal.Refusal.{Refusal}
use Rattle.lsys_rules.specs.declared.refusal.Refusal.TheVariants as refusals

-- these are the tokens of a line that isn't passed over
pub record AreTokensOf (line : List ℕ) (found : List Token) : Type 0 where
  pub something : is_passed_over line ≡ false
  pub tokens : tokens line ≡ Ok (map token_of found)
  pub places : All (LiesInLine (length line)) found

-- the tokens of a line; none where it is passed over
abbrev pub IsReadAs : List ℕ → Option (List Token) → Type 0
IsReadAs line None = is_passed_over line ≡ true
IsReadAs line (Some found) = AreTokensOf line found

-- likewise, and it isn't too long
pub record IsLineTaken (line : List ℕ) (found : Option (List Token)) : Type 0 where
  pub short : length line ≤ most_line_bytes
  pub tokens : IsReadAs line found

-- why a line isn't read: the column of its first byte that is in no token, or lack of memory where it has none such; a line that is
-- passed over isn't refused
abbrev pub IsUnread : List ℕ → Refusal → Type 0
IsUnread line (refusals.Byte column) = (is_passed_over line ≡ false) × (tokens line ≡ Err column)
IsUnread line refusals.Memory = (is_passed_over line ≡ false) × IsOk (tokens line)
IsUnread line e = ⊥

-- the same, as the tokens' crate tells it
abbrev pub AreReadTokens : List ℕ → Result (Option (Vec Token Global)) TextRefusal → Type 0
AreReadTokens line (Ok found) = IsReadAs line (option_map (λ (v : Vec Token Global). v.items) found)
AreReadTokens line (Err (texts.Byte column)) = (is_passed_over line ≡ false) × (tokens line ≡ Err column)
AreReadTokens line (Err texts.Memory) = (is_passed_over line ≡ false) × IsOk (tokens line)
