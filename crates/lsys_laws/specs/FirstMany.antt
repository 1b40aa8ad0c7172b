-- The least place at which a limit is passed.
use Rattle.std.specs.Prelude.{◌≡◌, ℕ, zero, suc, true, Option, Some, None, List, [], ◌∷◌, ◌+◌, ◌<◌, length}
use Rattle.lsys_syntax.specs.Limits.{most_tables, most_rules}
use Rattle.lsys_syntax.specs.Pieces.{Piece, blank, token, note}
use Rattle.lsys_syntax.specs.Rules.{Production, rule_pieces}
use Rattle.lsys_syntax.specs.Checks.{Counts, count_note, count_token, passes_limit, rule_counts}
use Rattle.lsys_spec.specs.Systems.{System, tables}
use Rattle.lsys_spec.specs.Edits.{put}

-- what was counted up to token number k, it too
abbrev pub counts_at : Counts → ℕ → List Piece → Option Counts
counts_at c k [] = None
counts_at c k (blank ∷ ps) = counts_at c k ps
counts_at c k (note m ∷ ps) = counts_at (count_note m c) k ps
counts_at c zero (token t ∷ ps) = Some (count_token c)
counts_at c (suc k) (token t ∷ ps) = counts_at (count_token c) k ps

-- at token number k some limit is passed
abbrev pub PassesAt : Counts → List Piece → ℕ → Type 0
PassesAt c ps k = (d : Counts) × (counts_at c k ps ≡ Some d) × (passes_limit d ≡ true)

-- P holds at k, and nowhere before
abbrev pub IsLeast : (ℕ → Type 0) → ℕ → Type 0
IsLeast P k = P k × ((j : ℕ) → j < k → P j → ⊥)

-- at this place of its line a production, its label at place n, passes a limit: that on tables at its table's word, that
-- on rules at its label, or one of its own
pub data Passes (s : System) (n : ℕ) (p : Production) (place : ℕ) : Type 0 where
  by_tables : place ≡ 1 → most_tables < length (tables (put p s.rules)) → Passes s n p place
  by_rules : place ≡ n → most_rules < length (put p s.rules) + length s.homomorphisms → Passes s n p place
  by_itself : (k : ℕ) → place ≡ n + 2 + k → PassesAt rule_counts (rule_pieces p.rule) k → Passes s n p place
