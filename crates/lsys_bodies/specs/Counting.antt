-- What is counted along a rule up to a token, outside of its expressions.
use Rattle.std.specs.Prelude.{◌≡◌, ◌≤◌, ℕ, ◌+◌, Bool, true, false, ◌||◌, nat_lt, Option, Some, Result, Ok, Err, List, ◌++◌, IfErr}
use Rattle.lsys_syntax.specs.Limits.{most_rule_tokens, most_params, most_expression_tokens}
use Rattle.lsys_syntax.specs.Pieces.{Piece}
use Rattle.lsys_syntax.specs.Checks.{Counts, count_token, passes_limit, many_place}
use Rattle.lsys_bodies.specs.declared.counter.RuleCounts.{RuleCounts}

-- with other symbols and parameters
abbrev pub counts_with : RuleCounts → ℕ → ℕ → Counts
counts_with c s p = record { tokens = c.tokens; most_tokens = Some most_rule_tokens; expr_tokens = 0; inside = false; symbols = s; most = c.most; params = p }

abbrev pub counts_of : RuleCounts → Counts
counts_of c = counts_with c c.symbols c.params

-- a limit is passed at the next token
abbrev pub next_passes : RuleCounts → ℕ → ℕ → Bool
next_passes c s p = passes_limit (count_token (counts_with c s p))

-- the same inside an expression, where no string is too long
abbrev pub inside_passes : ℕ → ℕ → ℕ → Bool
inside_passes tokens p done = nat_lt most_params p || nat_lt most_expression_tokens (done + 1) || nat_lt most_rule_tokens (tokens + 1)

-- after one token more; or a limit is passed there
abbrev pub IsOneMore : RuleCounts → ℕ → ℕ → Result RuleCounts ℕ → Type 0
IsOneMore c s p (Ok d) = (next_passes c s p ≡ false) × (counts_of d ≡ count_token (counts_with c s p))
IsOneMore c s p (Err t) = (next_passes c s p ≡ true) × (t ≡ c.tokens)

-- where a limit is passed, the first token having number `from`
abbrev pub passed_or : ℕ → Result RuleCounts ℕ → (RuleCounts → Option ℕ) → Option ℕ
passed_or from (Ok c) f = f c
passed_or from (Err tokens) f = Some (from + tokens)

-- Counting these pieces from such counts on, a limit is passed after so many tokens, or the counts are c.
pub record CountsOn (before : Counts) (ps : List Piece) (result : Result RuleCounts ℕ) : Type 0 where
  pub few : IfErr result (λ tokens. tokens ≤ most_rule_tokens)
  pub same : (from : ℕ) (qs : List Piece)
      → many_place before (from + before.tokens) (ps ++ qs) ≡ passed_or from result (λ c. many_place (counts_of c) (from + c.tokens) qs)

abbrev pub Counting : RuleCounts → List Piece → Result RuleCounts ℕ → Type 0
Counting c ps result = CountsOn (counts_of c) ps result
