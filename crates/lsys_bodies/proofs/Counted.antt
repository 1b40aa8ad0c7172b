-- Counts of pieces after one another.
use Rattle.std.proofs.Common.{◌≡◌, ℕ, ◌+◌, ◌≤◌, ◌<◌, Bool, true, false, ◌||◌, Some, Result, Ok, Err, List, [], ◌∷◌, ◌++◌, length, map, drop, get_or, nat_lt, cond, refl, ap, sym, ◌∙◌, append_assoc, arith}
use Rattle.std.specs.Prelude.{IfOk}
use Rattle.std.proofs.lemmas.List.{at_drop_more}
use Rattle.std.proofs.lemmas.Bool.Decides.{nat_tests}
use Rattle.lsys_syntax.specs.Limits.{most_params, most_rule_tokens, most_expression_tokens}
use Rattle.lsys_syntax.specs.Tokens.{Kind, Colon}
use Rattle.lsys_syntax.specs.Pieces.{Piece, blank, token, note, a_symbol, a_param, expr_begins, expr_ends}
use Rattle.lsys_syntax.specs.Strings.{gap}
use Rattle.lsys_syntax.specs.Checks.{Counts, count_token, passes_limit, many_place}
use Rattle.lsys_bodies.specs.Counting.{counts_with, next_passes, inside_passes, IsOneMore, CountsOn, Counting}
use Rattle.lsys_bodies.specs.declared.counter.RuleCounts.{RuleCounts}

module _ {b : Counts} where
  pub counts-passed : {t : ℕ} (ps qs : List Piece) → CountsOn b ps (Err t) → CountsOn b (ps ++ qs) (Err t)
  counts-passed ps qs h = record {
    few = h.few;
    same = λ from rest. ap (many_place b (from + b.tokens)) (append_assoc ps qs rest) ∙ h.same from (qs ++ rest);
  }

  pub counts-on : {c : RuleCounts} {result : Result RuleCounts ℕ} (ps qs : List Piece) → CountsOn b ps (Ok c) → Counting c qs result → CountsOn b (ps ++ qs) result
  counts-on ps qs h k = record {
    few = k.few;
    same = λ from rest. ap (many_place b (from + b.tokens)) (append_assoc ps qs rest) ∙ h.same from (qs ++ rest) ∙ k.same from rest;
  }

pub counts-nothing : (c : RuleCounts) → Counting c [] (Ok c)
counts-nothing c = record { few = tt; same = λ from qs. refl }

pub counts-blank : (c : RuleCounts) → Counting c (blank ∷ []) (Ok c)
counts-blank c = record { few = tt; same = λ from qs. refl }

pub counts-gap : (c : RuleCounts) (l r : Bool) → Counting c (gap l r) (Ok c)
counts-gap c true true = counts-blank c
counts-gap c true false = counts-nothing c
counts-gap c false true = counts-nothing c
counts-gap c false false = counts-nothing c

-- inside an expression, of which `done` tokens are counted
abbrev pub inside_counts : RuleCounts → ℕ → ℕ → ℕ → Counts
inside_counts c tokens p done = record { tokens = tokens; most_tokens = Some most_rule_tokens; expr_tokens = done; inside = true; symbols = c.symbols; most = c.most; params = p }

-- a limit is passed at the next token
abbrev pub ends_inside : RuleCounts → ℕ → ℕ → ℕ → Bool
ends_inside c tokens p done = passes_limit (count_token (inside_counts c tokens p done))

-- what no limit that is passed says
pub not-passed : (c : RuleCounts) (s p : ℕ) → next_passes c s p ≡ false → (s ≤ c.most) × (p ≤ most_params) × (c.tokens + 1 ≤ most_rule_tokens)
not-passed c s p h = grind (arith, nat_tests)

pub not-inside : (tokens p done : ℕ) → inside_passes tokens p done ≡ false → tokens + 1 ≤ most_rule_tokens
not-inside tokens p done h = grind (arith, nat_tests)

pub inside-is : (c : RuleCounts) (tokens p done : ℕ) → ends_inside c tokens p done ≡ inside_passes tokens p done
inside-is c tokens p done =
    let small : nat_lt c.most c.symbols ≡ false = grind (arith, nat_tests, c.few_symbols) in
    ap (λ b. ((b || nat_lt most_params p) || nat_lt most_expression_tokens (done + 1)) || nat_lt most_rule_tokens (tokens + 1)) small

-- one token
pub counts-one : (c : RuleCounts) (s p : ℕ) (k : Kind) (result : Result RuleCounts ℕ) → IsOneMore c s p result → CountsOn (counts_with c s p) (token k ∷ []) result
counts-one c s p k (Ok d) h = record {
  few = tt;
  same = λ from qs.
      ap (λ b. cond b (Some (from + c.tokens)) (many_place (count_token (counts_with c s p)) (from + c.tokens + 1) qs)) h.0
      ∙ ap (λ n. many_place (count_token (counts_with c s p)) n qs) (omega (arith, ap (λ (b : Counts). b.tokens) h.1))
      ∙ ap (λ b. many_place b (from + d.tokens) qs) (sym h.1);
}
counts-one c s p k (Err t) h = record {
  few = omega (arith, h.1, c.few_tokens);
  same = λ from qs.
      ap (λ b. cond b (Some (from + c.tokens)) (many_place (count_token (counts_with c s p)) (from + c.tokens + 1) qs)) h.0
      ∙ ap (λ n. Some (from + n)) (sym h.1);
}

-- a token after the note of a symbol or a parameter
pub counts-symbol : (c : RuleCounts) (k : Kind) (result : Result RuleCounts ℕ) → IsOneMore c (c.symbols + 1) 0 result → Counting c (note a_symbol ∷ token k ∷ []) result
counts-symbol c k result h = let r = counts-one c (c.symbols + 1) 0 k result h in record { few = r.few; same = λ from qs. r.same from qs }

pub counts-formal : (c : RuleCounts) (k : Kind) (result : Result RuleCounts ℕ) → IsOneMore c c.symbols (c.params + 1) result → Counting c (note a_param ∷ token k ∷ []) result
counts-formal c k result h = let r = counts-one c c.symbols (c.params + 1) k result h in record { few = r.few; same = λ from qs. r.same from qs }

pub few-params : (c : RuleCounts) (result : Result RuleCounts ℕ) → IsOneMore c c.symbols c.params result → IfOk result (λ d. d.params ≤ most_params)
few-params c (Ok d) h = let p : d.params ≡ c.params = ap (λ (b : Counts). b.params) h.1 in let few = not-passed c c.symbols c.params h.0 in omega (arith, p, few.1)
few-params c (Err t) h = tt

pub counts-param : {result : Result RuleCounts ℕ} (c : RuleCounts) (ps : List Piece) → CountsOn (counts_with c c.symbols (c.params + 1)) ps result → Counting c (note a_param ∷ ps) result
counts-param c ps h = record { few = h.few; same = λ from qs. h.same from qs }

pub record InsideOf (c : RuleCounts) (p : ℕ) (n : ℕ) (tokens done : ℕ) : Type 0 where
  pub few : tokens ≤ most_rule_tokens
  pub same : (ks : List Kind) → length ks ≡ n → (from : ℕ) (qs : List Piece)
      → many_place (inside_counts c c.tokens p 0) (from + c.tokens) (map token ks ++ qs) ≡ many_place (inside_counts c tokens p done) (from + tokens) (map token (drop done ks) ++ qs)

drop-next : (ks : List Kind) (i : ℕ) → i < length ks → drop i ks ≡ get_or ks i Colon ∷ drop (i + 1) ks
drop-next ks i l = at_drop_more (λ js. js) ks i Colon l

inside-step : (c : RuleCounts) (p n tokens done : ℕ) → done < n → InsideOf c p n tokens done → (ks : List Kind) → length ks ≡ n → (from : ℕ) (qs : List Piece)
    → many_place (inside_counts c c.tokens p 0) (from + c.tokens) (map token ks ++ qs)
    ≡ cond (ends_inside c tokens p done) (Some (from + tokens)) (many_place (inside_counts c (tokens + 1) p (done + 1)) (from + (tokens + 1)) (map token (drop (done + 1) ks) ++ qs))
inside-step c p n tokens done l h ks e from qs =
    let k = drop-next ks done (omega (arith, e, l)) in
    h.same ks e from qs
    ∙ ap (λ js. many_place (inside_counts c tokens p done) (from + tokens) (map token js ++ qs)) k
    ∙ ap (λ m. cond (ends_inside c tokens p done) (Some (from + tokens)) (many_place (inside_counts c (tokens + 1) p (done + 1)) m (map token (drop (done + 1) ks) ++ qs))) (omega arith)

pub inside-more : (c : RuleCounts) (p n tokens done : ℕ) → done < n → tokens + 1 ≤ most_rule_tokens → ends_inside c tokens p done ≡ false → InsideOf c p n tokens done → InsideOf c p n (tokens + 1) (done + 1)
inside-more c p n tokens done l m f h = record {
  few = m;
  same = λ ks e from qs.
      inside-step c p n tokens done l h ks e from qs
      ∙ ap (λ t. cond t (Some (from + tokens)) (many_place (inside_counts c (tokens + 1) p (done + 1)) (from + (tokens + 1)) (map token (drop (done + 1) ks) ++ qs))) f;
}

pub inside-passed : (c : RuleCounts) (p n tokens done : ℕ) → done < n → ends_inside c tokens p done ≡ true → InsideOf c p n tokens done
    → (ks : List Kind) → length ks ≡ n → CountsOn (counts_with c c.symbols p) (note expr_begins ∷ (map token ks ++ note expr_ends ∷ [])) (Err tokens)
inside-passed c p n tokens done l t h ks e = record {
  few = h.few;
  same = λ from qs.
      ap (many_place (inside_counts c c.tokens p 0) (from + c.tokens)) (append_assoc (map token ks) (note expr_ends ∷ []) qs)
      ∙ inside-step c p n tokens done l h ks e from (note expr_ends ∷ qs)
      ∙ ap (λ b. cond b (Some (from + tokens)) (many_place (inside_counts c (tokens + 1) p (done + 1)) (from + (tokens + 1)) (map token (drop (done + 1) ks) ++ note expr_ends ∷ qs))) t;
}
