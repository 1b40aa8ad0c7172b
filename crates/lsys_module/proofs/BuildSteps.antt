-- One turn of building a string.
use Rattle.std.proofs.Common.{◌≡◌, ℕ, ℤ, zero, suc, ◌+◌, ◌<◌, ◌≤◌, true, false, Option, Some, None, Result, Ok, Err, List, [], ◌∷◌, length, map, drop, get_or, option_map, refl, ap, ◌∙◌, sym, subst, arith}
use Rattle.std.proofs.lemmas.List.{drop-map, drop_all}
use Rattle.lsys_syntax.specs.Tokens.{Kind}
use Rattle.lsys_syntax.specs.Strings.{Symbol, Signed}
use Rattle.lsys_syntax.specs.Commands.{set_axiom}
use Rattle.lsys_syntax.specs.LineMachine.{Verdict, sentence}
use Rattle.lsys_syntax.specs.Checks.{axiom_many}
use Rattle.lsys_syntax.specs.Sentences.{IsToken, AreTokens}
use Rattle.lsys_spec.specs.Edits.{values_of}
use Rattle.lsys_text.specs.declared.token_kind.Token.{Token}
use Rattle.lsys_text.specs.Tokens.{kind_of, kind_row}
use Rattle.lsys_module.specs.declared.symbol.Symbol.{Symbol as Code}
use Rattle.lsys_module.specs.declared.refusal.StringRefusal.{StringRefusal}
use Rattle.lsys_module.specs.declared.refusal.StringRefusal.TheVariants.{TooMany, Memory}
use Rattle.lsys_module.specs.Scanning.{string_verdict, glyph_of}
use Rattle.lsys_module.specs.Building.{Draft, whole, draft_step, draft_limit, draft_end, kind_name, CanTake, IsTaken, token_column, IsBuiltBy, IsBuiltOf}
use Rattle.lsys_module.proofs.ScanSteps.{kinds-at}
use Rattle.lsys_module.proofs.Runs.{Outcome, run, after_turn, run-turn, outcome, string-runs}
use Rattle.lsys_module.proofs.Spelled.{IsStringOf, string-spelled, tokens-after}

-- all the tokens from a place on, read one after another
abbrev pub whole_run : ℕ → List Token → Outcome
whole_run from tokens = run from (whole []) (drop from (kind_row tokens))

-- they are read as the string's values, or refused where it passes a limit
pub whole-run : (from : ℕ) (tokens : List Token) (xs : List (Symbol Signed)) → AreTokens (kind_row tokens) → string_verdict from tokens ≡ sentence (set_axiom xs) → whole_run from tokens ≡ outcome (axiom_many from xs) (values_of xs)
whole-run from tokens xs forms e =
    let is : IsStringOf (drop from (kind_row tokens)) xs = string-spelled (drop from (kind_row tokens)) from xs (tokens-after from (kind_row tokens) forms) e in
    sym (ap (run from (whole [])) is.spelled) ∙ string-runs xs is.symbols 0 0 from [] (omega arith)

-- the form of the token at a place
pub form-at : (tokens : List Token) (i : ℕ) (d : Token) → i < length tokens → AreTokens (kind_row tokens) → IsToken (kind_of (get_or tokens i d).kind)
form-at [] i d h g = absurd (omega (arith, h))
form-at (t ∷ tokens) zero d h g = g.0
form-at (t ∷ tokens) (suc i) d h g = form-at tokens i d (omega (arith, h)) g.1

some_step : (n : ℕ) (ks : List Kind) (s : Option Draft) (o : Option ℕ) (out : List (Symbol ℤ)) → after_turn n ks false s ≡ outcome o out → (e : Draft) × (s ≡ Some e)
some_step n ks None None out h = cc
some_step n ks None (Some place) out h = cc
some_step n ks (Some e) o out h = (e, refl)

-- what was read up to a place, and what all the tokens are read as
pub record IsReading (from : ℕ) (tokens : List Token) (place : ℕ) (d : Draft) : Type 0 where
  pub same : whole_run from tokens ≡ run place d (drop place (kind_row tokens))

-- a token and what is told of all of them
turn : (tokens : List Token) (i : ℕ) (t : Token) (d : Draft) → i < length tokens → t ≡ get_or tokens i t
    → run i d (drop i (kind_row tokens)) ≡ after_turn i (drop (i + 1) (kind_row tokens)) (draft_limit d (glyph_of (kind_of t.kind))) (draft_step d (glyph_of (kind_of t.kind)) (kind_name (kind_of t.kind)))
turn tokens i t d h e = ap (run i d) (kinds-at tokens i t h e) ∙ run-turn i d (kind_of t.kind) (drop (i + 1) (kind_row tokens))

-- the string goes on with its token
pub can_take : (from : ℕ) (tokens : List Token) (xs : List (Symbol Signed)) (i : ℕ) (t : Token) (d : Draft) → i < length tokens → t ≡ get_or tokens i t → IsReading from tokens i d → whole_run from tokens ≡ outcome (axiom_many from xs) (values_of xs) → CanTake d (kind_of t.kind)
can_take from tokens xs i t d h e reading told free =
    let step = draft_step d (glyph_of (kind_of t.kind)) (kind_name (kind_of t.kind)) in
    let ks = drop (i + 1) (kind_row tokens) in
    some_step i ks step (axiom_many from xs) (values_of xs) (ap (λ b. after_turn i ks b step) (sym free) ∙ sym (turn tokens i t d h e) ∙ sym reading.same ∙ told)

-- the token was taken
pub taken : (from : ℕ) (tokens : List Token) (i : ℕ) (t : Token) (d e : Draft) → i < length tokens → t ≡ get_or tokens i t → IsReading from tokens i d → draft_limit d (glyph_of (kind_of t.kind)) ≡ false → draft_step d (glyph_of (kind_of t.kind)) (kind_name (kind_of t.kind)) ≡ Some e → IsReading from tokens (i + 1) e
taken from tokens i t d e h is reading free step =
    let ks = drop (i + 1) (kind_row tokens) in
    record { same = reading.same ∙ turn tokens i t d h is ∙ ap (λ b. after_turn i ks b (draft_step d (glyph_of (kind_of t.kind)) (kind_name (kind_of t.kind)))) free ∙ ap (after_turn i ks false) step }

refused_place : (o : Option ℕ) (out : List (Symbol ℤ)) (i : ℕ) → Some (Err i) ≡ outcome o out → o ≡ Some i
refused_place None out i h = cc
refused_place (Some j) out i h = cc

-- the token is one too many
pub refused : (from : ℕ) (tokens : List Token) (xs : List (Symbol Signed)) (i : ℕ) (t : Token) (d : Draft) → i < length tokens → t ≡ get_or tokens i t → IsReading from tokens i d → draft_limit d (glyph_of (kind_of t.kind)) ≡ true → whole_run from tokens ≡ outcome (axiom_many from xs) (values_of xs) → axiom_many from xs ≡ Some i
refused from tokens xs i t d h e reading limit told =
    let step = draft_step d (glyph_of (kind_of t.kind)) (kind_name (kind_of t.kind)) in
    let ks = drop (i + 1) (kind_row tokens) in
    refused_place (axiom_many from xs) (values_of xs) i (ap (λ b. after_turn i ks b step) (sym limit) ∙ sym (turn tokens i t d h e) ∙ sym reading.same ∙ told)

ended : (o : Option (List (Symbol ℤ))) (many : Option ℕ) (out : List (Symbol ℤ)) → option_map Ok o ≡ outcome many out → (o ≡ Some out) × (many ≡ None)
ended None None out h = cc
ended None (Some i) out h = cc
ended (Some xs) None out h = (cc, refl)
ended (Some xs) (Some i) out h = cc

-- all the tokens were taken
pub all_taken : (from : ℕ) (tokens : List Token) (xs : List (Symbol Signed)) (i : ℕ) (d : Draft) → length tokens ≤ i → IsReading from tokens i d → whole_run from tokens ≡ outcome (axiom_many from xs) (values_of xs) → (draft_end d ≡ Some (values_of xs)) × (axiom_many from xs ≡ None)
all_taken from tokens xs i d h reading told =
    let kind : Token → Kind = λ t. kind_of t.kind in
    let none : drop i (kind_row tokens) ≡ [] = drop-map kind i tokens ∙ ap (map kind) (drop_all i tokens h) in
    ended (draft_end d) (axiom_many from xs) (values_of xs) (sym (reading.same ∙ ap (run i d) none) ∙ told)

-- the word of the contract, by the string that was scanned
pub is_built : (from : ℕ) (tokens : List Token) (xs : List (Symbol Signed)) (r : Result (List Code) StringRefusal) → string_verdict from tokens ≡ sentence (set_axiom xs) → IsBuiltOf from tokens xs r → IsBuiltBy from tokens (string_verdict from tokens) r
is_built from tokens xs r e h = let P : Verdict → Type 0 = λ v. IsBuiltBy from tokens v r in subst P (sym e) h

column-at : (tokens : List Token) (i : ℕ) (t : Token) → i < length tokens → t ≡ get_or tokens i t → token_column tokens i ≡ Some (t.start + 1)
column-at [] i t h e = absurd (omega (arith, h))
column-at (u ∷ tokens) zero t h e = ap (λ v. Some (v.start + 1)) (sym e)
column-at (u ∷ tokens) (suc i) t h e = column-at tokens i t (omega (arith, h)) e

-- why the token was not taken is why the string is not built
pub not_taken : (from : ℕ) (tokens : List Token) (xs : List (Symbol Signed)) (i : ℕ) (t : Token) (d e : Draft) (why : StringRefusal) → i < length tokens → t ≡ get_or tokens i t → IsReading from tokens i d → whole_run from tokens ≡ outcome (axiom_many from xs) (values_of xs) → IsTaken d t e (Err why) → IsBuiltOf from tokens xs (Err why)
not_taken from tokens xs i t d e (TooMany column) h is reading told k =
    (i, refused from tokens xs i t d h is reading k.0 told, column-at tokens i t h is ∙ ap Some (sym k.1))
not_taken from tokens xs i t d e Memory h is reading told k = tt
