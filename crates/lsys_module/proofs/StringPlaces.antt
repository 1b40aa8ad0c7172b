-- The verdict on tokens that are read as a string, in terms of strings, wherever the tokens stand.
use Rattle.std.proofs.Common.{◌≡◌, ℕ, suc, ◌+◌, ◌-◌, ◌<◌, ◌≤◌, Bool, true, false, Option, Some, None, List, [], ◌∷◌, length, take, nat_lt, refl, ap, ◌∙◌, sym, subst, length-drop, arith}
use Rattle.std.proofs.lemmas.List.{length-map}
use Rattle.lsys_syntax.specs.Tokens.{Kind}
use Rattle.lsys_syntax.specs.Strings.{Symbol, Signed}
use Rattle.lsys_syntax.specs.Commands.{Command, set_axiom}
use Rattle.lsys_syntax.specs.LineMachine.{State, InAxiom, Symbols, line_step, is_stop, line_depth, nesting_bound, Verdict, sentence, stops, too_deep, sentence_or_stop, finish, verdict_from}
use Rattle.lsys_syntax.specs.Sentences.{AreTokens}
use Rattle.lsys_syntax.proofs.LineSound.{after_tests, verdict-tests}
use Rattle.lsys_text.specs.declared.token_kind.Token.{Token}
use Rattle.lsys_text.specs.Tokens.{kind_row, kind_of}
use Rattle.lsys_laws.specs.StringPlaces.{IsString, BeginsString, axiom_verdict}
use Rattle.lsys_laws.proofs.StringsTold.{string_read, string_told, string_before, string_at}
use Rattle.lsys_module.specs.Places.{kinds_from, kinds_between}
use Rattle.lsys_module.specs.Scanning.{string_verdict}
use Rattle.lsys_module.proofs.Spelled.{sentence-anywhere, tokens-after}

-- the verdict on the same tokens, so many places further on
abbrev moved : ℕ → Verdict → Verdict
moved d (sentence c) = sentence c
moved d (stops place) = stops (place + d)
moved d (too_deep place) = too_deep (place + d)

ended-moved : (n d : ℕ) (o : Option Command) → sentence_or_stop (n + d) o ≡ moved d (sentence_or_stop n o)
ended-moved n d None = refl
ended-moved n d (Some c) = refl

tests-moved : (a b : Bool) (n d : ℕ) (v w : Verdict) → w ≡ moved d v → after_tests a b (n + d) w ≡ moved d (after_tests a b n v)
tests-moved true b n d v w e = refl
tests-moved false true n d v w e = refl
tests-moved false false n d v w e = e

verdict-moved : (ks : List Kind) (n d : ℕ) (s : State) → verdict_from (n + d) s ks ≡ moved d (verdict_from n s ks)
verdict-moved [] n d s = ended-moved n d (finish s)
verdict-moved (k ∷ ks) n d s =
    let next : n + d + 1 ≡ n + 1 + d = omega arith in
    let rest : verdict_from (n + d + 1) (line_step s k) ks ≡ moved d (verdict_from (n + 1) (line_step s k) ks) =
    ap (λ m. verdict_from m (line_step s k) ks) next ∙ verdict-moved ks (n + 1) d (line_step s k) in
    verdict-tests (n + d) s k ks
    ∙ tests-moved (is_stop (line_step s k)) (nat_lt nesting_bound (line_depth (line_step s k))) n d (verdict_from (n + 1) (line_step s k) ks) (verdict_from (n + d + 1) (line_step s k) ks) rest
    ∙ ap (moved d) (sym (verdict-tests n s k ks))

-- the place, counted from the first of the tokens
abbrev Stands : ℕ → ℕ → Verdict → Type 0
Stands from place v = (i : ℕ) × (place ≡ i + from) × (v ≡ stops (suc i))

stands : (v x y : Verdict) (from place : ℕ) → x ≡ moved from v → y ≡ moved 1 v → x ≡ stops place → Stands from place y
stands (sentence c) x y from place e f h = absurd (not_sentence c place (sym e ∙ h))
  where
    not_sentence : (c : Command) (place : ℕ) → sentence c ≡ stops place → ⊥
    not_sentence c place e = cc
stands (stops i) x y from place e f h = (i, same place (i + from) (sym h ∙ e), f ∙ ap stops (omega arith))
  where
    same : (m n : ℕ) → stops m ≡ stops n → m ≡ n
    same m n e = cc
stands (too_deep i) x y from place e f h = absurd (not_deep (i + from) place (sym e ∙ h))
  where
    not_deep : (i place : ℕ) → too_deep i ≡ stops place → ⊥
    not_deep i place e = cc

module _ (tokens : List Token) (from : ℕ) where
  pub read_as_string : AreTokens (kind_row tokens) → (xs : List (Symbol Signed)) → string_verdict from tokens ≡ sentence (set_axiom xs) → IsString (kinds_from from tokens)
  read_as_string forms xs e =
      let ks = kinds_from from tokens in
      let read : axiom_verdict ks ≡ sentence (set_axiom xs) = sentence-anywhere ks from 1 (InAxiom (Symbols [])) (set_axiom xs) e in
      let told = string_told ks (set_axiom xs) (tokens-after from (kind_row tokens) forms) read in
      (told.0, told.2)

  placed : (place : ℕ) → string_verdict from tokens ≡ stops place → Stands from place (axiom_verdict (kinds_from from tokens))
  placed place e =
      let ks = kinds_from from tokens in
      let begun = InAxiom (Symbols []) in
      let first : from ≡ 0 + from = omega arith in
      stands (verdict_from 0 begun ks) (string_verdict from tokens) (axiom_verdict ks) from place (ap (λ n. verdict_from n begun ks) first ∙ verdict-moved ks 0 from begun) (verdict-moved ks 0 1 begun) e

-- what a refused place tells
pub record Refused (tokens : List Token) (from place : ℕ) : Type 0 where
  pub no_string : IsString (kinds_from from tokens) → ⊥
  pub after : from ≤ place
  pub before : AreTokens (kind_row tokens) → BeginsString (kinds_between from place tokens)
  pub none_goes_on : place < length tokens → BeginsString (kinds_between from (place + 1) tokens) → ⊥

no_sentence : (v : Verdict) (c : Command) (place : ℕ) → v ≡ sentence c → v ≡ stops place → ⊥
no_sentence v c place e h = cc

pub refused : (tokens : List Token) (from place : ℕ) → string_verdict from tokens ≡ stops place → Refused tokens from place
refused tokens from place e =
    let ks = kinds_from from tokens in
    let p = placed tokens from place e in
    let after : place - from ≡ p.0 = omega (arith, p.1) in
    let over : place + 1 - from ≡ suc p.0 = omega (arith, p.1) in
    let size : length ks ≡ length tokens - from = length-drop from (kind_row tokens) ∙ ap (λ n. n - from) (length-map tokens (λ (t : Token). kind_of t.kind)) in
    record {
      no_string = λ s. no_sentence (axiom_verdict ks) (set_axiom s.0) (suc p.0) (string_read ks s.0 s.1) p.2;
      after = omega (arith, p.1);
      before = λ forms. subst (λ n. BeginsString (take n ks)) (sym after) (string_before ks p.0 (tokens-after from (kind_row tokens) forms) p.2);
      none_goes_on = λ l b. string_at ks p.0 p.2 (omega (arith, p.1, size, l)) (subst (λ n. BeginsString (take n ks)) over b);
    }
