-- The word of a command at the front of a line: no line that begins with one is refused there.
use Rattle.std.proofs.Common.{◌≡◌, ◌∙◌, ℕ, ◌+◌, ◌<◌, Bool, true, false, not, Option, Some, None, List, [], ◌∷◌, ap, sym, refl, arith, subst}
use Rattle.std.specs.Prelude.{nat_lt, is_some, slice_get}
use Rattle.lsys_syntax.specs.Tokens.{Kind, Word}
use Rattle.lsys_syntax.specs.Commands.{Command}
use Rattle.lsys_syntax.specs.LineMachine.{State, Fresh, line_step, finish, line_depth, Verdict, stops, sentence_or_stop, is_stop, nesting_bound, verdict_from, word_step}
use Rattle.lsys_syntax.proofs.LineSound.{after_tests, verdict-tests}
use Rattle.lsys_text.specs.Tokens.{kind_of, kind_row}
use Rattle.lsys_text.specs.declared.token_kind.Token.{Token}
use Rattle.lsys_reading.specs.Lines.{word_in}
use Rattle.lsys_reading.specs.Parsing.{BeginsCommand}
use Rattle.lsys_reading.specs.declared.word.CommandWord.{CommandWord}
use Rattle.lsys_reading.specs.declared.word.CommandWord.TheVariants as words
use Rattle.lsys_reading.specs.Words.{word_state, word_state_in}

begins_by_word : (w : CommandWord) → is_stop (word_state w) ≡ false
begins_by_word words.Axiom = refl
begins_by_word words.Production = refl
begins_by_word words.Drop = refl
begins_by_word words.Ignore = refl
begins_by_word words.Schedule = refl
begins_by_word words.Seed = refl
begins_by_word words.Depth = refl
begins_by_word words.Lattice = refl
begins_by_word words.Homomorphism = refl
begins_by_word words.String = refl
begins_by_word words.Segments = refl
begins_by_word words.Svg = refl
begins_by_word words.Show = refl
begins_by_word words.Quit = refl
begins_by_word words.Version = refl
begins_by_word words.Ignoring = refl
begins_by_word words.Consider = refl
begins_by_word words.Common = refl
begins_by_word words.Lineage = refl

-- a word begins a command exactly where it is one of those
pub begins_by : (o : Option CommandWord) → is_some o ≡ not (is_stop (word_state_in o))
begins_by (Some w) = rw (begins_by_word w) refl
begins_by None = refl

ended : (n m : ℕ) (o : Option Command) → m < n → sentence_or_stop n o ≡ stops m → ⊥
ended n m None h e = let same : n ≡ m = cc in absurd (omega arith)
ended n m (Some c) h e = cc

tested : (a d : Bool) (n m : ℕ) (v : Verdict) → m < n → after_tests a d n v ≡ stops m → (v ≡ stops m → ⊥) → ⊥
tested true d n m v h e f = let same : n ≡ m = cc in absurd (omega arith)
tested false true n m v h e f = cc
tested false false n m v h e f = f e

-- no verdict on what stands from a place on is a stop before it
not_before : (ks : List Kind) (n m : ℕ) (s : State) → m < n → verdict_from n s ks ≡ stops m → ⊥
not_before [] n m s h e = ended n m (finish s) h e
not_before (k ∷ ks) n m s h e =
    tested (is_stop (line_step s k)) (nat_lt nesting_bound (line_depth (line_step s k))) n m (verdict_from (n + 1) (line_step s k) ks) h (sym (verdict-tests n s k ks) ∙ e)
    (λ q. not_before ks (n + 1) m (line_step s k) (omega arith) q)

taken : (a d : Bool) (v : Verdict) → a ≡ false → after_tests a d 0 v ≡ stops 0 → (v ≡ stops 0 → ⊥) → ⊥
taken true d v s e f = cc
taken false true v s e f = cc
taken false false v s e f = f e

stopped : (a d : Bool) (v : Verdict) → a ≡ true → after_tests a d 0 v ≡ stops 0
stopped true d v s = refl
stopped false d v s = cc

not_false : (a : Bool) → true ≡ not a → a ≡ false
not_false true e = cc
not_false false e = refl

not_true : (a : Bool) → false ≡ not a → a ≡ true
not_true true e = refl
not_true false e = cc

-- a line begins with the word of a command exactly where its first token is one
pub begun : (b : Bool) (k : Kind) (ks : List Kind) → b ≡ not (is_stop (line_step Fresh k)) → BeginsCommand (k ∷ ks) b
begun true k ks e =
    λ q. taken (is_stop (line_step Fresh k)) (nat_lt nesting_bound (line_depth (line_step Fresh k))) (verdict_from 1 (line_step Fresh k) ks) (not_false _ e) (sym (verdict-tests 0 Fresh k ks) ∙ q)
    (not_before ks 1 0 (line_step Fresh k) (omega arith))
begun false k ks e =
    verdict-tests 0 Fresh k ks ∙ stopped (is_stop (line_step Fresh k)) (nat_lt nesting_bound (line_depth (line_step Fresh k))) (verdict_from 1 (line_step Fresh k) ks) (not_true _ e)

-- a word steps on as it says
pub stepped_word : (f : List ℕ → State) (k : Kind) (w : List ℕ) → Some w ≡ word_in k → word_step f k ≡ f w
stepped_word f (Word v) w e = let same : w ≡ v = cc in ap f (sym same)
stepped_word f k w e = cc

-- the same of the tokens of a line, the first of which is looked at
pub begun_line : (b : Bool) (ts : List Token) (t : Token) → slice_get ts 0 ≡ Some t → b ≡ not (is_stop (line_step Fresh (kind_of t.kind))) → BeginsCommand (kind_row ts) b
begun_line b [] t f e = cc
begun_line b (x ∷ ts) t f e =
    let same : t ≡ x = cc in
    begun b (kind_of x.kind) (kind_row ts) (subst (λ (y : Token). b ≡ not (is_stop (line_step Fresh (kind_of y.kind)))) same e)
