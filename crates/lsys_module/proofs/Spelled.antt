-- Tokens that are a string are its spelling.
use Rattle.std.proofs.Common.{◌≡◌, ℕ, zero, suc, ◌+◌, Bool, true, false, nat_lt, List, [], ◌∷◌, drop, codes, refl, ◌∙◌, sym, arith}
use Rattle.lsys_syntax.specs.Tokens.{Kind, Word}
use Rattle.lsys_syntax.specs.Pieces.{kinds_of}
use Rattle.lsys_syntax.specs.Strings.{Symbol, Signed, string_pieces, signed_pieces, EachOf, IsSymbol, IsSigned}
use Rattle.lsys_syntax.specs.Commands.{Command, set_axiom, string_after}
use Rattle.lsys_syntax.specs.LineMachine.{State, InAxiom, Symbols, line_step, is_stop, line_depth, nesting_bound, Verdict, sentence, stops, too_deep, sentence_or_stop, finish, verdict_from}
use Rattle.lsys_syntax.specs.LineMachine as L
use Rattle.std.specs.Prelude.{Option, Some, None}
use Rattle.lsys_syntax.specs.Sentences.{IsToken, AreTokens, IsSpelled}
use Rattle.lsys_syntax.proofs.LineSound.{after_tests, verdict-tests, sentence-spelled}

ended-anywhere : (m n : ℕ) (o : Option Command) (c : Command) → sentence_or_stop m o ≡ sentence c → sentence_or_stop n o ≡ sentence c
ended-anywhere m n None c e = cc
ended-anywhere m n (Some d) c e = e

tests-anywhere : (a d : Bool) (m n : ℕ) (v w : Verdict) (c : Command) → (v ≡ sentence c → w ≡ sentence c) → after_tests a d m v ≡ sentence c → after_tests a d n w ≡ sentence c
tests-anywhere true d m n v w c f e = cc
tests-anywhere false true m n v w c f e = cc
tests-anywhere false false m n v w c f e = f e

-- a sentence is one wherever its tokens stand
pub sentence-anywhere : (ks : List Kind) (m n : ℕ) (s : State) (c : Command) → verdict_from m s ks ≡ sentence c → verdict_from n s ks ≡ sentence c
sentence-anywhere [] m n s c e = ended-anywhere m n (finish s) c e
sentence-anywhere (k ∷ ks) m n s c e =
    verdict-tests n s k ks
    ∙ tests-anywhere (is_stop (line_step s k)) (nat_lt nesting_bound (line_depth (line_step s k))) m n (verdict_from (m + 1) (line_step s k) ks) (verdict_from (n + 1) (line_step s k) ks) c
    (sentence-anywhere ks (m + 1) (n + 1) (line_step s k) c) (sym (verdict-tests m s k ks) ∙ e)

-- the tokens of a string after a blank
pub after-string : (xs : List (Symbol Signed)) → kinds_of (string_after xs) ≡ kinds_of (string_pieces signed_pieces xs)
after-string [] = refl
after-string (x ∷ xs) = refl

-- The tokens are the spelling of the symbols, whose parameters are of 64 bits.
pub record IsStringOf (ks : List Kind) (xs : List (Symbol Signed)) : Type 0 where
  pub spelled : kinds_of (string_pieces signed_pieces xs) ≡ ks
  pub symbols : EachOf (IsSymbol IsSigned) xs

pub string-spelled : (ks : List Kind) (n : ℕ) (xs : List (Symbol Signed)) → AreTokens ks → verdict_from n (InAxiom (Symbols [])) ks ≡ sentence (set_axiom xs) → IsStringOf ks xs
string-spelled ks n xs g e =
    let line = Word (codes "axiom") ∷ ks in
    let read : L.verdict line ≡ sentence (set_axiom xs) = sentence-anywhere ks n 1 (InAxiom (Symbols [])) (set_axiom xs) e in
    let front : IsToken (Word (codes "axiom")) = (refl, (refl, (refl, (refl, (refl, tt)))), omega arith) in
    let is : IsSpelled 32 line (set_axiom xs) = sentence-spelled line (set_axiom xs) (front, g) read in
    record { spelled = sym (after-string xs) ∙ cc; symbols = is.1.0 }

-- the same from a place on
pub tokens-after : (n : ℕ) (ks : List Kind) → AreTokens ks → AreTokens (drop n ks)
tokens-after zero ks h = h
tokens-after (suc n) [] h = tt
tokens-after (suc n) (k ∷ ks) h = tokens-after n ks h.1
