-- One step along a line: over blanks, and over a token.
use Rattle.std.proofs.Common.{◌≡◌, ℕ, zero, suc, ◌+◌, ◌<◌, Bool, true, false, List, [], ◌∷◌, ◌++◌, length, drop, refl, ap, ◌∙◌, sym, arith, Some, None, Ok, Err, add-zero, length-drop, append_assoc, append-nil}
use Rattle.std.specs.Prelude.{Result, IsOk}
use Rattle.std.specs.List.{prefix_len}
use Rattle.std.proofs.lemmas.List.{drop-drop, drop_all}
use Rattle.lsys_syntax.specs.Tokens.{Kind, Token, Mode, is_blank, token_at, next_mode, before_rest, tokens_from}
use Rattle.lsys_text.specs.Scans.{begins_with, first_token, after}

-- the blanks at the front of a list
blanks_by : (m : Mode) (p c : ℕ) (xs : List ℕ) (b : Bool) → is_blank c ≡ b
    → tokens_from m zero (p + 1) xs ≡ tokens_from m zero (p + 1 + prefix_len is_blank xs) (drop (prefix_len is_blank xs) xs)
    → tokens_from m zero p (c ∷ xs) ≡ tokens_from m zero (p + prefix_len is_blank (c ∷ xs)) (drop (prefix_len is_blank (c ∷ xs)) (c ∷ xs))
blanks_by m p c xs true e ih =
    let one : 1 + prefix_len is_blank xs ≡ suc (prefix_len is_blank xs) = omega arith in
    let on : p + 1 + prefix_len is_blank xs ≡ p + suc (prefix_len is_blank xs) = omega arith in
    rw (e, tokens_from) (rw (one, ← on) ih)
blanks_by m p c xs false e ih = rw (e, add-zero) refl

pub after-blanks : (m : Mode) (p : ℕ) (xs : List ℕ) → tokens_from m zero p xs ≡ tokens_from m zero (p + prefix_len is_blank xs) (drop (prefix_len is_blank xs) xs)
after-blanks m p [] = refl
after-blanks m p (c ∷ xs) = blanks_by m p c xs (is_blank c) refl (after-blanks m (p + 1) xs)

-- the rest of a token
pub rest-of-token : (m : Mode) (n p : ℕ) (xs : List ℕ) → tokens_from m n p xs ≡ tokens_from m zero (p + n) (drop n xs)
rest-of-token m zero p xs = ap (λ q. tokens_from m zero q xs) (sym (add-zero p))
rest-of-token m (suc n) p [] = refl
rest-of-token m (suc n) p (c ∷ xs) =
    let on : p + 1 + n ≡ p + suc n = omega arith in
    rest-of-token m n (p + 1) xs ∙ ap (λ q. tokens_from m zero q (drop n xs)) on

pub at-token : (m : Mode) (p c : ℕ) (xs : List ℕ) (k : Kind) (more : ℕ) → is_blank c ≡ false → token_at m c xs ≡ Some (k, more)
    → tokens_from m zero p (c ∷ xs) ≡ before_rest (record { kind = k; start = p; stop = p + 1 + more }) (tokens_from (next_mode m k) zero (p + 1 + more) (drop more xs))
at-token m p c xs k more d e = rw (d, tokens_from) (rw (e, tokens_from) (ap (before_rest (record { kind = k; start = p; stop = p + 1 + more })) (rest-of-token (next_mode m k) more (p + 1) xs)))

pub at-no-token : (m : Mode) (p c : ℕ) (xs : List ℕ) → is_blank c ≡ false → token_at m c xs ≡ None → tokens_from m zero p (c ∷ xs) ≡ Err (p + 1)
at-no-token m p c xs d e = rw (d, tokens_from) (rw (e, tokens_from) refl)

pub after-token : (ts : List Token) (t : Token) (r : Result (List Token) ℕ) → after ts (before_rest t r) ≡ after (ts ++ (t ∷ [])) r
after-token ts t (Ok us) = ap (λ vs. Ok vs) (sym (append_assoc ts (t ∷ []) us))
after-token ts t (Err column) = refl

no-blank_by : (c : ℕ) (xs : List ℕ) (b : Bool) → is_blank c ≡ b → begins_with is_blank (drop (prefix_len is_blank xs) xs) ≡ false
    → begins_with is_blank (drop (prefix_len is_blank (c ∷ xs)) (c ∷ xs)) ≡ false
no-blank_by c xs true e ih = let one : 1 + prefix_len is_blank xs ≡ suc (prefix_len is_blank xs) = omega arith in rw (e, one) ih
no-blank_by c xs false e ih = rw e e

-- what stands after the blanks of a text is no blank
no-blank-after : (xs : List ℕ) → begins_with is_blank (drop (prefix_len is_blank xs) xs) ≡ false
no-blank-after [] = refl
no-blank-after (c ∷ xs) = no-blank_by c xs (is_blank c) refl (no-blank-after xs)

read-token : (m : Mode) (p : ℕ) (xs : List ℕ) (k : Kind) (more : ℕ) → begins_with is_blank xs ≡ false → first_token m xs ≡ Some (k, more)
    → tokens_from m zero p xs ≡ before_rest (record { kind = k; start = p; stop = p + 1 + more }) (tokens_from (next_mode m k) zero (p + 1 + more) (drop (suc more) xs))
read-token m p [] k more d e = cc
read-token m p (c ∷ xs) k more d e = at-token m p c xs k more d e

read-none : (m : Mode) (p : ℕ) (xs : List ℕ) → 0 < length xs → begins_with is_blank xs ≡ false → first_token m xs ≡ None → tokens_from m zero p xs ≡ Err (p + 1)
read-none m p [] s d e = absurd (omega arith)
read-none m p (c ∷ xs) s d e = at-no-token m p c xs d e

after_blanks : (m : Mode) (line : List ℕ) (place n : ℕ) → n ≡ prefix_len is_blank (drop place line)
    → tokens_from m zero place (drop place line) ≡ tokens_from m zero (place + n) (drop (place + n) line)
after_blanks m line place n e =
    after-blanks m place (drop place line)
    ∙ ap (λ k. tokens_from m zero (place + k) (drop k (drop place line))) (sym e)
    ∙ ap (λ xs. tokens_from m zero (place + n) xs) (drop-drop n place line)

no_blank_there : (line : List ℕ) (place n : ℕ) → n ≡ prefix_len is_blank (drop place line) → begins_with is_blank (drop (place + n) line) ≡ false
no_blank_there line place n e =
    ap (begins_with is_blank) (sym (drop-drop n place line) ∙ ap (λ k. drop k (drop place line)) e) ∙ no-blank-after (drop place line)

-- only blanks are left
pub step-end : (m : Mode) (line : List ℕ) (place n : ℕ) → n ≡ prefix_len is_blank (drop place line) → place + n ≡ length line
    → tokens_from m zero place (drop place line) ≡ Ok []
step-end m line place n e l =
    let none : drop (place + n) line ≡ [] = drop_all (place + n) line (omega arith) in
    after_blanks m line place n e ∙ ap (λ xs. tokens_from m zero (place + n) xs) none

-- no token begins after the blanks
pub step-none : (m : Mode) (line : List ℕ) (place n : ℕ) → n ≡ prefix_len is_blank (drop place line) → place + n < length line
    → first_token m (drop (place + n) line) ≡ None → tokens_from m zero place (drop place line) ≡ Err (place + n + 1)
step-none m line place n e l f =
    let some : 0 < length (drop (place + n) line) = omega (arith, length-drop (place + n) line) in
    after_blanks m line place n e ∙ read-none m (place + n) (drop (place + n) line) some (no_blank_there line place n e) f

-- a token stands after the blanks
pub step-token : (m : Mode) (line : List ℕ) (place n : ℕ) (k : Kind) (more : ℕ) → n ≡ prefix_len is_blank (drop place line)
    → first_token m (drop (place + n) line) ≡ Some (k, more)
    → tokens_from m zero place (drop place line)
    ≡ before_rest (record { kind = k; start = place + n; stop = place + n + 1 + more }) (tokens_from (next_mode m k) zero (place + n + 1 + more) (drop (place + n + 1 + more) line))
step-token m line place n k more e f =
    let t : Token = record { kind = k; start = place + n; stop = place + n + 1 + more } in
    let on : place + n + suc more ≡ place + n + 1 + more = omega arith in
    let rest : drop (suc more) (drop (place + n) line) ≡ drop (place + n + 1 + more) line = drop-drop (suc more) (place + n) line ∙ ap (λ i. drop i line) on in
    after_blanks m line place n e ∙ read-token m (place + n) (drop (place + n) line) k more (no_blank_there line place n e) f
    ∙ ap (λ xs. before_rest t (tokens_from (next_mode m k) zero (place + n + 1 + more) xs)) rest

-- a token is read, in the same mode and at the same place
pub same-rest : (t : Token) (m m' : Mode) (p q : ℕ) (line : List ℕ) → m ≡ m' → p ≡ q
    → before_rest t (tokens_from m zero p (drop p line)) ≡ before_rest t (tokens_from m' zero q (drop q line))
same-rest t m m' p q line f g = rw (f, g) refl

-- the rest of a line is read: with the tokens before it, it has a refused byte exactly where it has one alone
pub after-err : (ts : List Token) (r : Result (List Token) ℕ) (column : ℕ) → r ≡ Err column → after ts r ≡ Err column
after-err ts r column e = rw e refl

pub after-nothing : (ts : List Token) (r : Result (List Token) ℕ) → r ≡ Ok [] → after ts r ≡ Ok ts
after-nothing ts r e = rw e (ap (λ us. Ok us) (append-nil ts))

pub after-ok : (ts : List Token) (r : Result (List Token) ℕ) → IsOk r → IsOk (after ts r)
after-ok ts (Ok us) h = h
after-ok ts (Err column) h = cc

pub before-err : (t : Token) (r : Result (List Token) ℕ) (column : ℕ) → r ≡ Err column → before_rest t r ≡ Err column
before-err t r column e = rw e refl

pub before-ok : (t : Token) (r : Result (List Token) ℕ) → IsOk r → IsOk (before_rest t r)
before-ok t (Ok us) h = h
before-ok t (Err column) h = cc
