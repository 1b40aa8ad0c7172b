-- A printed text is read as the tokens that it was printed from.
use Rattle.std.proofs.Common.{◌≡◌, ℕ, zero, suc, Bool, false, ◌+◌, List, [], ◌∷◌, ◌++◌, length, refl, ap, ◌∙◌, sym, arith, Some, Ok, add-zero}
use Rattle.lsys_syntax.specs.Tokens.{Kind, Mode, is_blank, token_at, next_mode, before_rest, tokens_from, tokens, First}
use Rattle.lsys_syntax.specs.Pieces.{token_text, Piece, blank, token, note, text_of, placed, Tail, anything, not_underscore, not_plain, not_digit, not_equals, ending, beginning, Reads}
use Rattle.lsys_syntax.proofs.Bytes.{Stops}
use Rattle.lsys_syntax.proofs.TokenAt.{continues, head-stops, Printed, printed}

no_blank : (t : Tail) → continues t 32 ≡ false
no_blank anything = refl
no_blank not_underscore = refl
no_blank not_plain = refl
no_blank not_digit = refl
no_blank not_equals = refl

stops_at : (p : ℕ → Bool) (text more rest : List ℕ) (c : ℕ) → text ≡ c ∷ more → p c ≡ false → Stops p (text ++ rest)
stops_at p text more rest c e h = rw e h

reads-stops : (ps : List Piece) (m : Mode) (t : Tail) → Reads m t ps → Stops (continues t) (text_of ps)
reads-stops [] m t h = tt
reads-stops (blank ∷ ps) m t h = no_blank t
reads-stops (note n ∷ ps) m t h = reads-stops ps m t h
reads-stops (token k ∷ ps) m t h =
    let w : Printed m k = printed m k h.1 in
    stops_at (continues t) (token_text k) w.more (text_of ps) w.first w.text (head-stops t (beginning k) w.first h.0 w.head)

skipped : (m : Mode) (p : ℕ) (xs rest : List ℕ) → tokens_from m (length xs) p (xs ++ rest) ≡ tokens_from m zero (p + length xs) rest
skipped m p [] rest = ap (λ q. tokens_from m zero q rest) (sym (add-zero p))
skipped m p (x ∷ xs) rest =
    let e : p + 1 + length xs ≡ p + suc (length xs) = omega arith in
    skipped m (p + 1) xs rest ∙ ap (λ q. tokens_from m zero q rest) e

one_token : (m : Mode) (p c : ℕ) (more rest : List ℕ) (k : Kind) → is_blank c ≡ false → token_at m c (more ++ rest) ≡ Some (k, length more)
    → tokens_from m zero p (c ∷ (more ++ rest)) ≡ before_rest (record { kind = k; start = p; stop = p + 1 + length more }) (tokens_from (next_mode m k) zero (p + 1 + length more) rest)
one_token m p c more rest k d e = rw (d, tokens_from) (rw (e, tokens_from) (rw (skipped (next_mode m k) (p + 1) more rest)))

text-length : (m : Mode) (k : Kind) (w : Printed m k) (p : ℕ) → p + 1 + length w.more ≡ p + length (token_text k)
text-length m k w p = rw w.text (omega arith)

pub reads-from : (ps : List Piece) (m : Mode) (t : Tail) (p : ℕ) → Reads m t ps → tokens_from m zero p (text_of ps) ≡ Ok (placed p ps)
reads-from [] m t p h = refl
reads-from (blank ∷ ps) m t p h = reads-from ps m anything (p + 1) h
reads-from (note n ∷ ps) m t p h = reads-from ps m t p h
reads-from (token k ∷ ps) m t p h =
    let w : Printed m k = printed m k h.1 in
    let s : Stops (continues (ending k)) (text_of ps) = reads-stops ps (next_mode m k) (ending k) h.2 in
    ap (λ text. tokens_from m zero p (text ++ text_of ps)) w.text
    ∙ one_token m p w.first w.more (text_of ps) k w.dense (w.read (text_of ps) s)
    ∙ ap (λ q. before_rest (record { kind = k; start = p; stop = q }) (tokens_from (next_mode m k) zero q (text_of ps))) (text-length m k w p)
    ∙ ap (before_rest (record { kind = k; start = p; stop = p + length (token_text k) })) (reads-from ps (next_mode m k) (ending k) (p + length (token_text k)) h.2)

pub reads_back : (ps : List Piece) → Reads First anything ps → tokens (text_of ps) ≡ Ok (placed 0 ps)
reads_back ps h = reads-from ps First anything 0 h
