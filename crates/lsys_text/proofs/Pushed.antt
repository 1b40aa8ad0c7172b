-- A token that is added, or finds no room, is a step along the line.
use Rattle.std.proofs.Common.{◌≡◌, ◌∙◌, ◌+◌, ◌++◌, ◌∷◌, [], ℕ, List, Option, Some, None, Ok, Err, ap, sym, subst, drop, map}
use Rattle.std.specs.Prelude.{Result, All, IsOk}
use Rattle.std.specs.List.{prefix_len}
use Rattle.std.proofs.lemmas.List.{map-append}
use Rattle.std.proofs.lemmas.List.Elements.{All-push}
use Rattle.lsys_syntax.specs.Tokens.{is_blank, before_rest}
use Rattle.lsys_text.specs.declared.scan.Mode.{Mode}
use Rattle.lsys_text.specs.declared.scan.Lexeme.{Lexeme}
use Rattle.lsys_text.specs.declared.scan.Cursor.{Cursor}
use Rattle.lsys_text.specs.declared.token_kind.Token.{Token}
use Rattle.lsys_text.specs.declared.refusals.TextRefusal.{TextRefusal}
use Rattle.lsys_text.specs.declared.refusals.TextRefusal.TheVariants.{Byte, Memory}
use Rattle.lsys_text.specs.Tokens.{token_of, kind_of}
use Rattle.lsys_text.specs.Scans.{mode_of, lexeme_of, first_token, as_token, rest_from, after, IsCursorAfter, IsPushed, IsStep}
use Rattle.lsys_text.proofs.Reading.{step-token, same-rest, after-token, after-err, after-ok, before-err, before-ok}

-- what is left of a line begins with the token that is read
rest-read : (line : List ℕ) (c next : Cursor) (n : ℕ) (x : Lexeme) → n ≡ prefix_len is_blank (drop c.place line)
    → first_token (mode_of c.mode) (drop (c.place + n) line) ≡ Some (lexeme_of x) → IsCursorAfter (c.place + n) c.mode x next
    → rest_from line c ≡ before_rest (token_of (as_token x (c.place + n))) (rest_from line next)
rest-read line c next n x e f h =
    step-token (mode_of c.mode) line c.place n (kind_of x.kind) x.more e f ∙ same-rest _ _ _ _ _ line (sym h.1) (sym h.0)

pub pushed-step : (line : List ℕ) (old new : List Token) (c : Cursor) (n : ℕ) (x : Lexeme) (r : Result (Option Cursor) TextRefusal)
    → n ≡ prefix_len is_blank (drop c.place line) → first_token (mode_of c.mode) (drop (c.place + n) line) ≡ Some (lexeme_of x)
    → IsPushed line old (c.place + n) c.mode x new r → IsStep line old c new r
pushed-step line old new c n x (Ok None) e f h = absurd h
pushed-step line old new c n x (Ok (Some next)) e f h =
    let t : Token = as_token x (c.place + n) in
    let all : map token_of new ≡ map token_of old ++ token_of t ∷ [] = ap (map token_of) h.0 ∙ map-append token_of old (t ∷ []) in
    ap (after (map token_of old)) (rest-read line c next n x e f h.1) ∙ after-token (map token_of old) (token_of t) (rest_from line next)
    ∙ ap (λ ts. after ts (rest_from line next)) (sym all)
pushed-step line old new c n x (Err (Byte column)) e f h =
    after-err _ _ column (rest-read line c h.1.0 n x e f h.1.1 ∙ before-err _ _ column h.1.2)
pushed-step line old new c n x (Err Memory) e f h =
    after-ok _ _ (subst IsOk (sym (rest-read line c h.1.0 n x e f h.1.1)) (before-ok _ _ h.1.2))

-- what holds of the tokens found and of the one that is read holds of those found then
pub pushed-all : (P : Token → Type 0) (line : List ℕ) (old new : List Token) (start : ℕ) (mode : Mode) (x : Lexeme) (r : Result (Option Cursor) TextRefusal)
    → All P old → P (as_token x start) → IsPushed line old start mode x new r → All P new
pushed-all P line old new start mode x (Ok None) a p h = absurd h
pushed-all P line old new start mode x (Ok (Some next)) a p h = subst (All P) (sym h.0) (All-push P old _ a p)
pushed-all P line old new start mode x (Err refusal) a p h = subst (All P) (sym h.0) a
