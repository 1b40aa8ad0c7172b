-- What the functions that look for one token answer.
use Rattle.std.specs.Prelude.{◌≡◌, ◌<◌, ◌≤◌, ℕ, zero, ◌+◌, ◌-◌, ◌++◌, length, drop, map, Result, Ok, Err, Bool, false, List, [], ◌∷◌, Option, None, Some, IfSome, IsOk}
use Rattle.lsys_syntax.specs.Tokens as syntax
use Rattle.lsys_text.specs.declared.scan.Mode.{Mode}
use Rattle.lsys_text.specs.declared.scan.Mode.TheVariants.{First, Words, UntilColon, Modules}
use Rattle.lsys_text.specs.declared.scan.Lexeme.{Lexeme}
use Rattle.lsys_text.specs.declared.scan.Cursor.{Cursor}
use Rattle.lsys_text.specs.declared.token_kind.Token.{Token}
use Rattle.lsys_text.specs.declared.token_kind.TokenKind.{TokenKind}
use Rattle.lsys_text.specs.declared.refusals.TextRefusal.{TextRefusal}
use Rattle.lsys_text.specs.declared.refusals.TextRefusal.TheVariants.{Byte, Memory}
use Rattle.lsys_text.specs.Tokens.{kind_of, token_of}

-- the mode that the code's mode stands for
abbrev pub mode_of : Mode → syntax.Mode
mode_of First = syntax.First
mode_of Words = syntax.Words
mode_of UntilColon = syntax.UntilColon
mode_of Modules = syntax.Modules

-- a kind, and how many bytes stand after the token's first
abbrev pub lexeme_of : Lexeme → syntax.Kind × ℕ
lexeme_of x = (kind_of x.kind, x.more)

-- the token of a lexeme whose first byte stands at this place of a line
abbrev pub as_token : Lexeme → ℕ → Token
as_token x start = record { kind = x.kind; start = start; end = start + 1 + x.more }

-- a first byte that passes
abbrev pub begins_with : (ℕ → Bool) → List ℕ → Bool
begins_with p [] = false
begins_with p (c ∷ bytes) = p c

-- the longest token at the front of a text
abbrev pub first_token : syntax.Mode → List ℕ → Option (syntax.Kind × ℕ)
first_token m [] = None
first_token m (c ∷ bytes) = syntax.token_at m c bytes

-- the longest name at the front of a text that begins with a letter
abbrev pub first_name : List ℕ → syntax.Kind × ℕ
first_name [] = (syntax.LongWord, 0)
first_name (c ∷ bytes) = syntax.name_with c (syntax.name_tail bytes)

-- the longest mark at the front of a text
abbrev pub first_mark : List ℕ → Option (syntax.Kind × ℕ)
first_mark [] = None
first_mark (c ∷ bytes) = syntax.mark_at c bytes

-- a line's tokens, of which the first ones are given
abbrev pub after : List syntax.Token → Result (List syntax.Token) ℕ → Result (List syntax.Token) ℕ
after ts (Ok us) = Ok (ts ++ us)
after ts (Err column) = Err column

-- the line goes on in the mode after a token of this kind
abbrev pub IsModeAfter : Mode → TokenKind → Cursor → Type 0
IsModeAfter mode kind next = mode_of next.mode ≡ syntax.next_mode (mode_of mode) (kind_of kind)

-- the tokens of a line from a cursor on
abbrev pub rest_from : List ℕ → Cursor → Result (List syntax.Token) ℕ
rest_from line c = syntax.tokens_from (mode_of c.mode) zero c.place (drop c.place line)

-- the tokens found so far, and those of the rest of the line
abbrev pub all_tokens : List ℕ → List Token → Cursor → Result (List syntax.Token) ℕ
all_tokens line found c = after (map token_of found) (rest_from line c)

-- One step from a cursor on: nothing is left, or one more token is found, or no token begins at a byte; memory is
-- wanted only where no byte of the rest is refused.
abbrev pub IsStep : List ℕ → List Token → Cursor → List Token → Result (Option Cursor) TextRefusal → Type 0
IsStep line old c new (Ok None) = all_tokens line old c ≡ Ok (map token_of new)
IsStep line old c new (Ok (Some next)) = all_tokens line old c ≡ all_tokens line new next
IsStep line old c new (Err (Byte column)) = all_tokens line old c ≡ Err column
IsStep line old c new (Err Memory) = IsOk (all_tokens line old c)

-- why a line is refused whose tokens find no room: its first byte that is in none, or none is and memory is wanted
abbrev pub IsRefusalFrom : List ℕ → Cursor → TextRefusal → Type 0
IsRefusalFrom line c (Byte column) = rest_from line c ≡ Err column
IsRefusalFrom line c Memory = IsOk (rest_from line c)

-- after a token that begins at a place, in the mode of what follows it
abbrev pub IsCursorAfter : ℕ → Mode → Lexeme → Cursor → Type 0
IsCursorAfter start mode x next = (next.place ≡ start + 1 + x.more) × IsModeAfter mode x.kind next

-- a token that begins at a place is added, and the line goes on after it; or there is no room, and the rest is told of
abbrev pub IsPushed : List ℕ → List Token → ℕ → Mode → Lexeme → List Token → Result (Option Cursor) TextRefusal → Type 0
IsPushed line old start mode x new (Ok None) = ⊥
IsPushed line old start mode x new (Ok (Some next)) = (new ≡ old ++ as_token x start ∷ []) × IsCursorAfter start mode x next
IsPushed line old start mode x new (Err refusal) = (new ≡ old) × ((next : Cursor) × IsCursorAfter start mode x next × IsRefusalFrom line next refusal)

-- the next token is passed: what is refused after it is refused before it too
abbrev pub IsPassed : List ℕ → Cursor → Result (Option Cursor) TextRefusal → Type 0
IsPassed line c (Ok None) = rest_from line c ≡ Ok []
IsPassed line c (Ok (Some next)) = (t : syntax.Token) × (rest_from line c ≡ syntax.before_rest t (rest_from line next))
IsPassed line c (Err (Byte column)) = rest_from line c ≡ Err column
IsPassed line c (Err Memory) = ⊥

-- the longest number at the front of a text that begins with a digit
abbrev pub front_number : List ℕ → syntax.Kind × ℕ
front_number bytes =
    let digits = syntax.front syntax.is_digit bytes in
    (syntax.number_kind digits, length digits - 1)

-- the longest word at the front of a text that begins with a letter
abbrev pub front_word : List ℕ → syntax.Kind × ℕ
front_word bytes =
    let word = syntax.front syntax.is_word_byte bytes in
    (syntax.word_kind word, length word - 1)

-- where the line goes on, if it does, is after the cursor and within the line
abbrev pub IsFurther : List ℕ → Cursor → Option Cursor → Type 0
IsFurther line old next = IfSome next (λ c. (old.place < c.place) × (c.place ≤ length line))
