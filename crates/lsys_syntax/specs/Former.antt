-- The language of version 1: its commands, its sentences, and how its lines are read as tokens.
use Rattle.std.specs.Prelude.{ℕ, zero, suc, Bool, true, false, Option, Some, None, Result, Ok, Err, List, [], ◌∷◌, ◌++◌, ◌||◌, ◌+◌, codes, bytes_eq, if◌then◌else◌}
use Rattle.lsys_syntax.specs.Tokens.{Kind, Word, Colon, Token, Mode, First, Words, UntilColon, Modules, is_blank, token_at, before_rest}
use Rattle.lsys_syntax.specs.Commands.{Command, set_version, set_own, drop_own, set_numbering}
use Rattle.lsys_syntax.specs.Sentences.{IsSpelled}

-- a word that begins a line of version 2 alone
abbrev pub is_later_word : List ℕ → Bool
is_later_word w =
    bytes_eq w (codes "version") || (bytes_eq w (codes "ignoring") || (bytes_eq w (codes "consider") || (bytes_eq w (codes "common") || bytes_eq w (codes "lineage"))))

abbrev pub is_later_kind : Kind → Bool
is_later_kind (Word w) = is_later_word w
is_later_kind k = false

-- the first token is such a word
abbrev pub begins_later : List Kind → Bool
begins_later [] = false
begins_later (k ∷ ks) = is_later_kind k

-- one of the fourteen commands of version 1
abbrev pub IsFormer : Command → Type 0
IsFormer (set_version n) = ⊥
IsFormer (set_own k t ns) = ⊥
IsFormer (drop_own t) = ⊥
IsFormer (set_numbering g) = ⊥
IsFormer c = Unit {0}

-- Some sentence of version 1, nested at most b deep, begins with the tokens.
abbrev pub BeginsFormer : ℕ → List Kind → Type 0
BeginsFormer b ks = (c : Command) × (rest : List Kind) × IsFormer c × IsSpelled b (ks ++ rest) c

-- how version 1 reads a line: as Tokens says, but for the words of version 2
abbrev pub former_after_word : List ℕ → Mode
former_after_word w =
    if bytes_eq w (codes "axiom") || bytes_eq w (codes "ignore") then Modules
    else if bytes_eq w (codes "production") || bytes_eq w (codes "hom") then UntilColon
    else Words

abbrev pub former_next_mode : Mode → Kind → Mode
former_next_mode First (Word w) = former_after_word w
former_next_mode First k = Words
former_next_mode UntilColon Colon = Modules
former_next_mode m k = m

abbrev pub former_tokens_from : Mode → ℕ → ℕ → List ℕ → Result (List Token) ℕ
former_tokens_from m n p [] = Ok []
former_tokens_from m (suc n) p (c ∷ bytes) = former_tokens_from m n (p + 1) bytes
former_tokens_from m zero p (c ∷ bytes) =
    elim (is_blank c) [
      | true ↦ former_tokens_from m zero (p + 1) bytes
      | false ↦ elim (token_at m c bytes) [
        | None ↦ Err (p + 1)
        | Some t ↦ before_rest (record { kind = t.0; start = p; stop = p + 1 + t.1 }) (former_tokens_from (former_next_mode m t.0) t.1 (p + 1) bytes)
      ]
    ]

abbrev pub former_tokens : List ℕ → Result (List Token) ℕ
former_tokens line = former_tokens_from First 0 0 line

abbrev pub is_later_token : Option (Kind × ℕ) → Bool
is_later_token None = false
is_later_token (Some t) = is_later_kind t.0

-- the first token of a line is a word that begins a line of version 2 alone
abbrev pub is_later_line : List ℕ → Bool
is_later_line [] = false
is_later_line (c ∷ bytes) = if is_blank c then is_later_line bytes else is_later_token (token_at First c bytes)
