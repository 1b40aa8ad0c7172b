-- Which tokens are sentences, and which are the beginning of one.
use Rattle.std.specs.Prelude.{◌≡◌, ℕ, List, ◌++◌, ◌<◌, ◌≤◌}
use Rattle.lsys_syntax.specs.Limits.{number_bound}
use Rattle.lsys_syntax.specs.Tokens.{Kind, Word, Name, Number}
use Rattle.lsys_syntax.specs.Pieces.{kinds_of, IsNameText, IsWordText}
use Rattle.lsys_syntax.specs.Strings.{EachOf}
use Rattle.lsys_syntax.specs.Commands.{Command, command_pieces, IsCommand, nesting}

-- what a line's token may be: a word or a name of its form, a number below 2 ^ 64
abbrev pub IsToken : Kind → Type 0
IsToken (Word w) = IsWordText w
IsToken (Name n) = IsNameText n
IsToken (Number n) = n < number_bound
IsToken k = Unit {0}

abbrev pub AreTokens : List Kind → Type 0
AreTokens ks = EachOf IsToken ks

-- The tokens are the spelling of the command, whose expressions are nested at most b deep.
abbrev pub IsSpelled : ℕ → List Kind → Command → Type 0
IsSpelled b ks c = (kinds_of (command_pieces c) ≡ ks) × IsCommand c × (nesting c ≤ b)

-- Some sentence, nested at most b deep, begins with the tokens.
abbrev pub Begins : ℕ → List Kind → Type 0
Begins b ks = (c : Command) × (rest : List Kind) × IsSpelled b (ks ++ rest) c

-- Some sentence of any nesting begins with the tokens.
abbrev pub BeginsDeep : List Kind → Type 0
BeginsDeep ks = (b : ℕ) × Begins b ks

-- A command of any nesting is spelled by the tokens.
abbrev pub IsSpelling : List Kind → Type 0
IsSpelling ks = (c : Command) × IsCommand c × (kinds_of (command_pieces c) ≡ ks)
