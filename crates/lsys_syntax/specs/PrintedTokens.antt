-- What is printed is read as the tokens that it was printed from.
use Rattle.std.specs.Prelude.{◌≡◌, List, Ok, ℕ, ℤ, zero, map}
use Rattle.lsys_syntax.specs.Tokens.{tokens, First, tokens_from, Modules, Token}
use Rattle.lsys_syntax.specs.Pieces.{Piece, text_of, placed, Reads, anything}
use Rattle.lsys_syntax.specs.Strings.{Symbol, AreSymbols, string_text, string_pieces, value_pieces}
use Rattle.lsys_syntax.specs.Sentences.{AreTokens}
use Rattle.lsys_syntax.specs.Commands.{Command, IsCommand, command_pieces}

-- a line printed from pieces, each of which may stand after the one
-- before, is read as their tokens, each at its place
abbrev pub PrintedPiecesAreReadBack : Type 0
PrintedPiecesAreReadBack =
    (pieces : List Piece) → Reads First anything pieces
    → tokens (text_of pieces) ≡ Ok (placed 0 pieces)

-- and so is a printed string of modules, wherever it stands in a line
abbrev pub PrintedStringsAreReadBack : Type 0
PrintedStringsAreReadBack =
    (symbols : List (Symbol ℤ)) (place : ℕ) → AreSymbols symbols
    → tokens_from Modules zero place (string_text symbols)
    ≡ Ok (placed place (string_pieces value_pieces symbols))

-- in every line that is read, the tokens are of their forms
abbrev pub ReadTokensHaveTheirForms : Type 0
ReadTokensHaveTheirForms =
    (line : List ℕ) (read : List Token) → tokens line ≡ Ok read → AreTokens (map (λ t. t.kind) read)

-- the line of a command is read as the tokens that it was printed from
abbrev pub PrintedCommandsAreReadBack : Type 0
PrintedCommandsAreReadBack =
    (command : Command) → IsCommand command
    → tokens (text_of (command_pieces command)) ≡ Ok (placed 0 (command_pieces command))
