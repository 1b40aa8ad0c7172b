-- The pieces of a rule's formals and patterns, as they were read.
use Rattle.std.specs.Prelude.{ℕ, List, ◌∷◌, map}
use Rattle.lsys_syntax.specs.Tokens.{Kind}
use Rattle.lsys_syntax.specs.Pieces.{Piece, a_symbol, note, token}
use Rattle.lsys_syntax.specs.Strings.{more_pieces, params_pieces, string_pieces, symbol_pieces}
use Rattle.lsys_syntax.specs.Rules.{formal_pieces, left_pieces, right_pieces}
use Rattle.lsys_text.specs.Tokens.{name_of}
use Rattle.lsys_reading.specs.Heads.{patterns_of}
use Rattle.lsys_reading.specs.Patterns.{symbol_read}
use Rattle.lsys_reading.specs.declared.patterns.PatternSymbol.{PatternSymbol}

-- formals, in parentheses where there are any
abbrev pub formals_pieces : List (List ℕ) → List Piece
formals_pieces fs = params_pieces formal_pieces (map name_of fs)

-- formals, each after a mark
abbrev pub more_formals_pieces : List (List ℕ) → List Piece
more_formals_pieces fs = more_pieces formal_pieces (map name_of fs)

-- a name, which is this token, and the formals after it
abbrev pub module_pieces : Kind → List (List ℕ) → List Piece
module_pieces k fs = note a_symbol ∷ token k ∷ formals_pieces fs

abbrev pub pattern_pieces : PatternSymbol → List Piece
pattern_pieces x = symbol_pieces formal_pieces (symbol_read x)

-- those of all these patterns
abbrev pub pieces_in : List PatternSymbol → List Piece
pieces_in xs = string_pieces formal_pieces (patterns_of xs)

-- patterns as a left context, and the mark after it
abbrev pub left_context : List PatternSymbol → List Piece
left_context xs = left_pieces (patterns_of xs)

-- patterns as a right context, and the mark before it
abbrev pub right_context : List PatternSymbol → List Piece
right_context xs = right_pieces (patterns_of xs)
