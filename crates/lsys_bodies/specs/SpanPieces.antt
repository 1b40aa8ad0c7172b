-- The pieces of a rule's expressions and of its successor, by the spans at which they stand among tokens.
use Rattle.std.specs.Prelude.{Option, List, ◌∷◌, [], ◌++◌, map}
use Rattle.lsys_syntax.specs.Tokens.{Kind}
use Rattle.lsys_syntax.specs.Pieces.{Piece, a_symbol, expr_begins, expr_ends, note, token}
use Rattle.lsys_syntax.specs.Expressions.{expr_pieces}
use Rattle.lsys_syntax.specs.Strings.{more_pieces, params_pieces, string_pieces, symbol_pieces}
use Rattle.lsys_syntax.specs.Rules.{option_pieces, successor_pieces}
use Rattle.lsys_reading.specs.Spans.{option_at}
use Rattle.lsys_reading.specs.Images.{image_at, images_at, params_at}
use Rattle.lsys_reading.specs.declared.images.ImageSymbol.{ImageSymbol}
use Rattle.lsys_reading.specs.declared.span.ExprSpan.{ExprSpan}

-- these tokens as an expression
abbrev pub expression_pieces : List Kind → List Piece
expression_pieces ks = note expr_begins ∷ (map token ks ++ note expr_ends ∷ [])

-- the expression at a span, where there is one, after its mark
abbrev pub marked_span : Kind → List Kind → Option ExprSpan → List Piece
marked_span mark ks span = option_pieces mark (option_at ks span)

-- the parameters at these spans, each after a mark
abbrev pub more_spans : List Kind → List ExprSpan → List Piece
more_spans ks spans = more_pieces expr_pieces (params_at ks spans)

-- a name, which is this token, and the parameters after it
abbrev pub image_module : Kind → List Kind → List ExprSpan → List Piece
image_module k ks spans = note a_symbol ∷ token k ∷ params_pieces expr_pieces (params_at ks spans)

-- a symbol of a successor
abbrev pub image_pieces : List Kind → ImageSymbol → List Piece
image_pieces ks x = symbol_pieces expr_pieces (image_at ks x)

-- those of all these symbols
abbrev pub images_pieces : List Kind → List ImageSymbol → List Piece
images_pieces ks xs = string_pieces expr_pieces (images_at ks xs)

-- they are the whole successor
abbrev pub whole_successor : List Kind → List ImageSymbol → List Piece
whole_successor ks xs = successor_pieces (images_at ks xs)
