-- A search for the first unknown name, piece by piece.
use Rattle.std.specs.Prelude.{◌≡◌, ℕ, ◌+◌, false, Option, Some, Result, Ok, Err, List, ◌++◌, length, map, IfOk}
use Rattle.lsys_syntax.specs.Tokens.{Kind}
use Rattle.lsys_syntax.specs.Pieces.{Piece, kinds_of}
use Rattle.lsys_syntax.specs.Checks.{unknown_place}
use Rattle.lsys_text.specs.Tokens.{name_of}
use Rattle.lsys_reading.specs.declared.span.ExprSpan.{ExprSpan}
use Rattle.lsys_bodies.specs.Formals.{Numbered}
use Rattle.lsys_bodies.specs.SpanPieces.{marked_span}
use Rattle.lsys_bodies.specs.declared.formals.FormalNames.{FormalNames}

-- how many tokens
abbrev pub count : List Piece → ℕ
count ps = length (kinds_of ps)

-- what was found, or what is found from the place after on
abbrev pub found_or : Result ℕ ℕ → (ℕ → Option ℕ) → Option ℕ
found_or (Ok m) f = f m
found_or (Err place) f = Some place

-- The search of these pieces, the first token of which has number n, found an unknown name or ends at the place after them.
pub record Searches (x : FormalNames) (n : ℕ) (ps : List Piece) (result : Result ℕ ℕ) : Type 0 where
  pub place : IfOk result (λ m. m ≡ n + count ps)
  pub same : (fs : List (List ℕ)) → Numbered fs x.numbers → (qs : List Piece)
      → unknown_place (map name_of fs) false n (ps ++ qs) ≡ found_or result (λ m. unknown_place (map name_of fs) false m qs)

-- the same of the expression at a span, where there is one, after any mark
abbrev pub SearchesSpan : FormalNames → ℕ → List Kind → Option ExprSpan → Result ℕ ℕ → Type 0
SearchesSpan x n ks span result = (mark : Kind) → Searches x n (marked_span mark ks span) result
