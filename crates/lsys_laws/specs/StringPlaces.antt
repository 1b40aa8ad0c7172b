-- Which tokens are a string, and which are the beginning of one, told by strings themselves.
use Rattle.std.specs.Prelude.{◌≡◌, true, List, ◌∷◌, ◌++◌, codes}
use Rattle.lsys_syntax.specs.Tokens.{Kind, Word}
use Rattle.lsys_syntax.specs.Pieces.{kinds_of}
use Rattle.lsys_syntax.specs.Strings.{Symbol, Signed, signed_pieces, string_pieces, balanced, EachOf, IsSymbol, IsSigned}
use Rattle.lsys_syntax.specs.LineMachine.{Verdict, verdict}

-- the tokens are those of this string
pub record IsStringOf (ks : List Kind) (xs : List (Symbol Signed)) : Type 0 where
  pub symbols : EachOf (IsSymbol IsSigned) xs
  pub closed : balanced 0 xs ≡ true
  pub spelled : kinds_of (string_pieces signed_pieces xs) ≡ ks

-- some string is spelled by the tokens
abbrev pub IsString : List Kind → Type 0
IsString ks = (xs : List (Symbol Signed)) × IsStringOf ks xs

-- some string begins with the tokens
abbrev pub BeginsString : List Kind → Type 0
BeginsString ks = (rest : List Kind) × IsString (ks ++ rest)

-- the verdict on a line whose first word is `axiom`, by the tokens after it
abbrev pub axiom_verdict : List Kind → Verdict
axiom_verdict ks = verdict (Word (codes "axiom") ∷ ks)
