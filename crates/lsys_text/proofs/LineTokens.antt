-- The tokens of a line are of their form.
use Rattle.std.proofs.Common.{◌≡◌, ℕ, List, map, Ok, subst}
use Rattle.std.proofs.lemmas.Simd.{map-map}
use Rattle.lsys_syntax.specs.Tokens as syntax
use Rattle.lsys_syntax.specs.Sentences.{AreTokens}
use Rattle.lsys_syntax.proofs.TokenForms.{line-tokens}
use Rattle.lsys_text.specs.Tokens.{kind_row, token_of}
use Rattle.lsys_text.specs.declared.token_kind.Token.{Token}

pub line-forms : (line : List ℕ) (ts : List Token) → syntax.tokens line ≡ Ok (map token_of ts) → AreTokens (kind_row ts)
line-forms line ts e = subst AreTokens (map-map (λ t. t.kind) token_of ts) (line-tokens line (map token_of ts) e)
