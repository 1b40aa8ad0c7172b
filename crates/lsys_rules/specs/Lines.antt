-- A command's line.
use Rattle.std.specs.Prelude.{ℕ, List}
use Rattle.lsys_text.specs.declared.token_kind.Token.{Token}

-- its tokens, and how many bytes it has, without its LF and the CR before it
pub record CommandLine : Type 0 where
  pub tokens : List Token
  pub bytes : ℕ
