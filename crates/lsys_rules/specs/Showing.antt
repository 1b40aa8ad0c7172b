-- The lines of a shown system.
use Rattle.std.specs.Prelude.{ℕ, Option, Some, None, List, [], ◌∷◌, ◌++◌, ◌==◌, map, if◌then◌else◌}
use Rattle.lsys_syntax.specs.Tokens.{Kind}
use Rattle.lsys_syntax.specs.Pieces.{text_of, token_text}
use Rattle.lsys_syntax.specs.Strings.{ModuleName, string_pieces, signed_pieces}
use Rattle.lsys_syntax.specs.Expressions.{Expr, expr_pieces}
use Rattle.lsys_syntax.specs.Commands.{Command, Numbering, set_version, as_symbol, command_pieces, string_after}
use Rattle.lsys_spec.specs.Shown.{numbering_commands, script_of}

-- a command on a line of its own
abbrev pub script_line : Command → List ℕ
script_line c = text_of (command_pieces c) ++ 10 ∷ []

-- names as a string of modules without parameters
abbrev pub names_text : List ModuleName → List ℕ
names_text ns = text_of (string_pieces signed_pieces (map as_symbol ns))

-- tokens one directly after another
abbrev pub kinds_text : List Kind → List ℕ
kinds_text [] = []
kinds_text (k ∷ ks) = token_text k ++ kinds_text ks

-- an expression after its mark, where there is one
abbrev pub expr_after : List ℕ → Option Expr → List ℕ
expr_after mark None = []
expr_after mark (Some e) = mark ++ text_of (expr_pieces e)

-- the first lines of a system of this version and numbering
abbrev pub version_lines : ℕ → Numbering → List ℕ
version_lines v g = if v == 1 then [] else script_line (set_version v) ++ script_of (numbering_commands g)

-- what stands after the word of a table in the line of its own list
abbrev pub listed_text : List ModuleName → List ℕ
listed_text ns = 58 ∷ (text_of (string_after (map as_symbol ns)) ++ 10 ∷ [])
