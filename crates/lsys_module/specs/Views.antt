-- The names and the symbols of the code, as those of the definitions.
use Rattle.std.specs.Prelude.{ℕ, ℤ, List, [], ◌∷◌, ◌==◌, map, if◌then◌else◌}
use Rattle.lsys_syntax.specs.Tokens as syntax
use Rattle.lsys_syntax.specs.Strings as strings
use Rattle.lsys_text.specs.Tokens.{name_of}
use Rattle.lsys_module.specs.declared.symbol.Symbol.{Symbol}
use Rattle.lsys_module.specs.declared.symbol.Symbol.TheVariants.{Push, Pop, Cut, Module}

-- the name of one byte: one of the eight marks, or a letter
abbrev pub short_name : ℕ → strings.ModuleName
short_name c =
    if c == 43 then strings.plus else if c == 45 then strings.minus
    else if c == 38 then strings.ampersand else if c == 94 then strings.caret
    else if c == 92 then strings.backslash else if c == 47 then strings.slash
    else if c == 124 then strings.bar else if c == 33 then strings.bang
    else strings.named (syntax.short c)

-- the name with this text
abbrev pub module_name : List ℕ → strings.ModuleName
module_name (c ∷ []) = short_name c
module_name text = strings.named (name_of text)

-- the symbol of the definitions that a symbol stands for
abbrev pub symbol_of : Symbol → strings.Symbol ℤ
symbol_of Push = strings.Push
symbol_of Pop = strings.Pop
symbol_of Cut = strings.Cut
symbol_of (Module m) = strings.Module (module_name m.name) m.params

-- the string of the definitions that symbols stand for
abbrev pub string_of : List Symbol → List (strings.Symbol ℤ)
string_of symbols = map symbol_of symbols
