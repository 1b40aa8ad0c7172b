-- Commands: the syntax trees of lines, and how they are spelled.
--   command = axiom string | production Word [[ Word ]] ":" rule | drop Word | ignore { name } | schedule Word { Word }
--           | seed Number | depth Number | lattice square | lattice hexagonal | lattice cubic | hom Word ":" rule
--           | string [[ Number ]] | segments | svg | show | quit
--           | version Number | ignoring Word ":" { name } | consider Word ":" { name } | common Word
--           | lineage places | lineage names
use Rattle.std.specs.Prelude.{◌≡◌, ℕ, true, Option, Some, None, List, [], ◌∷◌, ◌++◌, ◌<◌, codes, map}
use Rattle.lsys_syntax.specs.Limits.{number_bound}
use Rattle.lsys_syntax.specs.Tokens.{Word, Number, Colon}
use Rattle.lsys_syntax.specs.Pieces.{Piece, blank, token, IsWordText}
use Rattle.lsys_syntax.specs.Strings.{ModuleName, Symbol, Module, Cut, Signed, string_pieces, signed_pieces, balanced, EachOf, IsModuleName, IsSymbol, IsSigned}
use Rattle.lsys_syntax.specs.Expressions.{Expr}
use Rattle.lsys_syntax.specs.Rules.{Rule, rule_pieces, IsRule, rule_nesting}

pub data Lattice : Type 0 where
  square : Lattice
  hexagonal : Lattice
  cubic : Lattice

-- what a table's own list says of its names: they are ignored, or all others are
pub data ListKind : Type 0 where
  to_ignore : ListKind
  to_consider : ListKind

-- how the symbols of a list are numbered
pub data Numbering : Type 0 where
  by_place : Numbering
  by_name : Numbering

pub data Command : Type 0 where
  set_axiom : List (Symbol Signed) → Command
  put_production : Option (List ℕ) → List ℕ → Rule → Command  -- the table, where its word is written, and the label
  drop_rule : List ℕ → Command
  set_ignored : List ModuleName → Command
  set_schedule : List (List ℕ) → Command
  set_seed : ℕ → Command
  set_depth : ℕ → Command
  set_lattice : Lattice → Command
  put_homomorphism : List ℕ → Rule → Command
  print_string : Option ℕ → Command  -- the level, where its number is written
  print_segments : Command
  print_svg : Command
  print_system : Command
  quit : Command
  set_version : ℕ → Command
  set_own : ListKind → List ℕ → List ModuleName → Command  -- of this table
  drop_own : List ℕ → Command
  set_numbering : Numbering → Command

abbrev pub lattice_word : Lattice → List ℕ
lattice_word square = codes "square"
lattice_word hexagonal = codes "hexagonal"
lattice_word cubic = codes "cubic"

abbrev pub list_word : ListKind → List ℕ
list_word to_ignore = codes "ignoring"
list_word to_consider = codes "consider"

abbrev pub numbering_word : Numbering → List ℕ
numbering_word by_place = codes "places"
numbering_word by_name = codes "names"

abbrev pub as_symbol : ModuleName → Symbol Signed
as_symbol n = Module n []

-- a blank and the string, where it isn't empty
abbrev pub string_after : List (Symbol Signed) → List Piece
string_after [] = []
string_after (x ∷ xs) = blank ∷ string_pieces signed_pieces (x ∷ xs)

abbrev pub words_pieces : List (List ℕ) → List Piece
words_pieces [] = []
words_pieces (w ∷ ws) = blank ∷ token (Word w) ∷ words_pieces ws

abbrev pub table_pieces : Option (List ℕ) → List Piece
table_pieces None = []
table_pieces (Some t) = token (Word t) ∷ blank ∷ []

abbrev pub rule_line : List Piece → List ℕ → Rule → List Piece
rule_line front label r = front ++ token (Word label) ∷ token Colon ∷ blank ∷ rule_pieces r

abbrev pub level_pieces : Option ℕ → List Piece
level_pieces None = []
level_pieces (Some n) = blank ∷ token (Number n) ∷ []

abbrev pub command_pieces : Command → List Piece
command_pieces (set_axiom xs) = token (Word (codes "axiom")) ∷ string_after xs
command_pieces (put_production t l r) = token (Word (codes "production")) ∷ blank ∷ rule_line (table_pieces t) l r
command_pieces (drop_rule l) = token (Word (codes "drop")) ∷ blank ∷ token (Word l) ∷ []
command_pieces (set_ignored ns) = token (Word (codes "ignore")) ∷ string_after (map as_symbol ns)
command_pieces (set_schedule ws) = token (Word (codes "schedule")) ∷ words_pieces ws
command_pieces (set_seed n) = token (Word (codes "seed")) ∷ blank ∷ token (Number n) ∷ []
command_pieces (set_depth n) = token (Word (codes "depth")) ∷ blank ∷ token (Number n) ∷ []
command_pieces (set_lattice l) = token (Word (codes "lattice")) ∷ blank ∷ token (Word (lattice_word l)) ∷ []
command_pieces (put_homomorphism l r) = token (Word (codes "hom")) ∷ blank ∷ rule_line [] l r
command_pieces (print_string n) = token (Word (codes "string")) ∷ level_pieces n
command_pieces print_segments = token (Word (codes "segments")) ∷ []
command_pieces print_svg = token (Word (codes "svg")) ∷ []
command_pieces print_system = token (Word (codes "show")) ∷ []
command_pieces quit = token (Word (codes "quit")) ∷ []
command_pieces (set_version n) = token (Word (codes "version")) ∷ blank ∷ token (Number n) ∷ []
command_pieces (set_own k t ns) = token (Word (list_word k)) ∷ blank ∷ token (Word t) ∷ token Colon ∷ string_after (map as_symbol ns)
command_pieces (drop_own t) = token (Word (codes "common")) ∷ blank ∷ token (Word t) ∷ []
command_pieces (set_numbering g) = token (Word (codes "lineage")) ∷ blank ∷ token (Word (numbering_word g)) ∷ []

abbrev pub HasNoCut : List (Symbol Expr) → Type 0
HasNoCut [] = Unit {0}
HasNoCut (Cut ∷ xs) = ⊥
HasNoCut (x ∷ xs) = HasNoCut xs

-- no contexts, no weight, no cut
abbrev pub IsHomomorphism : Rule → Type 0
IsHomomorphism r = (r.left ≡ []) × (r.right ≡ []) × (r.weight ≡ None) × HasNoCut r.successor

abbrev pub IsTable : Option (List ℕ) → Type 0
IsTable None = Unit {0}
IsTable (Some t) = IsWordText t

abbrev pub IsLevelNumber : Option ℕ → Type 0
IsLevelNumber None = Unit {0}
IsLevelNumber (Some n) = n < number_bound

-- the tree of a sentence, nesting apart
abbrev pub IsCommand : Command → Type 0
IsCommand (set_axiom xs) = EachOf (IsSymbol IsSigned) xs × (balanced 0 xs ≡ true)
IsCommand (put_production t l r) = IsTable t × IsWordText l × IsRule r
IsCommand (drop_rule l) = IsWordText l
IsCommand (set_ignored ns) = EachOf IsModuleName ns
IsCommand (set_schedule []) = ⊥
IsCommand (set_schedule (w ∷ ws)) = EachOf IsWordText (w ∷ ws)
IsCommand (set_seed n) = n < number_bound
IsCommand (set_depth n) = n < number_bound
IsCommand (put_homomorphism l r) = IsWordText l × IsRule r × IsHomomorphism r
IsCommand (print_string n) = IsLevelNumber n
IsCommand (set_version n) = n < number_bound
IsCommand (set_own k t ns) = IsWordText t × EachOf IsModuleName ns
IsCommand (drop_own t) = IsWordText t
IsCommand c = Unit {0}

abbrev pub nesting : Command → ℕ
nesting (put_production t l r) = rule_nesting r
nesting (put_homomorphism l r) = rule_nesting r
nesting c = 0
