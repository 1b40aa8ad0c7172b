-- A level as it comes from what replaces each symbol of the level above it, kept symbol by symbol.
use Rattle.std.specs.Prelude.{◌≡◌, ℕ, zero, suc, ℤ, Bool, false, Option, Some, None, Ok, List, [], ◌∷◌, ◌++◌, ◌+◌, is_some, if◌then◌else◌, map}
use Rattle.lsys_syntax.specs.Commands.{Numbering}
use Rattle.lsys_syntax.specs.Strings as S
use Rattle.lsys_spec.specs.Systems.{System}
use Rattle.lsys_spec.specs.Levels.{LevelSymbol, Push, Pop, Module, lineage}
use Rattle.lsys_spec.specs.Cuts.{cut}
use Rattle.lsys_spec.specs.Meaning.{children, replacement}
use Rattle.lsys_laws.specs.Kinds.{kind_of_symbol, stays, reached}

-- these replace the symbols of level t from place p on, one after the other
abbrev pub AreReplaced : System → ℕ → List LevelSymbol → ℕ
    → List LevelSymbol → List (List (S.Symbol ℤ)) → Type 0
AreReplaced s t x p [] zss = zss ≡ []
AreReplaced s t x p (a ∷ rest) [] = ⊥
AreReplaced s t x p (a ∷ rest) (zs ∷ zss) =
    (replacement s t x p a ≡ Ok zs) × AreReplaced s t x (p + 1) rest zss

-- the children of a symbol as far as they do not cut one another off
abbrev pub own_children : Numbering → LevelSymbol → List (S.Symbol ℤ) → List LevelSymbol
own_children g a zs = cut (children g (lineage a) zs)

-- after these symbols: where a branch is being cut off, how many branches are open in what is cut off
abbrev pub cutting_after : Option ℕ → List (S.Symbol ℤ) → Option ℕ
cutting_after o [] = o
cutting_after None (S.Cut ∷ zs) = cutting_after (Some 0) zs
cutting_after None (S.Push ∷ zs) = cutting_after None zs
cutting_after None (S.Pop ∷ zs) = cutting_after None zs
cutting_after None (S.Module m ps ∷ zs) = cutting_after None zs
cutting_after (Some n) (S.Cut ∷ zs) = cutting_after (Some n) zs
cutting_after (Some n) (S.Module m ps ∷ zs) = cutting_after (Some n) zs
cutting_after (Some n) (S.Push ∷ zs) = cutting_after (Some (suc n)) zs
cutting_after (Some zero) (S.Pop ∷ zs) = cutting_after None zs
cutting_after (Some (suc n)) (S.Pop ∷ zs) = cutting_after (Some n) zs

-- a cut among them reaches what stands after them
abbrev pub is_open : List (S.Symbol ℤ) → Bool
is_open zs = is_some (cutting_after None zs)

-- the children of the symbols of a level, after what is being cut off, or nothing
abbrev pub row : Numbering → Option ℕ → List LevelSymbol → List (List (S.Symbol ℤ)) → List LevelSymbol
row g o [] zss = []
row g o (a ∷ x) [] = []
row g o (a ∷ x) (zs ∷ zss) =
    (if stays o (kind_of_symbol a) then own_children g a zs else [])
    ++ row g (reached o (kind_of_symbol a) (is_open zs)) x zss

-- Of nodes that have these symbols: each one's own children are those of what replaces it, and it is told whether a cut
-- among them reaches what stands after.
abbrev pub HaveOwnChildren : Numbering → (ℕ → LevelSymbol) → (ℕ → List ℕ) → (ℕ → Bool)
    → List ℕ → List (List (S.Symbol ℤ)) → Type 0
HaveOwnChildren g symbol own cuts [] zss = zss ≡ []
HaveOwnChildren g symbol own cuts (p ∷ ps) [] = ⊥
HaveOwnChildren g symbol own cuts (p ∷ ps) (zs ∷ zss) =
    (map symbol (own p) ≡ own_children g (symbol p) zs) × (cuts p ≡ is_open zs)
    × HaveOwnChildren g symbol own cuts ps zss

-- no cut reaches what stands after the children of one symbol
abbrev pub NoneOpen : List (List (S.Symbol ℤ)) → Type 0
NoneOpen [] = Unit {0}
NoneOpen (zs ∷ zss) = (is_open zs ≡ false) × NoneOpen zss

-- each symbol's own children, one after the other
abbrev pub own_rows : Numbering → List LevelSymbol → List (List (S.Symbol ℤ)) → List LevelSymbol
own_rows g [] zss = []
own_rows g (a ∷ x) [] = []
own_rows g (a ∷ x) (zs ∷ zss) = own_children g a zs ++ own_rows g x zss
