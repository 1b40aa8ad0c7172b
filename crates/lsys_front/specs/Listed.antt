-- Names in a set.
use Rattle.std.specs.Prelude.{◌≡◌, ℕ, Bool, List, [], ◌∷◌, ◌++◌, map, bytes_eq}
use Rattle.std.specs.HashSet.{HashSet, contains}
use Rattle.lsys_syntax.specs.Strings.{ModuleName}
use Rattle.lsys_spec.specs.Meaning.{ignores}
use Rattle.lsys_spec.specs.Standings.{all_ignored}
use Rattle.lsys_text.specs.Texts.{IsNameBytes}
use Rattle.lsys_module.specs.Views.{module_name}

-- a set has the texts of these names, and of no others
abbrev pub ListsNames : {S : Type 0} → HashSet (List ℕ) S → List ModuleName → Type 0
ListsNames set names =
    (text : List ℕ) → IsNameBytes text
    → contains bytes_eq set text ≡ ignores names (module_name text)

-- a set that had the texts of some names has that of this one too
abbrev pub AddsName : {S : Type 0} → HashSet (List ℕ) S → HashSet (List ℕ) S → List ℕ → Type 0
AddsName old new name =
    (names : List ModuleName) → ListsNames old names
    → ListsNames new (names ++ module_name name ∷ [])

-- the answer tells whether this name is among those of a set
abbrev pub TellsListed : {S : Type 0} → HashSet (List ℕ) S → List ℕ → Bool → Type 0
TellsListed listed name answer =
    (names : List ModuleName) → ListsNames listed names → answer ≡ ignores names (module_name name)

-- whether each of the first names is among the others
abbrev pub are_all_listed : List (List ℕ) → List (List ℕ) → Bool
are_all_listed names others = all_ignored (map module_name names) (map module_name others)
