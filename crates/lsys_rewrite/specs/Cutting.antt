-- Cuts of strings whose symbols have no lineages.
use Rattle.std.specs.Prelude.{◌≡◌, ℕ, zero, suc, ℤ, Bool, true, false, Option, Some, None, List, [], ◌∷◌, map, not, length, ◌<◌, slice_index_or}
use Rattle.lsys_spec.specs.Morphisms.{raw_plain}
use Rattle.lsys_syntax.specs.Strings as S
use Rattle.lsys_spec.specs.Levels.{plain}
use Rattle.lsys_spec.specs.Cuts.{Raw, Cut, cut, is_cut_off}
use Rattle.lsys_module.specs.declared.symbol.Symbol.{Symbol}
use Rattle.lsys_module.specs.Views.{string_of}

-- symbols with lineages are these symbols
abbrev pub AreOf : List Raw → List Symbol → Type 0
AreOf x symbols = map raw_plain x ≡ string_of symbols

-- the items whose places are marked, in order
abbrev pub marked : {A : Type 0} → List Bool → List A → List A
marked (true ∷ bs) (x ∷ xs) = x ∷ marked bs xs
marked (false ∷ bs) (x ∷ xs) = marked bs xs
marked [] xs = []
marked (b ∷ bs) [] = []

-- Symbol by symbol: where a branch is being cut off, the number of branches that are open in what is cut off.

-- whether the next symbol stays
abbrev pub symbol_stays : Option ℕ → S.Symbol ℤ → Bool
symbol_stays None S.Cut = false
symbol_stays None s = true
symbol_stays (Some zero) S.Pop = true
symbol_stays (Some n) s = false

-- after it
abbrev pub next_cutting : Option ℕ → S.Symbol ℤ → Option ℕ
next_cutting None S.Cut = Some 0
next_cutting None s = None
next_cutting (Some n) S.Push = Some (suc n)
next_cutting (Some zero) S.Pop = None
next_cutting (Some (suc n)) S.Pop = Some n
next_cutting (Some n) s = Some n

-- the marks of the symbols that stay
abbrev pub marks_from : Option ℕ → List (S.Symbol ℤ) → List Bool
marks_from cutting [] = []
marks_from cutting (s ∷ xs) = symbol_stays cutting s ∷ marks_from (next_cutting cutting s) xs

-- whatever lineages the symbols have: those are marked that aren't cut off
abbrev pub MarksKept : List Symbol → List Bool → Type 0
MarksKept symbols kept =
    (x : List Raw) → AreOf x symbols
    → (p : ℕ) → p < length symbols
    → slice_index_or kept p false ≡ not (is_cut_off x p)

-- what cuts leave of symbols
abbrev pub IsCutOf : List Symbol → List Symbol → Type 0
IsCutOf symbols left = (x : List Raw) → AreOf x symbols → map plain (cut x) ≡ string_of left
