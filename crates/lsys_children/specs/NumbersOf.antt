-- The symbols of a successor, one after the other: their numbers, and the children that they are.
use Rattle.std.specs.Prelude.{◌≡◌, ◌+◌, ◌*◌, ◌<◌, ◌==◌, ℕ, Bool, List, [], ◌∷◌, ◌++◌, Option, None, Vec, length, count_by, nat_eq, cond}
use Rattle.std.specs.declared.alloc.Global.{Global}
use Rattle.std.specs.HashMap.{get}
use Rattle.std.specs.Map.{count_at}
use Rattle.lsys_syntax.specs.Commands.{Numbering, by_place, by_name}
use Rattle.lsys_spec.specs.Draws.{number_base, child_key_of}
use Rattle.lsys_spec.specs.Numbers.{code_of}
use Rattle.lsys_reading.specs.declared.parts.Lineage.TheVariants as code
use Rattle.lsys_reading.specs.Commands.{numbering_of}
use Rattle.lsys_rewrite.specs.Cutting.{symbol_stays, next_cutting}
use Rattle.lsys_module.specs.Views.{symbol_of}
use Rattle.lsys_module.specs.declared.symbol.Symbol.{Symbol}
use Rattle.lsys_children.specs.declared.number.Number.{Number}
use Rattle.lsys_children.specs.declared.child.Child.{Child}
use Rattle.lsys_children.specs.declared.numbers.SuccessorNumbers.{SuccessorNumbers}

-- the number of a symbol with this code, after n symbols with these codes
abbrev pub numbered_at : Numbering → ℕ → List ℕ → ℕ → Number
numbered_at by_place n before c = record { code = 0; count = n }
numbered_at by_name n before c = record { code = c; count = count_by (λ d. d == c) before }

-- a symbol as the child of a parent with this key
abbrev pub child_of : ℕ → Number → Symbol → Child
child_of key number s = record {
  number = number;
  symbol = s;
  key = child_key_of key (number_base * number.code + number.count);
}

-- it is there if it stays
abbrev pub child_if : Bool → Child → List Child
child_if b w = cond b (w ∷ []) []

-- a symbol's child is put after the others, if it stays where so much is being cut off
abbrev pub PutsChildIfLeft : Vec Child Global → Vec Child Global → Option ℕ → ℕ → Number → Symbol
    → Type 0
PutsChildIfLeft old new cutting key number s =
    new.items ≡ old.items ++ child_if (symbol_stays cutting (symbol_of s)) (child_of key number s)

-- one of those after n symbols with these codes
abbrev pub child_at : Numbering → ℕ → ℕ → List ℕ → Symbol → Child
child_at g key n before s = child_of key (numbered_at g n before (code_of (symbol_of s))) s

-- the children among these symbols, after n symbols with these codes, where so much is being cut off
abbrev pub wanted_from : Numbering → ℕ → ℕ → List ℕ → Option ℕ → List Symbol → List Child
wanted_from g key n before o [] = []
wanted_from g key n before o (s ∷ ss) =
    child_if (symbol_stays o (symbol_of s)) (child_at g key n before s) ++ wanted_from g key (n + 1) (code_of (symbol_of s) ∷ before) (next_cutting o (symbol_of s)) ss

-- the children among all symbols of a successor, numbered by their places
abbrev pub staying : ℕ → List Symbol → List Child
staying key ss = wanted_from by_place key 0 [] None ss

-- n symbols were numbered, with these codes
pub record IsAfter (n : ℕ) (before : List ℕ) (a : SuccessorNumbers) : Type 0 where
  pub symbols : a.symbols ≡ n
  pub length : length before ≡ n
  pub counts : a.numbering ≡ code.Names
      → (c : ℕ) → count_at (get nat_eq a.counts) c ≡ count_by (λ d. d == c) before

-- this is the number of the next symbol, which has this code
abbrev pub IsNumberOf : SuccessorNumbers → ℕ → Number → Type 0
IsNumberOf a c number =
    (n : ℕ) (before : List ℕ) → IsAfter n before a
    → number ≡ numbered_at (numbering_of a.numbering) n before c

-- one symbol more was numbered, with this code
abbrev pub GoesAfter : SuccessorNumbers → SuccessorNumbers → ℕ → Type 0
GoesAfter old new c =
    (n : ℕ) (before : List ℕ) → IsAfter n before old → IsAfter (n + 1) (c ∷ before) new

-- fewer were numbered than there are numbers for a code
abbrev pub AreFew : SuccessorNumbers → Type 0
AreFew a = (n : ℕ) × (before : List ℕ) × IsAfter n before a × (n < number_base)
