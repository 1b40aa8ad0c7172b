-- Where children come from, by their places or by their names.
use Rattle.std.specs.Prelude.{◌≡◌, ◌<◌, ◌+◌, ◌==◌, ℕ, List, ◌∷◌, length, count_by, nat_eq}
use Rattle.std.specs.HashMap.{get}
use Rattle.std.specs.Map.{count_at}
use Rattle.lsys_syntax.specs.Commands.{Numbering, by_place, by_name}
use Rattle.lsys_spec.specs.Draws.{number_base}
use Rattle.lsys_spec.specs.Numbers.{code_of}
use Rattle.lsys_module.specs.Views.{symbol_of}
use Rattle.lsys_module.specs.declared.symbol.Symbol.{Symbol}
use Rattle.lsys_reading.specs.Commands.{numbering_of}
use Rattle.lsys_reading.specs.declared.parts.Lineage.TheVariants as code
use Rattle.lsys_flat.specs.declared.origin.Origin.{Origin}
use Rattle.lsys_flat.specs.declared.numbers.ChildNumbers.{ChildNumbers}

-- the child with this code, after n children with these codes
abbrev pub origin_at : Numbering → ℕ → ℕ → List ℕ → ℕ → Origin
origin_at by_place parent n before code = record { parent = parent; code = 0; count = n }
origin_at by_name parent n before code = record { parent = parent; code = code; count = count_by (λ c. c == code) before }

-- n children were numbered, with these codes
pub record HasNumbered (n : ℕ) (before : List ℕ) (a : ChildNumbers) : Type 0 where
  pub children : a.children ≡ n
  pub length : length before ≡ n
  pub counts : a.numbering ≡ code.Names → (c : ℕ) → count_at (get nat_eq a.counts) c ≡ count_by (λ d. d == c) before

-- fewer were numbered than there are numbers for a code
abbrev pub HasNumbersLeft : ChildNumbers → Type 0
HasNumbersLeft a = (n : ℕ) × (before : List ℕ) × HasNumbered n before a × (n < number_base)

-- the next child comes from there, of the parent at this place
abbrev pub IsNextOrigin : ChildNumbers → ℕ → Symbol → Origin → Type 0
IsNextOrigin a parent child origin =
    (n : ℕ) (before : List ℕ) → HasNumbered n before a → origin ≡ origin_at (numbering_of a.numbering) parent n before (code_of (symbol_of child))

-- it is counted after the others
abbrev pub CountsChild : Symbol → ChildNumbers → ChildNumbers → Type 0
CountsChild child old new = (n : ℕ) (before : List ℕ) → HasNumbered n before old → HasNumbered (n + 1) (code_of (symbol_of child) ∷ before) new
