-- The numbers of the symbols of an axiom, or of a symbol's children: by their places, or by their names.
use Rattle.std.specs.Prelude.{ℕ, List, [], ◌∷◌, ◌+◌, ◌*◌, ◌==◌, count_by}
use Rattle.lsys_syntax.specs.Strings.{Symbol, Module, Push, Pop, Cut}
use Rattle.lsys_syntax.specs.Commands.{Numbering, by_place, by_name}
use Rattle.lsys_spec.specs.Systems.{module_name_text}
use Rattle.lsys_spec.specs.Draws.{number_base}

-- the number whose bytes, the least first, these are
abbrev pub number_of_bytes : List ℕ → ℕ
number_of_bytes [] = 0
number_of_bytes (b ∷ bytes) = b + 256 * number_of_bytes bytes

-- of a module that of its name, of a bracket or a cut its byte
abbrev pub code_of : {P : Type 0} → Symbol P → ℕ
code_of (Module n ps) = number_of_bytes (module_name_text n)
code_of Push = 91
code_of Pop = 93
code_of Cut = 37

-- of a symbol with this code, after n symbols with these codes: how many, or its code and how many have it, too
abbrev pub number_at : Numbering → ℕ → List ℕ → ℕ → ℕ
number_at by_place n before code = n
number_at by_name n before code = number_base * code + count_by (λ c. c == code) before

abbrev pub numbers_from : {P : Type 0} → Numbering → ℕ → List ℕ → List (Symbol P) → List ℕ
numbers_from g n before [] = []
numbers_from g n before (x ∷ xs) = number_at g n before (code_of x) ∷ numbers_from g (n + 1) (code_of x ∷ before) xs

abbrev pub numbers : {P : Type 0} → Numbering → List (Symbol P) → List ℕ
numbers g xs = numbers_from g 0 [] xs
