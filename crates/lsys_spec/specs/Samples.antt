-- The sample: a script about a long axis with a branch at each unit, along which a signal runs; then its axiom changes at one unit.
use Rattle.std.specs.Prelude.{ℕ, zero, suc, ◌+◌, ◌%◌, ◌==◌, List, [], ◌∷◌, ◌++◌, codes, decimal, if◌then◌else◌}

-- of a unit: on its left where its number is odd, else on its right
abbrev pub unit_branch : ℕ → List ℕ
unit_branch i = if i % 2 == 1 then codes "[+F_a]" else codes "[-F_a]"

-- the part of the axis in unit i, where the signal begins anew in unit j
abbrev pub unit_axis : ℕ → ℕ → List ℕ
unit_axis j i = if i == j then codes "F_b" else codes "F_a"

-- units 1 to m; no unit has the number 0
abbrev pub units : ℕ → ℕ → List ℕ
units j zero = []
units j (suc m) = units j m ++ (unit_branch (suc m) ++ unit_axis j (suc m))

abbrev pub sample_units : ℕ → ℕ
sample_units n = 100 + n % 700

-- the unit that changes
abbrev pub sample_unit : ℕ → ℕ
sample_unit n = 1 + n % sample_units n

abbrev pub sample_axiom : ℕ → ℕ → List ℕ
sample_axiom j m = codes "axiom F_b" ++ (units j m ++ 10 ∷ [])

abbrev pub signal_line : List ℕ
signal_line = codes "production s: F_b < F_a => F_b\n"

abbrev pub sample : ℕ → List ℕ
sample n =
    sample_axiom 0 (sample_units n) ++ (codes "ignore +-\n" ++ (signal_line ++ (codes "depth 20\n"
    ++ (sample_axiom (sample_unit n) (sample_units n) ++ (signal_line ++ (codes "seed " ++ (decimal n ++ codes "\nquit\n")))))))
