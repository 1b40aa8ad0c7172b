-- Where a table's own list stands among others.
use Rattle.std.specs.Prelude.{ℕ, suc, List, [], ◌∷◌, if◌then◌else◌}
use Rattle.lsys_spec.specs.Systems.{Own, comes_before}

-- after those of earlier words
abbrev pub place_in : List Own → List ℕ → ℕ
place_in [] t = 0
place_in (o ∷ os) t = if comes_before o.table t then suc (place_in os t) else 0
