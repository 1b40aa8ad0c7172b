-- How the parameters of a module are kept.
use Rattle.std.specs.Prelude.{◌≡◌, ℤ, pos, List, ◌++◌, ◌-◌, ◌≤◌, length, take, replicate, refl}
use Rattle.std.proofs.Common.{arith}
use Rattle.std.proofs.lemmas.List.{length-take-le}
use Rattle.lsys_syntax.specs.Strings.{EachOf, IsParam}
use Rattle.lsys_module.specs.declared.params.Params.TheInside.{Inside}

-- at most eight of 64 bits, and the places past them hold 0
pub record IsPadded (p : Inside) : Type 0 where
  pub within : p.len ≤ 8
  pub places : length p.values ≡ 8
  pub small : EachOf IsParam (take p.len p.values)
  pub zeros : take p.len p.values ++ replicate (8 - p.len) (pos 0) ≡ p.values

-- the values in use
abbrev pub kept_values : Inside → List ℤ
kept_values p = take p.len p.values

-- the places that keep these values
abbrev pub padded : List ℤ → Inside
padded xs = record { values = xs ++ replicate (8 - length xs) (pos 0); len = length xs }

-- parameters are those of their values
pub padded_back : (p : Inside) → IsPadded p → padded (kept_values p) ≡ p
padded_back p h =
    let long : length (take p.len p.values) ≡ p.len = length-take-le p.len p.values (grind (arith, h.within, h.places)) in
    rw (long, h.zeros) refl
