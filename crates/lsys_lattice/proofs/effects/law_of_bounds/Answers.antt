use Rattle.std.proofs.Common.{◌≡◌, ℕ, ◌≤◌, ◌<◌, Bool, true, false, cond, nat_lt, length, take, Option, Some, None, refl, ap, ◌∙◌, arith}
use Rattle.std.proofs.lemmas.Bool.Decides.{nat_tests}
use Rattle.lsys_spec.specs.Lattices.{Vector}
use Rattle.lsys_spec.specs.Pictures.{Turtle, origin}
use Rattle.lsys_lattice.specs.Effects.{first_walker}
use Rattle.lsys_lattice.specs.Extents.{extents}
use Rattle.lsys_lattice.proofs.Freely.{drawn_freely, turtle_there, none_too_far}
use Rattle.lsys_lattice.proofs.effects.law_of_bounds.Goals as goal

pub returns-clause-bounds : goal.returns-clause-bounds
returns-clause-bounds c l ys gs h = ap (extents l origin) (drawn_freely l 0 (first_walker l) ys gs h)

within : (b : Bool) (o : Option Turtle) → b ≡ false → cond b None o ≡ o
within true o e = cc
within false o e = refl

pub returns-clause-turtles : goal.returns-clause-turtles
returns-clause-turtles c l n ys gs h few =
    let there : nat_lt (length ys) n ≡ false = grind (arith, nat_tests) in
    within (nat_lt (length ys) n) _ there ∙ turtle_there l 0 (first_walker l) ys (none_too_far l 0 (first_walker l) ys gs h) n
