-- Where a turtle is inside a string: after some symbols of it, with a stand for each branch that is open there.
use Rattle.std.specs.Prelude.{◌≡◌, ℕ, zero, suc, ◌-◌, ℤ, true, List, [], ◌∷◌, ◌++◌, length, take, nat_lt, if◌then◌else◌}
use Rattle.lsys_syntax.specs.Strings as S
use Rattle.lsys_spec.specs.Lattices.{Lattice}
use Rattle.lsys_lattice.specs.Effects.{Stand, Walker, walked, first_walker, stand_from, walker_from, effect}

-- the way from the start over the first n symbols
abbrev pub course : Lattice → ℕ → List (S.Symbol ℤ) → Walker
course l n xs = walked l (take n xs) (first_walker l)

-- a way that goes on after a string
abbrev pub onward : Lattice → List (S.Symbol ℤ) → Walker → Walker
onward l xs w = walker_from l (effect l xs) [] w

-- a way in a branch that opens at the start: after its `]` the turtle is at the start again
abbrev pub inward : Lattice → Walker → Walker
inward l w = record w { saved = w.saved ++ (first_walker l).here ∷ [] }

-- 1. parts side by side

abbrev pub strung : List (List (S.Symbol ℤ)) → List (S.Symbol ℤ)
strung [] = []
strung (xs ∷ parts) = xs ++ strung parts

abbrev pub AreAllBalanced : List (List (S.Symbol ℤ)) → Type 0
AreAllBalanced [] = Unit {0}
AreAllBalanced (xs ∷ parts) = (S.balanced 0 xs ≡ true) × AreAllBalanced parts

-- where the parts lead from a stand: each from where the one before it led
abbrev pub led_through : Lattice → Stand → List (List (S.Symbol ℤ)) → Stand
led_through l from [] = from
led_through l from (xs ∷ parts) = led_through l (stand_from l from (effect l xs)) parts

-- 2. parts of parts

pub data Grouping : Type 0 where
  Run : List (S.Symbol ℤ) → Grouping  -- symbols that are walked one by one
  Row : Grouping → Grouping → Grouping  -- one after the other
  Branch : Grouping → Grouping  -- between brackets

abbrev pub nested_string : Grouping → List (S.Symbol ℤ)
nested_string (Run xs) = xs
nested_string (Row a b) = nested_string a ++ nested_string b
nested_string (Branch a) = S.Push ∷ nested_string a ++ S.Pop ∷ []

abbrev pub HasBalancedRuns : Grouping → Type 0
HasBalancedRuns (Run xs) = S.balanced 0 xs ≡ true
HasBalancedRuns (Row a b) = HasBalancedRuns a × HasBalancedRuns b
HasBalancedRuns (Branch a) = HasBalancedRuns a

-- after n symbols: down to the run where these end, by the numbers of symbols of the parts alone
abbrev pub descent : Lattice → ℕ → Grouping → Walker
descent l n (Run xs) = course l n xs
descent l n (Row a b) =
    if nat_lt (length (nested_string a)) n then onward l (nested_string a) (descent l (n - length (nested_string a)) b) else descent l n a
descent l zero (Branch a) = first_walker l
descent l (suc n) (Branch a) = if nat_lt (length (nested_string a)) n then first_walker l else inward l (descent l n a)
