-- The growth of systems: examples that the checker computes.
use Rattle.std.specs.Prelude.{◌≡◌, ℕ, Result, Ok, Err, List, [], ◌∷◌, ◌-◌, ◌^◌, codes, map, refl}
use Rattle.std.specs.Fmt.{digits}
use Rattle.lsys_spec.specs.Replies.{reply}
use Rattle.lsys_spec.specs.Output.{out, none, last_system}
use Rattle.lsys_growth.specs.Growth.{Census, GrowthFault, outside_class, over_letters, over_numbers, census_within, growth_at, growth_text, growth_fault_text}

abbrev told : Result Census GrowthFault → List ℕ
told (Ok c) = growth_text c
told (Err f) = growth_fault_text f

-- the growth of the system after a script
abbrev growth_after : List ℕ → ℕ → List ℕ
growth_after script t = told (growth_at (last_system (out (reply 100000) script none)) t)

pub fibonacci : growth_after (codes "axiom A\nproduction a: A => AB\nproduction b: B => A") 5 ≡ codes "growth 13\nA 8\nB 5\n"
unfolding digits
fibonacci = refl

-- the tables of the schedule in turn
pub two_tables : growth_after (codes "axiom A\nproduction a: A => AA\nproduction winter w: A => A\nschedule main winter") 7 ≡ codes "growth 16\nA 16\n"
unfolding digits
two_tables = refl

-- brackets are counted, a letter that doesn't stand there isn't, and names are in the order of their bytes
pub brackets : growth_after (codes "axiom BA_b\nproduction a: A_b => [A]+\nproduction c: C => C") 1 ≡ codes "growth 5\n+ 1\nA 1\nB 1\n"
unfolding digits
brackets = refl

-- a formal, a weight or a cut
pub outside : growth_after (codes "axiom A%") 0 ≡ codes "growth"
outside = refl

abbrev long : ℕ → Census
long n = record { symbols = n; counts = [] }

-- the greatest length that is told
pub lengths : map census_within (long (2 ^ 128 - 1) ∷ long (2 ^ 128) ∷ []) ≡ Ok (long (2 ^ 128 - 1)) ∷ Err over_numbers ∷ []
lengths = refl

pub fault_texts : map growth_fault_text (outside_class ∷ over_letters ∷ over_numbers ∷ []) ≡ codes "growth" ∷ codes "letters" ∷ codes "overflow" ∷ []
fault_texts = refl
