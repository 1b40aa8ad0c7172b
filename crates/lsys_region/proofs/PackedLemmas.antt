-- What the bits of links and of states are read as.
use Rattle.std.proofs.Common.{◌≡◌, ℕ, ◌+◌, ◌-◌, ◌<◌, ◌≤◌, Some, None, ap, ◌∙◌, arith}
use Rattle.std.proofs.lemmas.Bool.{cond-true, cond-false, lt-ltb, le-ltb}
use Rattle.lsys_region.specs.declared.packed.State.TheVariants.{Taken, Free}
use Rattle.lsys_region.specs.Layout.{small_places}
use Rattle.lsys_region.specs.Links.{number_by_bits}
use Rattle.lsys_region.specs.PackedStates.{free_from, state_of}

pub number_of-below : (none bits : ℕ) → bits < none → number_by_bits none bits ≡ Some bits
number_of-below none bits below = cond-true _ (Some bits) None (lt-ltb bits none below)

pub number_of-none : (none : ℕ) → number_by_bits none none ≡ None
number_of-none none = cond-false _ (Some none) None (le-ltb none none (omega arith))

pub state_of-taken : (bits : ℕ) → bits < free_from → state_of bits ≡ Taken bits
state_of-taken bits below = cond-true _ (Taken bits) (Free (number_by_bits small_places (bits - free_from))) (lt-ltb bits free_from below)

state_of-free : (bits : ℕ) → free_from ≤ bits → state_of bits ≡ Free (number_by_bits small_places (bits - free_from))
state_of-free bits above = cond-false _ (Taken bits) (Free (number_by_bits small_places (bits - free_from))) (le-ltb bits free_from above)

pub state_of-link : (bits : ℕ) → state_of (free_from + bits) ≡ Free (number_by_bits small_places bits)
state_of-link bits =
    let left : free_from + bits - free_from ≡ bits = omega arith in
    state_of-free (free_from + bits) (omega arith) ∙ ap (λ b. Free (number_by_bits small_places b)) left
