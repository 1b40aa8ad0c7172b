-- How what a session may ask and read adds up line by line.
use Rattle.std.specs.Prelude.{◌≡◌, ℕ, Bool, false, List, ◌∷◌, ◌+◌, true}
use Rattle.lsys_spec.specs.Systems.{System}
use Rattle.lsys_spec.specs.Refusals.{Reply}
use Rattle.lsys_spec.specs.Output.{reply_or_memory}
use Rattle.lsys_spec.specs.Costs.{Cost, ◌and◌, cost_or_memory, costs_from, Within}

-- where a line doesn't end the session, its cost comes to those before it, and then those of the
-- lines after it, from the system that it leaves
abbrev pub CostsAddUpLineByLine : Type 0
CostsAddUpLineByLine =
    (answer : System → List ℕ → Reply) (cost : System → List ℕ → Cost) (M : ℕ → Bool)
    (n : ℕ) (s : System) (line : List ℕ) (lines : List (List ℕ)) (sofar : Cost)
    → let r = reply_or_memory answer (M n) s line in r.ends ≡ false
    → sofar and costs_from answer cost M n s (line ∷ lines)
    ≡ (sofar and cost_or_memory cost (M n) s line)
    and costs_from answer cost M (n + 1) r.next lines

-- after a line that ends the session nothing is added
abbrev pub NothingIsAddedAfterTheEnd : Type 0
NothingIsAddedAfterTheEnd =
    (answer : System → List ℕ → Reply) (cost : System → List ℕ → Cost) (M : ℕ → Bool)
    (n : ℕ) (s : System) (line : List ℕ) (lines : List (List ℕ))
    → (reply_or_memory answer (M n) s line).ends ≡ true
    → costs_from answer cost M n s (line ∷ lines) ≡ cost_or_memory cost (M n) s line

-- counters that keep within one cost and then within another rise in all by what keeps within both
abbrev pub CountersKeepWithinAddedCosts : Type 0
CountersKeepWithinAddedCosts =
    (limit : ℕ) (a b : Cost) (asked asked' visited visited' : ℕ)
    → Within limit a asked visited → Within limit b asked' visited'
    → Within limit (a and b) (asked + asked') (visited + visited')
