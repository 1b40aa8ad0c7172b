-- Costs of lines, one after the other.
use Rattle.std.proofs.Common.{◌≡◌, ℕ, ◌+◌, ◌*◌, Bool, true, false, List, ◌∷◌, ap, sym, ◌∙◌, arith}
use Rattle.lsys_spec.specs.Systems.{System}
use Rattle.lsys_spec.specs.Meaning.{most_entries}
use Rattle.lsys_spec.specs.Refusals.{Reply}
use Rattle.lsys_spec.specs.Output.{reply_or_memory}
use Rattle.lsys_spec.specs.Costs.{Cost, no_cost, ◌and◌, cost_or_memory, costs_from, Within}

pub and_assoc : (a b c : Cost) → (a and b) and c ≡ a and (b and c)
and_assoc a b c =
    let p : a.need + b.need + c.need ≡ a.need + (b.need + c.need) = omega arith in
    let q : a.least + b.least + c.least ≡ a.least + (b.least + c.least) = omega arith in
    let r : a.most + b.most + c.most ≡ a.most + (b.most + c.most) = omega arith in
    let s : a.refusals + b.refusals + c.refusals ≡ a.refusals + (b.refusals + c.refusals) = omega arith in
    λ i. record { need = p i; least = q i; most = r i; refusals = s i }

and_none : (a : Cost) → a and no_cost ≡ a
and_none a =
    let p : a.need + 0 ≡ a.need = omega arith in
    let q : a.least + 0 ≡ a.least = omega arith in
    let r : a.most + 0 ≡ a.most = omega arith in
    let s : a.refusals + 0 ≡ a.refusals = omega arith in
    λ i. record { need = p i; least = q i; most = r i; refusals = s i }

pub one_line : (answer : System → List ℕ → Reply) (cost : System → List ℕ → Cost) (M : ℕ → Bool) (n : ℕ) (s : System) (line : List ℕ) (lines : List (List ℕ)) (sofar : Cost)
    → (reply_or_memory answer (M n) s line).ends ≡ false
    → sofar and costs_from answer cost M n s (line ∷ lines)
    ≡ (sofar and cost_or_memory cost (M n) s line) and costs_from answer cost M (n + 1) (reply_or_memory answer (M n) s line).next lines
one_line answer cost M n s line lines sofar e =
    let rest : Cost = costs_from answer cost M (n + 1) (reply_or_memory answer (M n) s line).next lines in
    let here : Cost = cost_or_memory cost (M n) s line in
    ap (λ b. sofar and (here and elim b [ true ↦ no_cost | false ↦ rest ])) e ∙ sym (and_assoc sofar here rest)

pub last_line : (answer : System → List ℕ → Reply) (cost : System → List ℕ → Cost) (M : ℕ → Bool) (n : ℕ) (s : System) (line : List ℕ) (lines : List (List ℕ))
    → (reply_or_memory answer (M n) s line).ends ≡ true → costs_from answer cost M n s (line ∷ lines) ≡ cost_or_memory cost (M n) s line
last_line answer cost M n s line lines e =
    let rest : Cost = costs_from answer cost M (n + 1) (reply_or_memory answer (M n) s line).next lines in
    ap (λ b. cost_or_memory cost (M n) s line and elim b [ true ↦ no_cost | false ↦ rest ]) e ∙ and_none (cost_or_memory cost (M n) s line)

spread : (m a b : ℕ) → m * (a + b) ≡ m * a + m * b
spread m a b = grind arith

pub both_within : (limit : ℕ) (a b : Cost) (asked asked' visited visited' : ℕ) → Within limit a asked visited → Within limit b asked' visited' → Within limit (a and b) (asked + asked') (visited + visited')
both_within limit a b asked asked' visited visited' h k =
    let p : limit * (a.refusals + b.refusals) ≡ limit * a.refusals + limit * b.refusals = spread limit a.refusals b.refusals in
    let q : (most_entries + 1) * limit * (a.refusals + b.refusals) ≡ (most_entries + 1) * limit * a.refusals + (most_entries + 1) * limit * b.refusals = spread ((most_entries + 1) * limit) a.refusals b.refusals in
    record {
      asked_least = omega (arith, h.asked_least, k.asked_least);
      asked_most = omega (arith, h.asked_most, k.asked_most, p);
      visited_least = omega (arith, h.visited_least, k.visited_least);
      visited_most = omega (arith, h.visited_most, k.visited_most, q);
    }
