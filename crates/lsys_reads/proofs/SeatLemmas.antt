-- What seats tell.
use Rattle.std.proofs.Common.{◌≡◌, ◌≢◌, ℕ, Some, None, sym, ap, ◌∙◌, arith, inl, inr}
use Rattle.std.proofs.lemmas.Bool.{cases_eq}
use Rattle.std.proofs.lemmas.Grind.{common_steps}
use Rattle.lsys_reads.specs.declared.seat.Seat.{Seat}
use Rattle.lsys_reads.specs.Seats.{neighbour_told, seat_told}

pub told_own : (k : ℕ) → neighbour_told k k ≡ None
told_own k = grind (arith, common_steps)

pub told_other : (k x : ℕ) → x ≢ k → neighbour_told k x ≡ Some x
told_other k x ne = grind (arith, common_steps, ne)

pub told_back : (k x y : ℕ) → neighbour_told k x ≡ neighbour_told k y → x ≡ y
told_back k x y e = elim (cases_eq x k) [
  | inl a ↦ elim (cases_eq y k) [
    | inl b ↦ a ∙ sym b
    | inr b ↦ absurd (let f : None ≡ Some y = sym (told_own k) ∙ ap (neighbour_told k) (sym a) ∙ e ∙ told_other k y b in cc)
  ]
  | inr a ↦ elim (cases_eq y k) [
    | inl b ↦ absurd (let f : Some x ≡ None = sym (told_other k x a) ∙ e ∙ ap (neighbour_told k) b ∙ told_own k in cc)
    | inr b ↦ (let f : Some x ≡ Some y = sym (told_other k x a) ∙ e ∙ told_other k y b in let g : x ≡ y = cc in g)
  ]
]

-- seats of one node tell the same exactly where their numbers are the same
pub told_same : (k : ℕ) (one two : Seat) → (one.left ≡ two.left) × (one.right ≡ two.right) × (one.mate ≡ two.mate) → seat_told k (Some two) ≡ seat_told k (Some one)
told_same k one two e =
    let l = ap (neighbour_told k) (sym e.0) in
    let r = ap (neighbour_told k) (sym e.1) in
    let m = ap (neighbour_told k) (sym e.2) in
    λ i. record { left = l i; right = r i; mate = m i }

pub same_told : (k : ℕ) (one two : Seat) → seat_told k (Some two) ≡ seat_told k (Some one) → (one.left ≡ two.left) × (one.right ≡ two.right) × (one.mate ≡ two.mate)
same_told k one two e = (
  told_back k one.left two.left (sym (ap (λ n. n.left) e)),
  told_back k one.right two.right (sym (ap (λ n. n.right) e)),
  told_back k one.mate two.mate (sym (ap (λ n. n.mate) e)),
)
