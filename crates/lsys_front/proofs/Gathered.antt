-- Nodes whose children may be others, each once.
use Rattle.std.proofs.Common.{◌≡◌, ◌↔◌, ℕ, false, List, [], sym, subst, inl, inr}
use Rattle.lsys_spec.specs.Rows.{In}
use Rattle.lsys_reads.specs.declared.seat.Seat.{Seat}
use Rattle.lsys_reads.specs.Seats.{is_marked}
use Rattle.lsys_front.specs.Finds.{Gathers, AllMarked}
use Rattle.lsys_front.proofs.Gathering.{gathers_kind, gathers_next, still_marked}
use Rattle.lsys_front.proofs.Marking.{found_kind, kind_found}
use Rattle.lsys_front.specs.Fronts.{Differences, MayHaveOthers}

module _ (d : Differences) (renewed : List ℕ) where
  pub with_renewed : (a b : List Seat) (xs ys : List ℕ) → Gathers (λ k. In k renewed) a b xs ys → Gathers (MayHaveOthers d renewed) a b xs ys
  with_renewed a b xs ys g = gathers_kind (λ k. In k renewed) (MayHaveOthers d renewed) a b xs ys (λ k i. inl i) g

  module _ (a b c : List Seat) (xs ys zs these : List ℕ) (g : Gathers (MayHaveOthers d renewed) a b xs ys) (h : Gathers (λ k. In k these) b c ys zs) where
    pub with_came : these ≡ d.changes.came → Gathers (MayHaveOthers d renewed) a c xs zs
    with_came is = gathers_next (MayHaveOthers d renewed) (λ k. In k these) a b c xs ys zs (λ k i. inr (inl (subst (In k) is i))) g h

    pub with_changed : these ≡ d.changes.changed → Gathers (MayHaveOthers d renewed) a c xs zs
    with_changed is = gathers_next (MayHaveOthers d renewed) (λ k. In k these) a b c xs ys zs (λ k i. inr (inr (inl (subst (In k) is i)))) g h

    pub with_bare : these ≡ d.bare → Gathers (MayHaveOthers d renewed) a c xs zs
    with_bare is = gathers_next (MayHaveOthers d renewed) (λ k. In k these) a b c xs ys zs (λ k i. inr (inr (inr (subst (In k) is i)))) g h

  -- one list after the other
  pub all_marked : (a b c e : List Seat) (ws xs ys zs came changed bare : List ℕ) → came ≡ d.changes.came → changed ≡ d.changes.changed → bare ≡ d.bare
      → Gathers (λ k. In k came) a b ws xs → Gathers (λ k. In k changed) b c xs ys → Gathers (λ k. In k bare) c e ys zs
      → AllMarked (λ k. In k renewed) a → AllMarked (λ k. In k came) b → AllMarked (λ k. In k changed) c → AllMarked (λ k. In k bare) e
      → AllMarked (MayHaveOthers d renewed) e
  all_marked a b c e ws xs ys zs came changed bare is is' is'' f g h m n o p k i =
      let second = still_marked (λ k. In k changed) b c xs ys g k in
      let third = still_marked (λ k. In k bare) c e ys zs h k in
      elim i [
        | inl j ↦ third (second (still_marked (λ k. In k came) a b ws xs f k (m k j)))
        | inr (inl j) ↦ third (second (n k (subst (In k) (sym is) j)))
        | inr (inr (inl j)) ↦ third (o k (subst (In k) (sym is') j))
        | inr (inr (inr j)) ↦ p k (subst (In k) (sym is'') j)
      ]

  -- where none was marked, these are all
  pub gathered_all : (a b : List Seat) (xs ys : List ℕ) → xs ≡ [] → ((k : ℕ) → is_marked a k ≡ false) → Gathers (MayHaveOthers d renewed) a b xs ys → AllMarked (MayHaveOthers d renewed) b
      → (k : ℕ) → In k ys ↔ MayHaveOthers d renewed k
  gathered_all a b xs ys none clear g all k = (
    λ i. (found_kind (MayHaveOthers d renewed) a b ys whole k i).0,
    λ h. kind_found (MayHaveOthers d renewed) a b ys whole all k h (clear k),
  )
    where
      whole : Gathers (MayHaveOthers d renewed) a b [] ys
      whole = subst (λ (l : List ℕ). Gathers (MayHaveOthers d renewed) a b l ys) none g
