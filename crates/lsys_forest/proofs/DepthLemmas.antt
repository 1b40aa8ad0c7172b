-- A node has as many ancestors as it is steps below the root, so it is no deeper than there are nodes.
use Rattle.std.proofs.Common.{◌≡◌, ◌≢◌, ◌+◌, ◌≤◌, ℕ, zero, suc, List, [], ◌∷◌, length, Option, Some, None, refl, sym, ap, ◌∙◌, arith, inl, inr, subst}
use Rattle.std.specs.Prelude.{IsSome}
use Rattle.std.proofs.lemmas.List.Sums.{sum_by-cons}
use Rattle.std.proofs.lemmas.Option.{same_Some}
use Rattle.lsys_spec.specs.Rows.{In, AreApart}
use Rattle.lsys_forest.specs.declared.node.Stored.{Stored}
use Rattle.lsys_forest.specs.Slots.{slot_at, live_slots}
use Rattle.lsys_forest.specs.Nodes.{Node, Nodes}
use Rattle.lsys_forest.specs.Changes.{Change}
use Rattle.lsys_forest.specs.Groves.{IsRooted}

module _ {A : Type 0} where
  abbrev cleared : List (Option (Stored A)) → ℕ → List (Option (Stored A))
  cleared [] k = []
  cleared (s ∷ slots) zero = None ∷ slots
  cleared (s ∷ slots) (suc k) = s ∷ cleared slots k

  some_more : (n : Stored A) (slots : List (Option (Stored A))) → live_slots (Some n ∷ slots) ≡ 1 + live_slots slots
  some_more n slots = sum_by-cons _ (Some n) slots

  none_more : (slots : List (Option (Stored A))) → live_slots (None ∷ slots) ≡ 0 + live_slots slots
  none_more slots = sum_by-cons _ None slots

  one_less : (slots : List (Option (Stored A))) (k : ℕ) → IsSome (slot_at slots k) → live_slots (cleared slots k) + 1 ≡ live_slots slots
  one_less [] k live = absurd (grind (arith, live))
  one_less (Some n ∷ slots) zero live = omega (arith, some_more n slots, none_more slots)
  one_less (None ∷ slots) zero live = absurd (grind (arith, live))
  one_less (Some n ∷ slots) (suc k) live = omega (arith, some_more n slots, some_more n (cleared slots k), one_less slots k live)
  one_less (None ∷ slots) (suc k) live = omega (arith, none_more slots, none_more (cleared slots k), one_less slots k live)

  still : (slots : List (Option (Stored A))) (k j : ℕ) → j ≢ k → slot_at (cleared slots k) j ≡ slot_at slots j
  still [] k j ne = refl
  still (s ∷ slots) zero zero ne = absurd (ne refl)
  still (s ∷ slots) zero (suc j) ne = refl
  still (s ∷ slots) (suc k) zero ne = refl
  still (s ∷ slots) (suc k) (suc j) ne = still slots k j (λ e. ne (ap suc e))

  -- nodes that live, none twice, are no more than all that live
  pub fits : (xs : List ℕ) (slots : List (Option (Stored A))) → AreApart xs → ((k : ℕ) → In k xs → IsSome (slot_at slots k)) → length xs ≤ live_slots slots
  fits [] slots apart live = omega arith
  fits (x ∷ xs) slots apart live =
      let rest = fits xs (cleared slots x) apart.1 (λ k h. subst IsSome (sym (still slots x k (λ e. apart.0 (subst (λ j. In j xs) e h)))) (live k (inr h))) in
      let less = one_less slots x (live x (inl refl)) in
      omega (arith, rest, less)

  -- a node and its ancestors, each less deep than the one before
  record Line (m : Nodes A) (d : ℕ) : Type 0 where
    pub line : List ℕ
    pub long : length line ≡ d + 1
    pub apart : AreApart line
    pub live : (k : ℕ) → In k line → (n : Node A) × (m k ≡ Some n) × (n.depth ≤ d)

  line_of : (root : ℕ) (changes : List (Change A)) (m : Nodes A) → IsRooted root changes m → (d x : ℕ) (n : Node A) → m x ≡ Some n → n.depth ≡ d → Line m d
  line_of root changes m sound zero x n is depth = record {
    line = x ∷ [];
    long = refl;
    apart = (λ h. h, tt);
    live = λ k h. elim h [ inl e ↦ (n, ap m e ∙ is, omega (arith, depth)) | inr none ↦ absurd none ];
  }
  line_of root changes m sound (suc d) x n is depth =
      let other : x ≢ root = λ e. (let same = same_Some sound.root_lives.0 n (sym sound.root_lives.1 ∙ sym (ap m e) ∙ is) in let f = ap (λ (o : Node A). o.depth) same in omega (arith, f, depth, sound.root_lives.2)) in
      let h = sound.held x n is other in
      let above = line_of root changes m sound d n.parent h.parent h.is (omega (arith, depth, h.depth)) in
      record {
        line = x ∷ above.line;
        long = omega (arith, above.long);
        apart = (
          λ within. (
              let a = above.live x within in
              let f = ap (λ (o : Node A). o.depth) (same_Some a.0 n (sym a.1 ∙ is)) in
              omega (arith, f, depth, a.2)
              ),
          above.apart,
        );
        live = λ k within. elim within [
          | inl e ↦ (n, ap m e ∙ is, omega (arith, depth))
          | inr later ↦ let a = above.live k later in (a.0, a.1, omega (arith, a.2))
        ];
      }

  pub depth_fits : (root : ℕ) (changes : List (Change A)) (m : Nodes A) (slots : List (Option (Stored A))) → IsRooted root changes m → ((k : ℕ) (n : Node A) → m k ≡ Some n → IsSome (slot_at slots k)) → (x : ℕ) (n : Node A) → m x ≡ Some n → n.depth + 1 ≤ live_slots slots
  depth_fits root changes m slots sound shown x n is =
      let line = line_of root changes m sound n.depth x n is refl in
      let most = fits line.line slots line.apart (λ k h. let l = line.live k h in shown k l.0 l.1) in
      omega (arith, most, line.long)
