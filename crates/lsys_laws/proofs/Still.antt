-- Who isn't looked at stands still.
use Rattle.std.proofs.Common.{◌≡◌, ◌⊎◌, inl, inr, ℕ, ◌+◌, List, Some, ap, sym, ◌∙◌, subst}
use Rattle.std.specs.Prelude.{slice_get}
use Rattle.lsys_spec.specs.Rows.{flat, In, AreApart}
use Rattle.lsys_laws.specs.Seams.{right_of, left_of, node_before, AreTouched, AreTurned, IsRightSeam, IsLeftSeam}
use Rattle.lsys_laws.specs.Seats.{Seating, StandsStill, AreSameSymbols}
use Rattle.lsys_laws.proofs.Joints.{seamed}
use Rattle.lsys_laws.proofs.Mirrors.{seamed_left, right_neighbour, left_neighbour}
use Rattle.lsys_laws.proofs.Placed.{place_in}

pub still : (old new : Seating) (T R S : List ℕ) (f g : ℕ → List ℕ) (xs ys : List ℕ) → AreTouched T f g xs ys → AreTurned right_of R xs ys → AreTurned left_of S xs ys
    → old.nodes ≡ flat f xs → new.nodes ≡ flat g ys → (k : ℕ) → In k old.nodes → In k new.nodes → AreSameSymbols old new k → new.mate k ≡ old.mate k
    → StandsStill old new k ⊎ (IsRightSeam T R g ys k ⊎ IsLeftSeam T S g ys k)
still old new T R S f g xs ys a r l was are k i j s m =
    by (seamed T R f g xs ys a r k (subst (In k) are j)) (seamed_left T S f g xs ys a l k (subst (In k) are j))
  where
    p : (p : ℕ) × (slice_get old.nodes p ≡ Some k)
    p = place_in k old.nodes i

    q : (q : ℕ) × (slice_get new.nodes q ≡ Some k)
    q = place_in k new.nodes j

    apart : AreApart old.nodes
    apart = subst AreApart (sym was) a.old_kids

    apart' : AreApart new.nodes
    apart' = subst AreApart (sym are) a.new_kids

    right_there : right_of k new.nodes ≡ slice_get new.nodes (q.0 + 1)
    right_there = right_neighbour new.nodes q.0 k apart' q.1

    left_there : left_of k new.nodes ≡ node_before new.nodes q.0
    left_there = left_neighbour new.nodes q.0 k apart' q.1

    stands : right_of k (flat f xs) ≡ right_of k (flat g ys) → left_of k (flat f xs) ≡ left_of k (flat g ys) → StandsStill old new k
    stands u v =
        let right : slice_get new.nodes (q.0 + 1) ≡ slice_get old.nodes (p.0 + 1) =
        sym right_there ∙ ap (right_of k) are ∙ sym u ∙ ap (right_of k) (sym was) ∙ right_neighbour old.nodes p.0 k apart p.1 in
        let left : node_before new.nodes q.0 ≡ node_before old.nodes p.0 =
        sym left_there ∙ ap (left_of k) are ∙ sym v ∙ ap (left_of k) (sym was) ∙ left_neighbour old.nodes p.0 k apart p.1 in
        record {
          old_place = p.0;
          new_place = q.0;
          was_there = p.1;
          is_there = q.1;
          same = record {
            symbol = s.own;
            left = left;
            left_symbol = λ n e. s.left n (left_there ∙ left ∙ e);
            right = right;
            right_symbol = λ n e. s.right n (right_there ∙ right ∙ e);
            mate = m;
          };
        }

    by : IsRightSeam T R g ys k ⊎ (right_of k (flat f xs) ≡ right_of k (flat g ys)) → IsLeftSeam T S g ys k ⊎ (left_of k (flat f xs) ≡ left_of k (flat g ys))
        → StandsStill old new k ⊎ (IsRightSeam T R g ys k ⊎ IsLeftSeam T S g ys k)
    by (inl u) v = inr (inl u)
    by (inr u) (inl v) = inr (inr v)
    by (inr u) (inr v) = inl (stands u v)
