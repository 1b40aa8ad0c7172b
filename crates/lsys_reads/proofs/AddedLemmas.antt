-- Who is added to those that were looked at: nodes of the level below.
use Rattle.std.proofs.Common.{◌≡◌, ◌+◌, ℕ, suc, List, [], ◌∷◌, ◌++◌, Some, refl, sym, ◌∙◌, arith, inl, inr, subst}
use Rattle.std.proofs.lemmas.Option.{none-some, same_Some}
use Rattle.lsys_spec.specs.Rows.{In, first_in, last_in, flat}
use Rattle.lsys_level.specs.Spots.{spots_at, IsMate}
use Rattle.lsys_forest.specs.Groves.{Grove, now_of}
use Rattle.lsys_forest.specs.Rows.{kids_in, kids_below, level_nodes, level_with, complete_levels, level_of_node, place_of_node, IsAtSpot}
use Rattle.lsys_forest.proofs.RowLemmas.{IsSplit, get_split, flat_In}
use Rattle.lsys_reads.specs.Neighbours.{IsOnLevel, level_around}
use Rattle.lsys_reads.specs.Looks.{IsOnLevelOf}
use Rattle.lsys_reads.proofs.LevelLemmas.{there_is, got_in}
use Rattle.lsys_reads.proofs.SeamLemmas.{in_left, in_right}

pub first_among : (xs : List ℕ) (k : ℕ) → first_in xs ≡ Some k → In k xs
first_among [] k e = absurd (none-some k e)
first_among (x ∷ xs) k e = inl (sym (same_Some x k e))

pub last_among : (xs : List ℕ) (k : ℕ) → last_in xs ≡ Some k → In k xs
last_among [] k e = absurd (none-some k e)
last_among (x ∷ []) k e = inl (sym (same_Some x k e))
last_among (x ∷ y ∷ xs) k e = inr (last_among (y ∷ xs) k e)

-- what is in the list of one is among the lists of all
pub in_flat : (f : ℕ → List ℕ) (xs : List ℕ) (p k : ℕ) → In p xs → In k (f p) → In k (flat f xs)
in_flat f [] p k i j = absurd i
in_flat f (x ∷ xs) p k (inl e) j = in_left (f x) (flat f xs) k (subst (λ p. In k (f p)) e j)
in_flat f (x ∷ xs) p k (inr i) j = in_right (f x) (flat f xs) k (in_flat f xs p k i j)

module _ {A : Type 0} where
  -- a child of a node of a level is a node of the level below
  pub kid_below : (f : Grove A) (t q k : ℕ) → In q (level_nodes (now_of f) f.root t) → In k (kids_in (now_of f q)) → In k (level_nodes (now_of f) f.root (t + 1))
  kid_below f t q k i j =
      let n : t + 1 ≡ suc t = omega arith in
      subst (λ u. In k (level_nodes (now_of f) f.root u)) (sym n) (in_flat (λ p. kids_in (now_of f p)) (level_nodes (now_of f) f.root t) q k i j)

  some_below : (f : Grove A) (t q k : ℕ) (ks : List ℕ) → IsOnLevelOf f t q → ((j : ℕ) → In j ks → In j (level_with f q)) → In k (kids_below (now_of f) ks) → In k (level_nodes (now_of f) f.root (t + 1))
  some_below f t q k ks on part h =
      let from = flat_In (λ i. kids_in (now_of f i)) ks k h in
      kid_below f t from.0 k (subst (λ u. In from.0 (level_nodes (now_of f) f.root u)) on.level_is (part from.0 from.1)) from.2

  -- the first and the last child of nodes of a level
  pub first_below : (f : Grove A) (t q k : ℕ) (ks : List ℕ) → IsOnLevelOf f t q → ((j : ℕ) → In j ks → In j (level_with f q)) → first_in (kids_below (now_of f) ks) ≡ Some k → In k (level_nodes (now_of f) f.root (t + 1))
  first_below f t q k ks on part e = some_below f t q k ks on part (first_among (kids_below (now_of f) ks) k e)

  pub last_below : (f : Grove A) (t q k : ℕ) (ks : List ℕ) → IsOnLevelOf f t q → ((j : ℕ) → In j ks → In j (level_with f q)) → last_in (kids_below (now_of f) ks) ≡ Some k → In k (level_nodes (now_of f) f.root (t + 1))
  last_below f t q k ks on part e = some_below f t q k ks on part (last_among (kids_below (now_of f) ks) k e)

  -- a spot stands on its level
  pub spot_split : (f : Grove A) (q : ℕ) → IsAtSpot f q → IsSplit (level_with f q) (place_of_node f q) q
  spot_split f q spot = get_split (level_with f q) (place_of_node f q) q (there_is f q q spot refl spot)

  -- the four parts of the level at a split
  pub part_before : (f : Grove A) (q i : ℕ) (s : IsSplit (level_with f q) i q) (j : ℕ) → In j s.before → In j (level_with f q)
  part_before f q i s j h = subst (In j) (sym s.whole) (in_left s.before (q ∷ s.after) j h)

  pub part_from : (f : Grove A) (q i : ℕ) (s : IsSplit (level_with f q) i q) (j : ℕ) → In j (q ∷ s.after) → In j (level_with f q)
  part_from f q i s j h = subst (In j) (sym s.whole) (in_right s.before (q ∷ s.after) j h)

  pub part_after : (f : Grove A) (q i : ℕ) (s : IsSplit (level_with f q) i q) (j : ℕ) → In j s.after → In j (level_with f q)
  part_after f q i s j h = part_from f q i s j (inr h)

  pub part_up_to : (f : Grove A) (q i : ℕ) (s : IsSplit (level_with f q) i q) (j : ℕ) → In j (s.before ++ q ∷ []) → In j (level_with f q)
  part_up_to f q i s j h = by s.before s.after (level_with f q) s.whole h
    where
      into : (xs ys : List ℕ) → In j (xs ++ q ∷ []) → In j (xs ++ q ∷ ys)
      into [] ys (inl e) = inl e
      into [] ys (inr none) = absurd none
      into (x ∷ xs) ys (inl e) = inl e
      into (x ∷ xs) ys (inr h) = inr (into xs ys h)

      by : (xs ys level : List ℕ) → level ≡ xs ++ q ∷ ys → In j (xs ++ q ∷ []) → In j level
      by xs ys level whole h = subst (In j) (sym whole) (into xs ys h)

  -- the mate of a node stands on its level
  pub mate_on_level : (f : Grove A) (t k r : ℕ) → IsOnLevel f k → level_of_node f r ≡ level_of_node f k → IsMate (spots_at (complete_levels f) (level_of_node f k)) (place_of_node f k) (place_of_node f r) → IsOnLevelOf f t k → IsOnLevelOf f t r
  mate_on_level f t k r h level mate on = record {
    level_is = level ∙ on.level_is;
    among = subst (λ u. In r (level_nodes (now_of f) f.root u)) on.level_is (got_in (level_around f k) (place_of_node f r) r (there_is f k r h level mate.within));
  }
