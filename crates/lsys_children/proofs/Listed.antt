-- A level that is listed from the left.
use Rattle.std.proofs.Common.{◌≡◌, ◌<◌, ℕ, ◌+◌, ◌-◌, List, [], ◌∷◌, ◌++◌, length, Option, Some, None, take, slice_get, refl, ap, sym, ◌∙◌, subst, arith}
use Rattle.std.specs.Prelude.{MatchOption}
use Rattle.std.proofs.lemmas.Option.{slice_get_within, get_or_from_slice_get}
use Rattle.std.proofs.lemmas.List.{take_more, take_all, length_push, length-map}
use Rattle.lsys_level.specs.Spots.{spots_at}
use Rattle.lsys_forest.specs.Groves.{Grove, now_of}
use Rattle.lsys_forest.specs.Rows.{complete_levels, level_nodes, level_of_node, place_of_node, index_in, spot_in}
use Rattle.lsys_forest.proofs.ViewLemmas.{told_is}
use Rattle.lsys_reads.proofs.LevelLemmas.{get_index}

module _ {A : Type 0} where
  -- the nodes of a level
  abbrev pub nodes_on : Grove A → ℕ → List ℕ
  nodes_on f t = level_nodes (now_of f) f.root t

  -- the spot is the next one to be listed
  abbrev pub IsNext : Grove A → ℕ → List ℕ → Option ℕ → Type 0
  IsNext f t nodes None = length nodes ≡ length (nodes_on f t)
  IsNext f t nodes (Some s) = (level_of_node f s ≡ t) × (place_of_node f s ≡ length nodes) × (place_of_node f s < length (nodes_on f t))

  pub record Listing (f : Grove A) (t : ℕ) (nodes : List ℕ) (at : Option ℕ) : Type 0 where
    pub front : nodes ≡ take (length nodes) (nodes_on f t)
    pub next : IsNext f t nodes at

  -- how many are still to be listed
  abbrev pub left_over : Grove A → ℕ → Option ℕ → ℕ
  left_over f t None = 0
  left_over f t (Some s) = length (nodes_on f t) - place_of_node f s

  long_level : (f : Grove A) (t : ℕ) → t < length (complete_levels f) → length (spots_at (complete_levels f) t) ≡ length (nodes_on f t)
  long_level f t h = ap length (told_is f t h) ∙ length-map (nodes_on f t) (λ k. spot_in k (now_of f k))

  pub list_begins : (f : Grove A) (t : ℕ) → t < length (complete_levels f) → (o : Option ℕ)
      → MatchOption o (length (spots_at (complete_levels f) t) ≡ 0) (λ s. (level_of_node f s ≡ t) × (place_of_node f s ≡ 0) × (0 < length (spots_at (complete_levels f) t)))
      → Listing f t [] o
  list_begins f t h None e = record { front = empty (nodes_on f t); next = sym (sym (long_level f t h) ∙ e) }
    where
      empty : (xs : List ℕ) → [] ≡ take 0 xs
      empty [] = refl
      empty (x ∷ xs) = refl
  list_begins f t h (Some s) e = record {
    front = empty (nodes_on f t);
    next = (e.0, e.1, subst (λ n. n < length (nodes_on f t)) (sym e.1) (subst (λ n. 0 < n) (long_level f t h) e.2));
  }
    where
      empty : (xs : List ℕ) → [] ≡ take 0 xs
      empty [] = refl
      empty (x ∷ xs) = refl

  -- the node is the one at its place
  here_is : (f : Grove A) (t s : ℕ) (nodes : List ℕ) → IsNext f t nodes (Some s) → slice_get (nodes_on f t) (length nodes) ≡ Some s
  here_is f t s nodes n =
      let on : level_nodes (now_of f) f.root (level_of_node f s) ≡ nodes_on f t = ap (λ u. nodes_on f u) n.0 in
      let place : index_in s (nodes_on f t) ≡ length nodes = ap (index_in s) (sym on) ∙ n.1 in
      ap (slice_get (nodes_on f t)) (sym place) ∙ get_index s (nodes_on f t) (subst (λ p. p < length (nodes_on f t)) (n.1 ∙ sym place) n.2)

  pub list_goes_on : (f : Grove A) (t s : ℕ) (nodes : List ℕ) (o : Option ℕ) → t < length (complete_levels f)
      → Listing f t nodes (Some s)
      → MatchOption o (place_of_node f s + 1 ≡ length (spots_at (complete_levels f) (level_of_node f s)))
      (λ n. (level_of_node f n ≡ level_of_node f s) × (place_of_node f n ≡ place_of_node f s + 1) × (place_of_node f n < length (spots_at (complete_levels f) (level_of_node f s))))
      → Listing f t (nodes ++ s ∷ []) o
  list_goes_on f t s nodes o h l m = record {
    front =
        ap (λ (xs : List ℕ). xs ++ s ∷ []) l.front
        ∙ ap (λ (x : ℕ). take (length nodes) (nodes_on f t) ++ x ∷ []) (sym (get_or_from_slice_get (nodes_on f t) (length nodes) s s here))
        ∙ sym (take_more (nodes_on f t) (length nodes) s (slice_get_within (nodes_on f t) (length nodes) s here))
        ∙ ap (λ n. take n (nodes_on f t)) (sym more);
    next = by o m;
  }
    where
      here : slice_get (nodes_on f t) (length nodes) ≡ Some s
      here = here_is f t s nodes l.next

      more : length (nodes ++ s ∷ []) ≡ length nodes + 1
      more = length_push nodes s

      long : length (spots_at (complete_levels f) (level_of_node f s)) ≡ length (nodes_on f t)
      long = ap (λ u. length (spots_at (complete_levels f) u)) l.next.0 ∙ long_level f t h

      by : (o : Option ℕ) → MatchOption o (place_of_node f s + 1 ≡ length (spots_at (complete_levels f) (level_of_node f s)))
          (λ n. (level_of_node f n ≡ level_of_node f s) × (place_of_node f n ≡ place_of_node f s + 1) × (place_of_node f n < length (spots_at (complete_levels f) (level_of_node f s))))
          → IsNext f t (nodes ++ s ∷ []) o
      by None e = more ∙ ap (λ n. n + 1) (sym l.next.1) ∙ e ∙ long
      by (Some n) e = (e.0 ∙ l.next.0, e.1 ∙ ap (λ n. n + 1) l.next.1 ∙ sym more, subst (λ k. place_of_node f n < k) long e.2)

  pub spot_is : (f : Grove A) (t s : ℕ) (nodes : List ℕ) → t < length (complete_levels f) → Listing f t nodes (Some s)
      → place_of_node f s < length (spots_at (complete_levels f) (level_of_node f s))
  spot_is f t s nodes h l =
      subst (λ n. place_of_node f s < n) (sym (ap (λ u. length (spots_at (complete_levels f) u)) l.next.0 ∙ long_level f t h)) l.next.2

  pub list_ends : (f : Grove A) (t : ℕ) (nodes : List ℕ) → Listing f t nodes None → nodes ≡ nodes_on f t
  list_ends f t nodes l = l.front ∙ take_all (length nodes) (nodes_on f t) (omega (arith, l.next))
