-- How long the next level is: by what there was at the last rest, and by the nodes that want other children.
use Rattle.std.proofs.Common.{◌≡◌, ◌⊎◌, ◌+◌, ℕ, suc, List, [], ◌∷◌, ◌++◌, length, Option, Some, None, refl, sym, ap, ◌∙◌, subst, inl, inr, arith, sum_by}
use Rattle.std.specs.Prelude.{option_map}
use Rattle.std.proofs.lemmas.List.Sums.{sum_by-append, sum_by-cons}
use Rattle.std.proofs.lemmas.Option.{same_Some}
use Rattle.lsys_spec.specs.Rows.{In, AreApart}
use Rattle.lsys_laws.specs.Nodes.{Kin}
use Rattle.lsys_match.specs.Kept.{Kept}
use Rattle.lsys_forest.specs.Nodes.{Node, Nodes}
use Rattle.lsys_forest.specs.Groves.{IsRooted, changes_in}
use Rattle.lsys_forest.specs.Rows.{kids_in, level_nodes}
use Rattle.lsys_forest.proofs.RowLemmas.{In_append, In_left, In_right, In_split, apart_append, level_apart, level_depth}
use Rattle.lsys_forest.proofs.SoundLemmas.{AreSound-then}
use Rattle.lsys_reads.specs.Lineages.{kin_of}
use Rattle.lsys_children.specs.Nexts.{HasWanted, wanted_in, wanted_count}
use Rattle.lsys_children.specs.Answers.{kept_successors}
use Rattle.lsys_children.proofs.Lengths.{kids_count, below_count, other_sums}
use Rattle.lsys_children.proofs.Depths.{on_level}
use Rattle.lsys_pass.specs.declared.state.PassState.TheVariants.{Level}
use Rattle.lsys_pass.specs.Sizes.{symbols_at}
use Rattle.lsys_pass.specs.Passes.{PassView, stage_of, now_in, rest_in, IsPass}
use Rattle.lsys_pass.specs.Advances.{IsAskedTo, symbols_wanted}
use Rattle.lsys_pass.proofs.Asking.{sound_now}
use Rattle.lsys_pass.proofs.Stepping.{in_less, in_more, apart_less, not_left}

-- 1. sums

no_sum : (f : ℕ → ℕ) (ys : List ℕ) → ((y : ℕ) → In y ys → f y ≡ 0) → sum_by f ys ≡ 0
no_sum f [] h = refl
no_sum f (y ∷ ys) h = let c = sum_by-cons f y ys in let one = h y (inl refl) in let rest = no_sum f ys (λ z i. h z (inr i)) in omega (arith, c, one, rest)

sum_around : (f : ℕ → ℕ) (b : List ℕ) (x : ℕ) (a : List ℕ) → sum_by f (b ++ x ∷ a) ≡ f x + sum_by f (b ++ a)
sum_around f b x a = let one = sum_by-append f b (x ∷ a) in let two = sum_by-cons f x a in let three = sum_by-append f b a in omega (arith, one, two, three)

pub same_sum : (f g : ℕ → ℕ) (xs : List ℕ) → ((x : ℕ) → In x xs → f x ≡ g x) → sum_by f xs ≡ sum_by g xs
same_sum f g [] h = refl
same_sum f g (x ∷ xs) h =
    let c = sum_by-cons f x xs in
    let d = sum_by-cons g x xs in
    let one = h x (inl refl) in
    let rest = same_sum f g xs (λ z i. h z (inr i)) in
    omega (arith, c, d, one, rest)

-- the sums over two lists are the same, where what is in one alone counts nothing
sum_shared : (f : ℕ → ℕ) (xs ys : List ℕ) → AreApart xs → AreApart ys → ((x : ℕ) → In x xs → In x ys ⊎ (f x ≡ 0)) → ((y : ℕ) → In y ys → In y xs ⊎ (f y ≡ 0)) → sum_by f xs ≡ sum_by f ys
sum_shared f [] ys apart apart' to from = sym (no_sum f ys (λ y i. elim (from y i) [ inl none ↦ absurd none | inr e ↦ e ]))
sum_shared f (x ∷ xs) ys apart apart' to from = elim (to x (inl refl)) [
  | inl i ↦
      let s = In_split x ys i in
      let whole : AreApart (s.0 ++ x ∷ s.1) = subst AreApart s.2 apart' in
      let rest = sum_shared f xs (s.0 ++ s.1) apart.1 (apart_less s.0 x s.1 whole)
      (λ z j. elim (to z (inr j)) [
        | inl k ↦ inl (in_less s.0 x s.1 z (λ e. apart.0 (subst (λ w. In w xs) e j)) (subst (In z) s.2 k))
        | inr e ↦ inr e
      ])
      (λ z j. elim (from z (subst (In z) (sym s.2) (in_more s.0 x s.1 z j))) [
        | inl (inl e) ↦ absurd (not_left s.0 x s.1 whole (subst (λ w. In w (s.0 ++ s.1)) e j))
        | inl (inr k) ↦ inl k
        | inr e ↦ inr e
      ]) in
      let c = sum_by-cons f x xs in
      let d = ap (sum_by f) s.2 in
      let e = sum_around f s.0 x s.1 in
      omega (arith, rest, c, d, e)
  | inr zero ↦
      let rest = sum_shared f xs ys apart.1 apart' (λ z j. to z (inr j))
      (λ z j. elim (from z j) [
        | inl (inl e) ↦ inr (ap f e ∙ zero)
        | inl (inr k) ↦ inl k
        | inr e ↦ inr e
      ]) in
      let c = sum_by-cons f x xs in
      omega (arith, rest, c, zero)
]

-- 2. the next level

abbrev pub kids_at : Nodes Kept → ℕ → ℕ
kids_at m k = length (kids_in (m k))

module _ (v : PassView) (t : ℕ) (h : IsPass v) (state : v.state ≡ Level t) (a : IsAskedTo (stage_of v) t) where
  abbrev row : List ℕ
  row = level_nodes (now_in v) v.forest.root t

  abbrev old_row : List ℕ
  old_row = level_nodes (rest_in v) v.forest.root t

  sound_was : IsRooted v.forest.root [] (rest_in v)
  sound_was = AreSound-then v.forest.root (changes_in v.forest) (now_in v) h.stored.sound

  -- a node of the level has as many children as it had, or none, if it is new; and one that lived was on the level
  kids_as : (k : ℕ) → In k row → (kids_at (now_in v) k ≡ kids_at (rest_in v) k) × (In k old_row ⊎ (kids_at (rest_in v) k ≡ 0))
  kids_as k i = by (rest_in v k) refl
    where
      d : (n : Node Kept) × (now_in v k ≡ Some n) × (n.depth ≡ t + 1)
      d = level_depth v.forest.root (changes_in v.forest) (now_in v) (sound_now v t h state) t k i

      by : (o : Option (Node Kept)) → rest_in v k ≡ o → (kids_at (now_in v) k ≡ kids_at (rest_in v) k) × (In k old_row ⊎ (kids_at (rest_in v) k ≡ 0))
      by None e =
          let none : kids_at (rest_in v) k ≡ 0 = ap (λ (o : Option (Node Kept)). length (kids_in o)) e in
          let new : kids_at (now_in v) k ≡ 0 = ap (λ (o : Option (Node Kept)). length (kids_in o)) d.1 ∙ ap (length {A = ℕ}) (a.at.tree.new_kids k d.0 d.1 e d.2) in
          (new ∙ sym none, inr none)
      by (Some p) e =
          let deep : p.depth ≡ d.0.depth = ap (λ (z : Kin). z.depth) (same_Some (kin_of p) (kin_of d.0) (sym (a.at.tree.stay k (kin_of p) (ap (option_map (λ (y : Node Kept). kin_of y)) e)) ∙ ap (option_map (λ (y : Node Kept). kin_of y)) d.1)) in (
            ap (λ (o : Option (Node Kept)). length (kids_in o)) d.1 ∙ ap (length {A = ℕ}) (a.at.tree.kids k d.0 p d.1 e d.2) ∙ sym (ap (λ (o : Option (Node Kept)). length (kids_in o)) e),
            inl (on_level v.forest.root (rest_in v) sound_was t k p e (deep ∙ d.2)),
          )

  -- what the successor of a node wants of it
  abbrev wants : ℕ → ℕ
  wants k = wanted_count v.next.numbering (wanted_in (now_in v) (kept_successors (now_in v)) None row k)

  -- The nodes that are gone from the level are those, and these are the ones that may want other children.
  pub next_length : (gone ps : List ℕ) → AreApart gone → ((k : ℕ) → In k gone → In k old_row) → ((k : ℕ) → In k gone → In k row → ⊥) → ((k : ℕ) → In k old_row → In k row ⊎ In k gone)
      → AreApart ps → ((k : ℕ) → In k ps → In k row)
      → ((k : ℕ) → In k row → In k ps ⊎ HasWanted v.next.numbering v.next.seed (now_in v) k (wanted_in (now_in v) (kept_successors (now_in v)) None row k))
      → symbols_wanted (stage_of v) t + (sum_by (kids_at (now_in v)) ps + sum_by (kids_at (rest_in v)) gone) ≡ symbols_at v.sizes (t + 1) + sum_by wants ps
  next_length gone ps apart_gone on off all apart_ps among others =
      let apart = level_apart v.forest.root (changes_in v.forest) (now_in v) (sound_now v t h state) t in
      let sums = other_sums (kids_at (now_in v)) wants row ps apart apart_ps among
      (λ k i. elim (others k i) [ inl j ↦ inl j | inr w ↦ inr (sym (kids_count v.next.numbering v.next.seed (now_in v) k (wanted_in (now_in v) (kept_successors (now_in v)) None row k) w)) ]) in
      let same = same_sum (kids_at (now_in v)) (kids_at (rest_in v)) row (λ k i. (kids_as k i).0) in
      let both = sum_by-append (kids_at (rest_in v)) row gone in
      let shared = sum_shared (kids_at (rest_in v)) (row ++ gone) old_row (apart_append row gone apart apart_gone (λ k i j. off k j i)) (level_apart v.forest.root [] (rest_in v) sound_was t)
      (λ k i. elim (In_append row gone k i) [ inl j ↦ (kids_as k j).1 | inr j ↦ inl (on k j) ])
      (λ k i. elim (all k i) [ inl j ↦ inl (In_left k row gone j) | inr j ↦ inl (In_right k row gone j) ]) in
      let below = below_count (rest_in v) old_row in
      let had = h.sized.symbols (t + 1) in
      let step : t + 1 ≡ suc t = omega arith in
      let long = ap (λ u. length (level_nodes (rest_in v) v.forest.root u)) step in
      omega (arith, sums, same, both, shared, below, had, long)
