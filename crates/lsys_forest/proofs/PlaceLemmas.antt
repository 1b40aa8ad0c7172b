-- Which of two nodes of a level comes first: by their ranks where they have one parent, else as their parents do.
use Rattle.std.specs.Prelude.{◌↔◌}
use Rattle.std.proofs.Common.{◌≡◌, ◌≢◌, ◌+◌, ◌<◌, ℕ, zero, suc, List, [], ◌∷◌, ◌++◌, length, slice_get, Some, sym, ap, ◌∙◌, arith, inl, inr, subst, append_assoc}
use Rattle.std.proofs.lemmas.List.{length-append}
use Rattle.std.proofs.lemmas.Option.{slice_get_within}
use Rattle.lsys_spec.specs.Rows.{In, AreApart, first_in, flat}
use Rattle.lsys_forest.specs.Nodes.{Nodes}
use Rattle.lsys_forest.specs.Changes.{Change}
use Rattle.lsys_forest.specs.Groves.{IsRooted}
use Rattle.lsys_forest.specs.declared.node.Footing.{Footing}
use Rattle.lsys_forest.specs.Slots.{rank_at}
use Rattle.lsys_forest.specs.Ranks.{AreRanked, parent_in}
use Rattle.lsys_forest.specs.Rows.{index_in, kids_in, level_nodes}
use Rattle.lsys_forest.proofs.RowLemmas.{get_split, In_append, In_split, index_of, flat_append, flat_around, kids_apart, level_apart, level_depth, parent_level, parent_root}
use Rattle.lsys_forest.proofs.WalkLemmas.{In_at, level_parent, ranked_at}

index_at : (xs : List ℕ) (i k : ℕ) → AreApart xs → slice_get xs i ≡ Some k → index_in k xs ≡ i
index_at xs i k apart e =
    let s = get_split xs i k e in
    ap (index_in k) s.whole ∙ index_of k s.before s.after (subst AreApart s.whole apart) ∙ s.long

-- where a number of one of the lists stands
in_family : (f : ℕ → List ℕ) (xs b : List ℕ) (p : ℕ) (a : List ℕ) (i k : ℕ) → AreApart (flat f xs) → xs ≡ b ++ p ∷ a → slice_get (f p) i ≡ Some k → index_in k (flat f xs) ≡ length (flat f b) + i
in_family f xs b p a i k apart whole e =
    let s = get_split (f p) i k e in
    let w : flat f xs ≡ (flat f b ++ s.before) ++ k ∷ (s.after ++ flat f a) = ap (flat f) whole ∙ flat_around f b p a s.before k s.after s.whole in
    let at = ap (index_in k) w ∙ index_of k (flat f b ++ s.before) (s.after ++ flat f a) (subst AreApart w apart) in
    omega (arith, at, length-append (flat f b) s.before, s.long)

-- one list stands before the other, and so do their numbers
ahead : (f : ℕ → List ℕ) (xs b : List ℕ) (p : ℕ) (c : List ℕ) (q : ℕ) (d : List ℕ) (i j k l : ℕ) → AreApart xs → AreApart (flat f xs) → xs ≡ b ++ p ∷ (c ++ q ∷ d) → slice_get (f p) i ≡ Some k → slice_get (f q) j ≡ Some l → (index_in p xs < index_in q xs) × (index_in k (flat f xs) < index_in l (flat f xs))
ahead f xs b p c q d i j k l apart flats whole e g =
    let again : xs ≡ (b ++ p ∷ c) ++ q ∷ d = whole ∙ sym (append_assoc b (p ∷ c) (q ∷ d)) in
    let first = ap (index_in p) whole ∙ index_of p b (c ++ q ∷ d) (subst AreApart whole apart) in
    let then = ap (index_in q) again ∙ index_of q (b ++ p ∷ c) d (subst AreApart again apart) in
    let one = in_family f xs b p (c ++ q ∷ d) i k flats whole e in
    let two = in_family f xs (b ++ p ∷ c) q d j l flats again g in
    let size = ap length (flat_append f b (p ∷ c)) in
    let within = slice_get_within (f p) i k e in (
      omega (arith, first, then, length-append b (p ∷ c)),
      omega (arith, one, two, size, within, length-append (flat f b) (f p ++ flat f c), length-append (f p) (flat f c)),
    )

across : (f : ℕ → List ℕ) (xs : List ℕ) (p q i j k l : ℕ) → AreApart xs → AreApart (flat f xs) → In p xs → In q xs → p ≢ q → slice_get (f p) i ≡ Some k → slice_get (f q) j ≡ Some l → (index_in p xs < index_in q xs) ↔ (index_in k (flat f xs) < index_in l (flat f xs))
across f xs p q i j k l apart flats h g ne e d =
    let s = In_split p xs h in
    elim (In_append s.0 (p ∷ s.1) q (subst (In q) s.2 g)) [
      | inl early ↦
          let r = In_split q s.0 early in
          let whole : xs ≡ r.0 ++ q ∷ (r.1 ++ p ∷ s.1) = s.2 ∙ ap (λ (x : List ℕ). x ++ p ∷ s.1) r.2 ∙ append_assoc r.0 (q ∷ r.1) (p ∷ s.1) in
          let a = ahead f xs r.0 q r.1 p s.1 j i l k apart flats whole d e in
          (λ x. omega (arith, x, a.0), λ x. omega (arith, x, a.1))
      | inr late ↦ elim late [
        | inl same ↦ absurd (ne (sym same))
        | inr after ↦
            let r = In_split q s.1 after in
            let whole : xs ≡ s.0 ++ p ∷ (r.0 ++ q ∷ r.1) = s.2 ∙ ap (λ (x : List ℕ). s.0 ++ p ∷ x) r.2 in
            let a = ahead f xs s.0 p r.0 q r.1 i j k l apart flats whole e d in
            (λ x. a.1, λ x. a.0)
      ]
    ]

module _ {A : Type 0} where
  module _ (root : ℕ) (changes : List (Change A)) (m : Nodes A) (sound : IsRooted root changes m) where
    -- a node of a level is among the children of its parent
    among : (t k : ℕ) → In k (level_nodes m root t) → In k (kids_in (m (parent_in (m k))))
    among t k h =
        let n = level_depth root changes m sound t k h in
        subst (λ j. In k (kids_in (m j))) (sym (ap parent_in n.1)) (level_parent root changes m sound t k n.0 h n.1)

    pub above : (t k : ℕ) → In k (level_nodes m root (suc t)) → In (parent_in (m k)) (level_nodes m root t)
    above t k h =
        let n = level_depth root changes m sound (suc t) k h in
        subst (λ j. In j (level_nodes m root t)) (sym (ap parent_in n.1)) (parent_level root changes m sound t k n.0 h n.1).0

    top : (k : ℕ) → In k (level_nodes m root 0) → parent_in (m k) ≡ root
    top k h =
        let n = level_depth root changes m sound 0 k h in
        ap parent_in n.1 ∙ parent_root root changes m sound k n.0 h n.1

    -- of two parents neither is the root
    pub parents_deep : (t k l : ℕ) → In k (level_nodes m root t) → In l (level_nodes m root t) → parent_in (m k) ≢ parent_in (m l) → 0 < t
    parents_deep zero k l h g ne = absurd (ne (top k h ∙ sym (top l g)))
    parents_deep (suc t) k l h g ne = omega arith

    pub by_ranks : (t k l r s : ℕ) (at : List Footing) → AreRanked m at → In k (level_nodes m root t) → In l (level_nodes m root t) → parent_in (m k) ≡ parent_in (m l) → r ≡ rank_at at k → s ≡ rank_at at l → (r < s) ↔ (index_in k (level_nodes m root t) < index_in l (level_nodes m root t))
    by_ranks t k l r s at ranked h g same reads reads' =
        let one = ranked_at k (parent_in (m k)) m at r ranked (among t k h) reads in
        let two = ap (λ j. slice_get (kids_in (m j)) s) same ∙ ranked_at l (parent_in (m l)) m at s ranked (among t l g) reads' in
        go t h g one two
      where
        go : (t : ℕ) → In k (level_nodes m root t) → In l (level_nodes m root t) → slice_get (kids_in (m (parent_in (m k)))) r ≡ Some k → slice_get (kids_in (m (parent_in (m k)))) s ≡ Some l → (r < s) ↔ (index_in k (level_nodes m root t) < index_in l (level_nodes m root t))
        go zero h g one two =
            let up = top k h in
            let a = index_at (kids_in (m root)) r k (kids_apart root changes m sound root) (ap (λ j. slice_get (kids_in (m j)) r) (sym up) ∙ one) in
            let b = index_at (kids_in (m root)) s l (kids_apart root changes m sound root) (ap (λ j. slice_get (kids_in (m j)) s) (sym up) ∙ two) in
            (λ x. omega (arith, x, a, b), λ x. omega (arith, x, a, b))
        go (suc t) h g one two =
            let w = In_split (parent_in (m k)) (level_nodes m root t) (above t k h) in
            let flats = level_apart root changes m sound (suc t) in
            let a = in_family (λ j. kids_in (m j)) (level_nodes m root t) w.0 (parent_in (m k)) w.1 r k flats w.2 one in
            let b = in_family (λ j. kids_in (m j)) (level_nodes m root t) w.0 (parent_in (m k)) w.1 s l flats w.2 two in
            (λ x. omega (arith, x, a, b), λ x. omega (arith, x, a, b))

    pub by_parents : (t k l : ℕ) → In k (level_nodes m root (suc t)) → In l (level_nodes m root (suc t)) → parent_in (m k) ≢ parent_in (m l) → (index_in (parent_in (m k)) (level_nodes m root t) < index_in (parent_in (m l)) (level_nodes m root t)) ↔ (index_in k (level_nodes m root (suc t)) < index_in l (level_nodes m root (suc t)))
    by_parents t k l h g ne =
        let one = In_at k (kids_in (m (parent_in (m k)))) (among (suc t) k h) in
        let two = In_at l (kids_in (m (parent_in (m l)))) (among (suc t) l g) in
        across (λ j. kids_in (m j)) (level_nodes m root t) (parent_in (m k)) (parent_in (m l)) one.0 two.0 k l (level_apart root changes m sound t) (level_apart root changes m sound (suc t)) (above t k h) (above t l g) ne one.1 two.1

-- who stands right after another one comes after it
pub next_comes : (row b a : List ℕ) (one two : ℕ) → AreApart row → row ≡ b ++ one ∷ a → first_in a ≡ Some two → index_in one row < index_in two row
next_comes row b [] one two apart e f = cc
next_comes row b (x ∷ more) one two apart e f =
    let same : x ≡ two = cc in
    let here : row ≡ b ++ one ∷ (two ∷ more) = subst (λ y. row ≡ b ++ one ∷ (y ∷ more)) same e in
    let there : row ≡ (b ++ one ∷ []) ++ two ∷ more = here ∙ sym (append_assoc b (one ∷ []) (two ∷ more)) in
    let first : index_in one row ≡ length b = ap (index_in one) here ∙ index_of one b (two ∷ more) (subst AreApart here apart) in
    let second : index_in two row ≡ length (b ++ one ∷ []) = ap (index_in two) there ∙ index_of two (b ++ one ∷ []) more (subst AreApart there apart) in
    omega (arith, first, second, length-append b (one ∷ []))
