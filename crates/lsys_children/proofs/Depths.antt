-- What lies deeper than a level is as at the last rest.
use Rattle.std.proofs.Common.{◌≡◌, ◌+◌, ◌<◌, ℕ, zero, suc, Option, Some, None, List, [], ◌∷◌, refl, sym, ap, ◌∙◌, subst, arith, inl, inr}
use Rattle.std.specs.Prelude.{option_map}
use Rattle.std.proofs.lemmas.Bool.{cases_eq}
use Rattle.std.proofs.lemmas.Option.{none-some, same_Some}
use Rattle.lsys_spec.specs.Rows.{In, flat}
use Rattle.lsys_laws.specs.Nodes.{Kin, Extends}
use Rattle.lsys_forest.specs.Nodes.{Node, Nodes}
use Rattle.lsys_forest.specs.Changes.{Change}
use Rattle.lsys_forest.specs.Groves.{IsRooted}
use Rattle.lsys_forest.specs.Rows.{kids_in, spot_in, level_nodes}
use Rattle.lsys_forest.proofs.RowLemmas as rows
use Rattle.lsys_reads.specs.Lineages.{kin_of, kins}
use Rattle.lsys_children.specs.Nexts.{AreSameChildren}
use Rattle.lsys_children.specs.Renewals.{AreAllUnder, KeepsDeeper}

in_flat : (f : ℕ → List ℕ) (xs : List ℕ) (p k : ℕ) → In p xs → In k (f p) → In k (flat f xs)
in_flat f [] p k i l = absurd i
in_flat f (x ∷ xs) p k (inl e) l = rows.In_left k (f x) (flat f xs) (subst (λ q. In k (f q)) e l)
in_flat f (x ∷ xs) p k (inr i) l = rows.In_right k (f x) (flat f xs) (in_flat f xs p k i l)

module _ {A : Type 0} where
  pub still : (m : Nodes A) (depth : ℕ) → KeepsDeeper m m depth
  still m depth = record {
    kids = λ k n p e f d. ap (λ (y : Node A). y.kids) (same_Some n p (sym e ∙ f));
    new_kids = λ k n e f d. absurd (none-some n (sym f ∙ e));
    deeper = λ k n e d. e;
    none_deeper = λ k n e f. absurd (none-some n (sym f ∙ e));
  }

  pub same_kids : (root : ℕ) (changes : List (Change A)) (o m : Nodes A) (depth k : ℕ) (n p : Node A) → IsRooted root changes o → Extends (kins o) (kins m) → KeepsDeeper o m depth
      → m k ≡ Some n → o k ≡ Some p → n.depth ≡ depth → AreSameChildren o m k
  same_kids root changes o m depth k n p sound stay h e f d = record {
    list = ap (λ x. kids_in x) e ∙ h.kids k n p e f d ∙ sym (ap (λ x. kids_in x) f);
    spots = λ j i. (
        let u = rows.child root changes o sound k j i in
        let above = ap (λ (y : Node A). y.depth) (same_Some p u.above (sym f ∙ u.above_is)) in
        ap (spot_in j) (h.deeper j u.node u.is (omega (arith, above, u.depth, deep, d)) ∙ sym u.is)
        );
  }
    where
      deep : n.depth ≡ p.depth
      deep =
          let kin = stay k (kin_of p) (ap (option_map (λ (y : Node A). kin_of y)) f) in
          ap (λ (z : Kin). z.depth) (same_Some (kin_of n) (kin_of p) (sym (ap (option_map (λ (y : Node A). kin_of y)) e) ∙ kin))

  pub all_under : (root : ℕ) (changes : List (Change A)) (o m : Nodes A) (depth p : ℕ) (n : Node A) → IsRooted root [] o → IsRooted root changes m → Extends (kins o) (kins m) → KeepsDeeper o m depth
      → m p ≡ Some n → n.depth ≡ depth → AreAllUnder m root p
  all_under root changes o m depth p n rest sound stay h is d k x e ne q = go (o k) refl
    where
      deep : x.depth ≡ depth + 1
      deep =
          let b = sound.held k x e ne in
          let above = ap (λ (y : Node A). y.depth) (same_Some b.parent n (sym b.is ∙ ap m q ∙ is)) in omega (arith, above, b.depth, d)

      kin : (y : Node A) → o k ≡ Some y → kin_of x ≡ kin_of y
      kin y f = same_Some (kin_of x) (kin_of y) (sym (ap (option_map (λ (z : Node A). kin_of z)) e) ∙ stay k (kin_of y) (ap (option_map (λ (z : Node A). kin_of z)) f))

      go : (y : Option (Node A)) → o k ≡ y → In k (kids_in (m p))
      go None f = let l = h.none_deeper k x e f in absurd (omega (arith, l, deep))
      go (Some y) f =
          let b = rest.held k y f ne in
          let parent : y.parent ≡ p = sym (ap (λ (z : Kin). z.parent) (kin y f)) ∙ q in
          let there : o p ≡ Some b.parent = ap o (sym parent) ∙ b.is in
          let list : n.kids ≡ b.parent.kids = h.kids p n b.parent is there d in
          subst (λ z. In k (kids_in z)) (sym is) (elim b.linked [
            | inl i ↦ subst (In k) (sym list) i
            | inr never ↦ absurd never
          ])

  -- a node that is not the root, at rest, with its parent
  record HasParent (o : Nodes A) (k : ℕ) (n : Node A) : Type 0 where
    parent : Node A
    is : o n.parent ≡ Some parent
    depth : n.depth ≡ parent.depth + 1
    among : In k parent.kids

  held : (root : ℕ) (o : Nodes A) → IsRooted root [] o → (k : ℕ) (n : Node A) → o k ≡ Some n → 0 < n.depth → HasParent o k n
  held root o rest k n e d =
      let b = rest.held k n e (λ f. (let top = ap (λ (y : Node A). y.depth) (same_Some n rest.root_lives.0 (sym e ∙ ap o f ∙ rest.root_lives.1)) in omega (arith, top, rest.root_lives.2, d))) in
      record { parent = b.parent; is = b.is; depth = b.depth; among = elim b.linked [ inl i ↦ i | inr never ↦ absurd never ] }

  at_root : (root : ℕ) (o : Nodes A) → IsRooted root [] o → (k : ℕ) (n : Node A) → o k ≡ Some n → n.depth ≡ 0 → k ≡ root
  at_root root o rest k n e d = elim (cases_eq k root) [
    | inl f ↦ f
    | inr ne ↦ absurd (let b = rest.held k n e ne in omega (arith, b.depth, d))
  ]

  -- at rest each node stands on the level of its depth
  pub on_level : (root : ℕ) (o : Nodes A) → IsRooted root [] o → (t k : ℕ) (n : Node A) → o k ≡ Some n → n.depth ≡ t + 1 → In k (level_nodes o root t)
  on_level root o rest zero k n e d =
      let b = held root o rest k n e (omega (arith, d)) in
      let top : n.parent ≡ root = at_root root o rest n.parent b.parent b.is (omega (arith, b.depth, d)) in
      subst (λ q. In k (kids_in (o q))) top (subst (λ x. In k (kids_in x)) (sym b.is) b.among)
  on_level root o rest (suc t) k n e d =
      let b = held root o rest k n e (omega (arith, d)) in
      in_flat (λ q. kids_in (o q)) (level_nodes o root t) n.parent k (on_level root o rest t n.parent b.parent b.is (omega (arith, b.depth, d))) (subst (λ x. In k (kids_in x)) (sym b.is) b.among)
