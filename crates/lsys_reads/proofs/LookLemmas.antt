-- Nodes at a seam were looked at.
use Rattle.std.proofs.Common.{◌≡◌, ◌⊎◌, ℕ, List, sym, ap, ◌∙◌, inl, inr, subst}
use Rattle.lsys_spec.specs.Rows.{In, AreApart, flat}
use Rattle.lsys_laws.specs.Seams.{right_of, left_of, AreTurned, IsRightSeam, child_of_touched, before_touched, up_to_turned, IsLeftSeam, kid_of_touched, after_touched, from_turned}
use Rattle.lsys_laws.proofs.Joints.{seamed}
use Rattle.lsys_laws.proofs.Mirrors.{seamed_left}
use Rattle.lsys_forest.specs.Groves.{Grove, now_of}
use Rattle.lsys_forest.specs.Rows.{level_nodes, level_with, level_of_node}
use Rattle.lsys_reads.specs.Looks.{AreLooked, kids_of, kids_of_level}

module _ {A : Type 0} (f : Grove A) (t : ℕ) (own : ℕ → List ℕ) (xs touched turned looked : List ℕ) (l : AreLooked f t own xs touched turned looked) where
  level_is : (q : ℕ) → level_of_node f q ≡ t → level_with f q ≡ level_nodes (now_of f) f.root t
  level_is q e = ap (λ u. level_nodes (now_of f) f.root u) e

  apart_on : (q : ℕ) → level_of_node f q ≡ t → AreApart (level_with f q)
  apart_on q e = subst AreApart (sym (level_is q e)) l.changed.apart_new

  right_seam : (k : ℕ) → IsRightSeam touched turned (kids_of f) (level_nodes (now_of f) f.root t) k → In k looked
  right_seam k (child_of_touched q there h among) = (l.around q h).children k among
  right_seam k (before_touched q before after whole h last) = (l.around q h).before k before after (apart_on q (l.touched_level q h)) (level_is q (l.touched_level q h) ∙ whole) last
  right_seam k (up_to_turned q before after whole h last) = (l.beyond q h).up_to k before after (level_is q (l.turned_level q h) ∙ whole) last

  left_seam : (k : ℕ) → IsLeftSeam touched turned (kids_of f) (level_nodes (now_of f) f.root t) k → In k looked
  left_seam k (kid_of_touched q there h among) = (l.around q h).children k among
  left_seam k (after_touched q before after whole h first) = (l.around q h).after k before after (apart_on q (l.touched_level q h)) (level_is q (l.touched_level q h) ∙ whole) first
  left_seam k (from_turned q before after whole h first) = (l.beyond q h).from k before after (level_is q (l.turned_level q h) ∙ whole) first

  pub right_looked : AreTurned right_of turned xs (level_nodes (now_of f) f.root t) → (k : ℕ) → In k (kids_of_level f t) → In k looked ⊎ (right_of k (flat own xs) ≡ right_of k (kids_of_level f t))
  right_looked sides k h = elim (seamed touched turned own (kids_of f) xs (level_nodes (now_of f) f.root t) l.changed sides k h) [
    | inl seam ↦ inl (right_seam k seam)
    | inr same ↦ inr same
  ]

  pub left_looked : AreTurned left_of turned xs (level_nodes (now_of f) f.root t) → (k : ℕ) → In k (kids_of_level f t) → In k looked ⊎ (left_of k (flat own xs) ≡ left_of k (kids_of_level f t))
  left_looked sides k h = elim (seamed_left touched turned own (kids_of f) xs (level_nodes (now_of f) f.root t) l.changed sides k h) [
    | inl seam ↦ inl (left_seam k seam)
    | inr same ↦ inr same
  ]
