-- How long the next level is: by what there was at the last rest, and by the parents.
use Rattle.std.proofs.Common.{◌≡◌, ◌⊎◌, ◌+◌, ℕ, suc, List, [], ◌∷◌, ◌++◌, length, Option, Some, None, refl, sym, ap, ◌∙◌, inl, inr, arith, sum_by}
use Rattle.std.specs.Prelude.{option_map}
use Rattle.std.proofs.lemmas.List.Sums.{sum_by-append, sum_by-cons}
use Rattle.std.proofs.lemmas.Option.{same_Some}
use Rattle.lsys_spec.specs.Rows.{In, AreApart}
use Rattle.lsys_syntax.specs.Commands.{Numbering}
use Rattle.lsys_laws.specs.Nodes.{Kin}
use Rattle.lsys_match.specs.Kept.{Kept}
use Rattle.lsys_forest.specs.Nodes.{Node, Nodes}
use Rattle.lsys_forest.specs.Groves.{changes_in}
use Rattle.lsys_forest.specs.Rows.{kids_in, level_nodes}
use Rattle.lsys_forest.proofs.RowLemmas.{In_append, In_left, In_right, apart_append, level_apart, level_depth}
use Rattle.lsys_reads.specs.Lineages.{kin_of}
use Rattle.lsys_front.specs.Found.{LevelChanges, Differs}
use Rattle.lsys_front.specs.Repairs.{Repair, SteppingSpots, now, rest, root, were, are}
use Rattle.lsys_front.proofs.Spots.{is_in, sound_old, sound_new}
use Rattle.lsys_children.specs.Nexts.{Successors, HasWanted, AreClosed, wanted_in, wanted_count, count_wanted}
use Rattle.lsys_children.specs.Renewals.{KeepsDeeper}
use Rattle.lsys_children.specs.Answers.{kept_successors}
use Rattle.lsys_children.proofs.Depths.{on_level}
use Rattle.lsys_children.proofs.Lengths.{kids_count, below_count, alone_count, other_sums}
use Rattle.lsys_children.specs.declared.parent.Parent.{Parent}
use Rattle.lsys_children.specs.Parents.{nodes_in, cut_parents, AreToldBy}
use Rattle.lsys_children.specs.Needs.{had_by, had_by_all, wanted_of, wanted_of_all}
use Rattle.lsys_children.proofs.Walked.{walked_nodes, walked_told}

-- 1. sums

abbrev pub kids_at : Nodes Kept → ℕ → ℕ
kids_at m k = length (kids_in (m k))

no_sum : (ks : List ℕ) → sum_by (λ k. 0) ks ≡ 0
no_sum [] = refl
no_sum (k ∷ ks) = let rest = no_sum ks in omega (arith, sum_by-cons (λ (k : ℕ). 0) k ks, rest)

-- the level after one, by the children of its nodes
after : (m : Nodes Kept) (top t : ℕ) → length (level_nodes m top (t + 1)) ≡ sum_by (kids_at m) (level_nodes m top t)
after m top t = let next : t + 1 ≡ suc t = omega arith in ap (λ u. length (level_nodes m top u)) next ∙ below_count m (level_nodes m top t)

pub had_sum : (m : Nodes Kept) (ps : List Parent) → had_by_all m ps ≡ sum_by (kids_at m) (nodes_in ps)
had_sum m [] = refl
had_sum m (p ∷ ps) = let rest = had_sum m ps in omega (arith, sum_by-cons (had_by m) p ps, sum_by-cons (kids_at m) p.node (nodes_in ps), rest)

wanted_sum : (g : Numbering) (m : Nodes Kept) (by : Successors) (ps : List Parent) → AreToldBy by m ps → wanted_of_all g m ps ≡ sum_by (λ k. wanted_count g (by k)) (nodes_in ps)
wanted_sum g m by [] h = refl
wanted_sum g m by (p ∷ ps) h =
    let rest = wanted_sum g m by ps h.1 in
    let one : wanted_of g m p ≡ wanted_count g (by p.node) = ap (wanted_count g) (sym h.0) in
    omega (arith, sum_by-cons (wanted_of g m) p ps, sum_by-cons (λ k. wanted_count g (by k)) p.node (nodes_in ps), rest, one)

-- 2. what is left of the level of the last rest

module _ (r : Repair) (s : SteppingSpots r) (h : KeepsDeeper (rest r) (now r) (r.level + 1)) where
  were_apart : AreApart (were r)
  were_apart = level_apart (root r) [] (rest r) (sound_old r s) r.level

  are_apart : AreApart (are r)
  are_apart = level_apart (root r) (changes_in r.forest) (now r) (sound_new r s) r.level

  -- a node that was on the level has the children that it had, even if it is gone
  kids_stay : (k : ℕ) → In k (were r) → kids_at (rest r) k ≡ kids_at (now r) k
  kids_stay k i =
      let e = level_depth (root r) [] (rest r) (sound_old r s) r.level k i in
      let kin = s.stay k (kin_of e.0) (ap (option_map (λ (y : Node Kept). kin_of y)) e.1) in
      by e.0 e.1 e.2 (now r k) refl kin
    where
      by : (p : Node Kept) → rest r k ≡ Some p → p.depth ≡ r.level + 1 → (o : Option (Node Kept)) → now r k ≡ o → option_map (λ (y : Node Kept). kin_of y) o ≡ Some (kin_of p) → kids_at (rest r) k ≡ kids_at (now r) k
      by p e d None f kin = cc
      by p e d (Some n) f kin =
          let deep : n.depth ≡ p.depth = ap (λ (z : Kin). z.depth) (same_Some (kin_of n) (kin_of p) kin) in
          ap (λ (o : Option (Node Kept)). length (kids_in o)) e ∙ sym (ap (length {A = ℕ}) (h.kids k n p f e (deep ∙ d))) ∙ sym (ap (λ (o : Option (Node Kept)). length (kids_in o)) f)

  -- one that was not has none
  new_none : (k : ℕ) → In k (are r) → In k (were r) ⊎ (kids_at (now r) k ≡ 0)
  new_none k i =
      let d = level_depth (root r) (changes_in r.forest) (now r) (sound_new r s) r.level k i in by d.0 d.1 d.2 (rest r k) refl
    where
      by : (n : Node Kept) → now r k ≡ Some n → n.depth ≡ r.level + 1 → (o : Option (Node Kept)) → rest r k ≡ o → In k (were r) ⊎ (kids_at (now r) k ≡ 0)
      by n f d None e = inr (ap (λ (o : Option (Node Kept)). length (kids_in o)) f ∙ ap (length {A = ℕ}) (h.new_kids k n f e d))
      by n f d (Some p) e =
          let deep : p.depth ≡ n.depth =
          ap (λ (z : Kin). z.depth)
          (same_Some (kin_of p) (kin_of n) (sym (s.stay k (kin_of p) (ap (option_map (λ (y : Node Kept). kin_of y)) e)) ∙ ap (option_map (λ (y : Node Kept). kin_of y)) f)) in
          inl (on_level (root r) (rest r) (sound_old r s) r.level k p e (deep ∙ d))

  pub left : (c : LevelChanges) → Differs r c → AreApart c.gone
      → length (level_nodes (now r) (root r) (r.level + 1)) + sum_by (kids_at (now r)) c.gone ≡ length (level_nodes (rest r) (root r) (r.level + 1))
  left c differs once =
      let had = other_sums (kids_at (now r)) (kids_at (rest r)) (were r) [] were_apart tt (λ p i. absurd i) (λ k i. inr (kids_stay k i)) in
      let shared = other_sums (λ k. 0) (kids_at (now r)) (are r ++ c.gone) (were r)
      (apart_append (are r) c.gone are_apart once (λ k i j. ((differs.gone k).0 j).1 i)) were_apart there
      (λ k i. elim (In_append (are r) c.gone k i) [ inl j ↦ new_none k j | inr j ↦ inl ((differs.gone k).0 j).0 ]) in
      let both = sum_by-append (kids_at (now r)) (are r) c.gone in
      omega (arith, had, shared, both, no_sum (were r), no_sum (are r ++ c.gone), after (now r) (root r) r.level, after (rest r) (root r) r.level)
    where
      there : (k : ℕ) → In k (were r) → In k (are r ++ c.gone)
      there k i = elim (is_in k (are r)) [
        | inl j ↦ In_left k (are r) c.gone j
        | inr none ↦ In_right k (are r) c.gone ((differs.gone k).1 (i, none))
      ]

-- 3. by the parents

pub by_parents : (r : Repair) (ps : List Parent) → SteppingSpots r → AreApart (nodes_in ps) → ((k : ℕ) → In k (nodes_in ps) → In k (are r))
    → AreClosed (kept_successors (now r)) (are r) → AreToldBy (kept_successors (now r)) (now r) ps
    → ((k : ℕ) → In k (are r) → In k (nodes_in ps) ⊎ HasWanted r.new.numbering r.new.seed (now r) k (kept_successors (now r) k))
    → count_wanted r.new.numbering (now r) (kept_successors (now r)) (are r) + had_by_all (now r) ps
    ≡ length (level_nodes (now r) (root r) (r.level + 1)) + wanted_of_all r.new.numbering (now r) ps
by_parents r ps s once among closed told others =
    let g = r.new.numbering in
    let by = kept_successors (now r) in
    let sums = other_sums (kids_at (now r)) (λ k. wanted_count g (by k)) (are r) (nodes_in ps)
    (level_apart (root r) (changes_in r.forest) (now r) (sound_new r s) r.level) once among
    (λ k i. elim (others k i) [ inl j ↦ inl j | inr w ↦ inr (sym (kids_count g r.new.seed (now r) k (by k) w)) ]) in
    omega (arith, sums, alone_count g (now r) by (are r) closed, had_sum (now r) ps, wanted_sum g (now r) by ps told, after (now r) (root r) r.level)

pub by_walk : (r : Repair) (ps : List Parent) → ps ≡ cut_parents (now r) None (are r) → AreApart (are r)
    → count_wanted r.new.numbering (now r) (kept_successors (now r)) (are r) ≡ wanted_of_all r.new.numbering (now r) ps
by_walk r ps is apart =
    let g = r.new.numbering in
    let m = now r in
    let by : Successors = wanted_in m (kept_successors m) None (are r) in
    ap (sum_by (λ k. wanted_count g (by k))) (sym (walked_nodes m None (are r))) ∙ sym (wanted_sum g m by (cut_parents m None (are r)) (walked_told m (are r) apart)) ∙ ap (wanted_of_all g m) (sym is)
