-- The parents of the next level, and the nodes whose children stay.
use Rattle.std.proofs.Common.{◌≡◌, ◌⊎◌, ◌+◌, ◌<◌, ℕ, false, List, [], ◌∷◌, Option, Some, refl, sym, ap, ◌∙◌, subst, arith, inl, inr}
use Rattle.std.specs.Prelude.{slice_get, option_map}
use Rattle.std.proofs.lemmas.Option.{slice_get-map}
use Rattle.lsys_spec.specs.Rows.{In, AreApart}
use Rattle.lsys_syntax.specs.Commands.{Numbering}
use Rattle.lsys_spec.specs.Draws.{key_of}
use Rattle.lsys_laws.specs.Children.{is_open}
use Rattle.lsys_level.specs.Spots.{Spotted}
use Rattle.lsys_match.specs.Kept.{Kept}
use Rattle.lsys_forest.specs.Nodes.{Node}
use Rattle.lsys_forest.specs.Groves.{changes_in}
use Rattle.lsys_forest.specs.Rows.{spot_in, level_spots}
use Rattle.lsys_forest.proofs.RowLemmas.{level_depth}
use Rattle.lsys_forest.specs.Pairs.{seen_at}
use Rattle.lsys_reads.proofs.LevelLemmas.{got_in, place_in}
use Rattle.lsys_reads.specs.Lineages.{names}
use Rattle.lsys_reads.specs.Levels.{level_of, AnsweredAt, answer_at}
use Rattle.lsys_front.specs.Repairs.{Repair, SteppingSpots, now, rest, root, were, are}
use Rattle.lsys_front.proofs.Spots.{sound_old, sound_new, old_long, new_long}
use Rattle.lsys_children.specs.Nexts.{Successors, node_symbol, HasWanted, AreClosed}
use Rattle.lsys_children.specs.Renewals.{AreSmall, KeepsDeeper}
use Rattle.lsys_children.specs.Answers.{kept_successor, kept_successors}
use Rattle.lsys_children.proofs.Nexts.{tag_of}
use Rattle.lsys_children.proofs.Depths.{same_kids, all_under}
use Rattle.lsys_children.proofs.Families.{level_families}
use Rattle.lsys_children.proofs.Replaced.{replaced, replacement_short}
use Rattle.lsys_children.proofs.Walks.{each_alone}
use Rattle.lsys_children.proofs.Wants.{same_children}
use Rattle.lsys_children.specs.Parents.{IsParent, AreParents}

-- 1. parents

-- a node of the level is a parent by what its answer wants
is_parent : (r : Repair) → SteppingSpots r → KeepsDeeper (rest r) (now r) (r.level + 1) → (p k : ℕ) → slice_get (are r) p ≡ Some k
    → AnsweredAt r.new r.level (now r) (root r) r.store p k → IsParent r.new.seed (r.level + 1) (now r) (root r) k
is_parent r s h p k there answered =
    let d = level_depth (root r) (changes_in r.forest) (now r) (sound_new r s) r.level k (got_in (are r) p k there) in
    record {
      node = d.0;
      is = d.1;
      deep = d.2;
      key =
          sym (ap (λ (o : Option (Node Kept)). (spot_in k o).key) d.1) ∙ keys (spot_in k (now r k)) here
          ∙ ap (λ tag. key_of r.new.seed (names (now r) tag)) (tag_of k (now r k));
      all = all_under (root r) (changes_in r.forest) (rest r) (now r) (r.level + 1) k d.0 (sound_old r s) (sound_new r s) s.stay h d.1 d.2;
      short =
          replacement_short r.new r.level (level_of (now r) (root r) r.level) p (node_symbol (now r) k) (kept_successors (now r) k) s.new_spelled
          (replaced r.new r.level (now r) (root r) r.store p k keys answered there);
    }
  where
    keys : (a : Spotted) → slice_get (level_spots (now r) (root r) r.level) p ≡ Some a → a.key ≡ key_of r.new.seed (names (now r) a.tag)
    keys a e = s.new_levels.keys r.level p a (let l = new_long r s in omega (arith, l)) e

    here : slice_get (level_spots (now r) (root r) r.level) p ≡ Some (spot_in k (now r k))
    here = slice_get-map (λ k. spot_in k (now r k)) (are r) p ∙ ap (λ o. option_map (λ k. spot_in k (now r k)) o) there

pub are_parents : (r : Repair) (ks : List ℕ) → SteppingSpots r → KeepsDeeper (rest r) (now r) (r.level + 1) → AreSmall (now r)
    → ((p k : ℕ) → slice_get (are r) p ≡ Some k → AnsweredAt r.new r.level (now r) (root r) r.store p k)
    → AreApart ks → ((k : ℕ) → In k ks → In k (are r)) → AreParents r.new.seed (r.level + 1) (now r) (root r) ks
are_parents r ks s h small answered apart among = record {
  once = s.once_now;
  small = small;
  apart = apart;
  each = λ k i. (let at = place_in k (are r) (among k i) in is_parent r s h at.0 k at.1 (answered at.0 k at.1));
}

-- 2. nodes that stay

-- what replaces a node that stays as it was
stays : (r : Repair) (k : ℕ) → seen_at (now r) k ≡ seen_at (rest r) k → answer_at (now r) k ≡ answer_at (rest r) k → kept_successors (rest r) k ≡ kept_successors (now r) k
stays r k seen answer = sym (ap (λ x. kept_successor x (answer_at (now r) k)) seen ∙ ap (kept_successor (seen_at (rest r) k)) answer)

-- at rest a node of the level had what was wanted of it
had : (r : Repair) (k : ℕ) → SteppingSpots r → r.level < r.old.depth → AreClosed (kept_successors (rest r)) (were r) → In k (were r)
    → HasWanted r.old.numbering r.old.seed (rest r) k (kept_successors (rest r) k)
had r k s below closed i =
    each_alone r.old.numbering r.old.seed (rest r) (kept_successors (rest r)) (were r) closed
    (level_families r.old r.limit r.old.depth (rest r) (root r) [] s.old_spelled s.old_is s.old_levels (sound_old r s) s.once r.level (kept_successors (rest r)) below
    (λ p j there. replaced r.old r.level (rest r) (root r) r.store p j (λ a e. s.old_levels.keys r.level p a (let l = old_long r s in omega (arith, l, below)) e) (s.answered p j below there) there))
    k i

pub had_still : (r : Repair) (k : ℕ) → SteppingSpots r → r.level < r.old.depth → KeepsDeeper (rest r) (now r) (r.level + 1)
    → r.new.seed ≡ r.old.seed → r.new.numbering ≡ r.old.numbering → AreClosed (kept_successors (rest r)) (were r)
    → In k (are r) → In k (were r) → seen_at (now r) k ≡ seen_at (rest r) k → answer_at (now r) k ≡ answer_at (rest r) k
    → HasWanted r.new.numbering r.new.seed (now r) k (kept_successors (now r) k)
had_still r k s below h seed numbering closed i j seen answer =
    let d = level_depth (root r) (changes_in r.forest) (now r) (sound_new r s) r.level k i in
    let e = level_depth (root r) [] (rest r) (sound_old r s) r.level k j in
    let same = same_kids (root r) [] (rest r) (now r) (r.level + 1) k d.0 e.0 (sound_old r s) s.stay h d.1 e.1 d.2 in
    let old = same_children (root r) [] (rest r) (now r) k e.0 r.old.numbering r.old.seed (kept_successors (rest r) k) (sound_old r s) s.once s.stay e.1 same (had r k s below closed j) in
    subst (λ (g : Numbering). HasWanted g r.new.seed (now r) k (kept_successors (now r) k)) (sym numbering)
    (subst (λ n. HasWanted r.old.numbering n (now r) k (kept_successors (now r) k)) (sym seed)
    (subst (HasWanted r.old.numbering r.old.seed (now r) k) (stays r k seen answer) old))

-- 3. no cut reaches what stands after

closed_each : (by : Successors) (ks : List ℕ) → AreClosed by ks → (k : ℕ) → In k ks → is_open (by k) ≡ false
closed_each by [] h k i = absurd i
closed_each by (j ∷ js) h k (inl e) = ap (λ j. is_open (by j)) e ∙ h.0
closed_each by (j ∷ js) h k (inr i) = closed_each by js h.1 k i

each_closed : (by : Successors) (ks : List ℕ) → ((k : ℕ) → In k ks → is_open (by k) ≡ false) → AreClosed by ks
each_closed by [] h = tt
each_closed by (j ∷ js) h = (h j (inl refl), each_closed by js (λ k i. h k (inr i)))

pub all_closed : (r : Repair) (ks : List ℕ) → AreClosed (kept_successors (rest r)) (were r) → ((k : ℕ) → In k ks → is_open (kept_successors (now r) k) ≡ false)
    → ((k : ℕ) → In k (are r) → In k ks ⊎ (In k (were r) × (seen_at (now r) k ≡ seen_at (rest r) k) × (answer_at (now r) k ≡ answer_at (rest r) k)))
    → AreClosed (kept_successors (now r)) (are r)
all_closed r ks closed new each = each_closed (kept_successors (now r)) (are r) (λ k i. elim (each k i) [
  | inl j ↦ new k j
  | inr h ↦ ap is_open (sym (stays r k h.1 h.2)) ∙ closed_each (kept_successors (rest r)) (were r) closed k h.0
])
