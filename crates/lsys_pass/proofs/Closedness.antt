-- A level on which no cut reaches what stands after.
use Rattle.std.proofs.Common.{◌≡◌, ℕ, false, List, [], ◌∷◌, Option, Some, None, refl, sym, ap, ◌∙◌, inl, inr}
use Rattle.std.specs.Prelude.{option_map}
use Rattle.std.proofs.lemmas.Option.{same_Some}
use Rattle.lsys_spec.specs.Rows.{In}
use Rattle.lsys_laws.specs.Nodes.{Kin}
use Rattle.lsys_laws.specs.Children.{is_open}
use Rattle.lsys_module.specs.Views.{string_of}
use Rattle.lsys_level.specs.Spots.{Seen, Push, Pop, Module, Spotted}
use Rattle.lsys_match.specs.Kept.{Kept}
use Rattle.lsys_forest.specs.Nodes.{Node}
use Rattle.lsys_forest.specs.Groves.{IsRooted, changes_in}
use Rattle.lsys_forest.specs.Rows.{spot_in, level_nodes}
use Rattle.lsys_forest.proofs.RowLemmas.{level_depth}
use Rattle.lsys_forest.proofs.SoundLemmas.{AreSound-then}
use Rattle.lsys_reads.proofs.LevelLemmas.{place_in}
use Rattle.lsys_reads.specs.Lineages.{kin_of}
use Rattle.lsys_reads.specs.Levels.{answer_at}
use Rattle.lsys_children.specs.Nexts.{Successors, AreClosed}
use Rattle.lsys_children.specs.Answers.{kept_successor, kept_successors}
use Rattle.lsys_children.proofs.Depths.{on_level}
use Rattle.lsys_pass.specs.declared.state.PassState.TheVariants.{Level}
use Rattle.lsys_pass.specs.Sizes.{opens_at}
use Rattle.lsys_pass.specs.Passes.{PassView, now_in, rest_in, IsPass}
use Rattle.lsys_pass.proofs.Before.{answer_lives, spot_at, was_answered}
use Rattle.lsys_pass.proofs.Sized.{itself_closed}
use Rattle.lsys_pass.proofs.Asking.{at, sound_now}

closed_in : (by : Successors) (ks : List ℕ) (k : ℕ) → AreClosed by ks → In k ks → is_open (by k) ≡ false
closed_in by [] k h none = absurd none
closed_in by (j ∷ ks) k h (inl e) = ap (λ i. is_open (by i)) e ∙ h.0
closed_in by (j ∷ ks) k h (inr i) = closed_in by ks k h.1 i

closed_each : (by : Successors) (ks : List ℕ) → ((k : ℕ) → In k ks → is_open (by k) ≡ false) → AreClosed by ks
closed_each by [] h = tt
closed_each by (k ∷ ks) h = (h k (inl refl), closed_each by ks (λ j i. h j (inr i)))

-- whatever is seen of a node, by its answer
seen_closed : (x : Seen) (a : Kept) → is_open (string_of a.successor) ≡ false → is_open (kept_successor x (Some a)) ≡ false
seen_closed Push a h = refl
seen_closed Pop a h = refl
seen_closed (Module v) a h = h

module _ (v : PassView) (t : ℕ) (h : IsPass v) (state : v.state ≡ Level t) where
  sound_was : IsRooted v.forest.root [] (rest_in v)
  sound_was = AreSound-then v.forest.root (changes_in v.forest) (now_in v) h.stored.sound

  abbrev row : List ℕ
  row = level_nodes (now_in v) v.forest.root t

  -- an answer of the last rest, which is still kept on the level
  old_closed : opens_at v.sizes t ≡ false → (k : ℕ) (a : Kept) → In k row → answer_at (rest_in v) k ≡ Some a → is_open (string_of a.successor) ≡ false
  old_closed closed k a i e =
      let l = at v t h state in
      let n = answer_lives (rest_in v) k a e in
      let d = level_depth v.forest.root (changes_in v.forest) (now_in v) (sound_now v t h state) t k i in
      let deep : n.0.depth ≡ d.0.depth = ap (λ (z : Kin). z.depth) (same_Some (kin_of n.0) (kin_of d.0) (sym (l.tree.stay k (kin_of n.0) (ap (option_map (λ (y : Node Kept). kin_of y)) n.1)) ∙ ap (option_map (λ (y : Node Kept). kin_of y)) d.1)) in
      let on : In k (level_nodes (rest_in v) v.forest.root t) = on_level v.forest.root (rest_in v) sound_was t k n.0 n.1 (deep ∙ d.2) in
      let p = place_in k (level_nodes (rest_in v) v.forest.root t) on in
      let w = was_answered v.system v.limit (rest_in v) v.forest.root v.store v.reads v.seats l.rest t p.0 k n.0 a p.1 n.1 on e in
      let spot = spot_at (rest_in v) v.forest.root t w.place k n.0 w.there n.1 in
      let seen : n.0.seen ≡ Module w.own = ap (λ (z : Spotted). z.seen) (same_Some _ _ (sym spot ∙ w.spot)) in
      let here : is_open (kept_successors (rest_in v) k) ≡ false = closed_in (kept_successors (rest_in v)) (level_nodes (rest_in v) v.forest.root t) k (h.sized.closed t closed) on in
      let first : (spot_in k (rest_in v k)).seen ≡ Module w.own = ap (λ (o : Option (Node Kept)). (spot_in k o).seen) n.1 ∙ seen in
      ap (λ (x : Seen). is_open (kept_successor x (Some a))) (sym first) ∙ ap (λ (o : Option Kept). is_open (kept_successor (spot_in k (rest_in v k)).seen o)) (sym e) ∙ here

  -- where the level was closed, and no new answer opens it, it is closed
  pub closed_now : opens_at v.sizes t ≡ false → ((k : ℕ) (a : Kept) → In k v.renewed → In k row → answer_at (now_in v) k ≡ Some a → is_open (string_of a.successor) ≡ false) → AreClosed (kept_successors (now_in v)) row
  closed_now closed new = closed_each (kept_successors (now_in v)) row (λ k i. by k i (answer_at (now_in v) k) refl)
    where
      by : (k : ℕ) → In k row → (o : Option Kept) → answer_at (now_in v) k ≡ o → is_open (kept_successors (now_in v) k) ≡ false
      by k i None e = ap (λ (o : Option Kept). is_open (kept_successor (spot_in k (now_in v k)).seen o)) e ∙ itself_closed (spot_in k (now_in v k)).seen
      by k i (Some a) e =
          ap (λ (o : Option Kept). is_open (kept_successor (spot_in k (now_in v k)).seen o)) e
          ∙ seen_closed (spot_in k (now_in v k)).seen a (elim ((at v t h state).lists.fresh k a e) [
            | inl r ↦ new k a r i e
            | inr old ↦ old_closed closed k a i old
          ])
