-- The children of parents, made where room was made for them.
use Rattle.std.proofs.Common.{◌≡◌, ◌+◌, ◌<◌, ◌≤◌, ◌^◌, ℕ, List, [], sym, ap, ◌∙◌, subst, inl, inr, arith}
use Rattle.std.specs.Prelude.{◌++◌}
use Rattle.lsys_spec.specs.Rows.{In, mirrored}
use Rattle.lsys_syntax.specs.Commands.{Numbering}
use Rattle.lsys_match.specs.Kept.{Kept}
use Rattle.lsys_forest.specs.Nodes.{Nodes}
use Rattle.lsys_forest.specs.Changes.{Change, undone}
use Rattle.lsys_forest.specs.Answers.{answers}
use Rattle.lsys_forest.specs.Groves.{Grove, IsRooted, AreSound, now_of, rest_of, changes_in, kept_in, live_nodes}
use Rattle.lsys_forest.proofs.RowLemmas.{mirrored_In}
use Rattle.lsys_forest.proofs.SoundLemmas.{AreSound-now}
use Rattle.lsys_children.specs.declared.need.Need.{Need}
use Rattle.lsys_children.specs.Children.{ToldNodes, HasRoomFor}
use Rattle.lsys_children.specs.Nexts.{Successors}
use Rattle.lsys_children.specs.Renewals.{Renewal, stayed, relisted, turned, came, AreRenewals}
use Rattle.lsys_children.specs.declared.parent.Parent.{Parent}
use Rattle.lsys_children.specs.Parents.{nodes_in, AreParents, HasParents, AreToldBy}
use Rattle.lsys_children.specs.Needs.{needs}
use Rattle.lsys_children.specs.Made.{IsChildOfAny, TellsAllOf, gone_of}
use Rattle.lsys_children.proofs.Among.{unmirrored}
use Rattle.lsys_front.specs.Fronts.{nothing}
use Rattle.lsys_pass.specs.Beginnings.{KeepsNodes}
use Rattle.lsys_pass.specs.Made.{KeepsAnswers, MakesBelow}

-- 1. in whatever order the parents are told

module _ (ks js : List ℕ) (to : (k : ℕ) → In k ks → In k js) (from : (k : ℕ) → In k js → In k ks) where
  renewal_of : (m m' : Nodes Kept) (depth k : ℕ) → Renewal m m' depth ks k → Renewal m m' depth js k
  renewal_of m m' depth k (stayed e) = stayed e
  renewal_of m m' depth k (relisted n ls i o d e) = relisted n ls (to k i) o d e
  renewal_of m m' depth k (turned n w i o d e) = turned n w (to n.parent i) o d e
  renewal_of m m' depth k (came p w i o e) = came p w (to p i) o e

  renewals_of : (g : Numbering) (seed : ℕ) (m m' : Nodes Kept) (root depth : ℕ) (by : Successors) → AreRenewals g seed m m' root depth by ks → AreRenewals g seed m m' root depth by js
  renewals_of g seed m m' root depth by h = record {
    small = h.small;
    was_once = h.was_once;
    once = h.once;
    stay = h.stay;
    parents = λ k i. h.parents k (from k i);
    each = λ k. renewal_of m m' depth k (h.each k);
    wanted = λ k i. h.wanted k (from k i);
  }

  below_of : (m : Nodes Kept) (k : ℕ) → IsChildOfAny m ks k → IsChildOfAny m js k
  below_of m k b = (b.0, to b.0 b.1, b.2)

module _ (ks : List ℕ) where
  straight : (k : ℕ) → In k (mirrored ks) → In k ks
  straight k i = unmirrored ks k i

  mirror : (k : ℕ) → In k ks → In k (mirrored ks)
  mirror k i = mirrored_In k ks i

  -- nothing was told before
  told_of : (m m' : Nodes Kept) (before after : ToldNodes) → before.touched ≡ [] → before.changed ≡ [] → before.added ≡ [] → TellsAllOf m m' (mirrored ks) before after → TellsAllOf m m' ks nothing after
  told_of m m' before after t c a h = record {
    touched = λ k. (
      λ i. elim ((h.touched k).0 i) [ inl j ↦ inl (subst (In k) t j) | inr p ↦ inr (straight k p.0, p.1) ],
      λ s. elim s [ inl none ↦ absurd none | inr p ↦ (h.touched k).1 (inr (mirror k p.0, p.1)) ],
    );
    changed = λ k. (
      λ i. elim ((h.changed k).0 i) [ inl j ↦ inl (subst (In k) c j) | inr p ↦ inr (below_of (mirrored ks) ks straight mirror m' k p.0, p.1) ],
      λ s. elim s [ inl none ↦ absurd none | inr p ↦ (h.changed k).1 (inr (below_of ks (mirrored ks) mirror straight m' k p.0, p.1)) ],
    );
    added = λ k. (
      λ i. elim ((h.added k).0 i) [ inl j ↦ inl (subst (In k) a j) | inr p ↦ inr (below_of (mirrored ks) ks straight mirror m' k p.0, p.1) ],
      λ s. elim s [ inl none ↦ absurd none | inr p ↦ (h.added k).1 (inr (below_of ks (mirrored ks) mirror straight m' k p.0, p.1)) ],
    );
  }

-- 2. the forest with more room

module _ (f f' : Grove Kept) (same : KeepsNodes f f') where
  pub roomy_sound : AreSound f.root (changes_in f) (now_of f) → AreSound f'.root (changes_in f') (now_of f')
  roomy_sound h =
      subst (λ r. AreSound r (changes_in f') (now_of f')) (sym same.root)
      (subst (λ (cs : List (Change Kept)). AreSound f.root cs (now_of f')) (sym same.changes) (subst (λ (m : Nodes Kept). AreSound f.root (changes_in f) m) (sym same.now) h))

  pub roomy_is_sound : AreSound f.root (changes_in f) (now_of f) → IsRooted f'.root (changes_in f') (now_of f')
  roomy_is_sound h = AreSound-now f'.root (changes_in f') (now_of f') (roomy_sound h)

  pub roomy_parents : (ks : List ℕ) → HasParents (now_of f) f.root ks → HasParents (now_of f') f'.root ks
  roomy_parents ks h = subst (λ r. HasParents (now_of f') r ks) (sym same.root) (subst (λ (m : Nodes Kept). HasParents m f.root ks) (sym same.now) h)

  same_needs : (g g' : Numbering) (ps : List Parent) → g ≡ g' → needs g (now_of f') ps ≡ needs g' (now_of f) ps
  same_needs g g' ps e = ap (λ (m : Nodes Kept). needs g m ps) same.now ∙ ap (λ (n : Numbering). needs n (now_of f) ps) e

  pub room_for : (g g' : Numbering) (need : Need) (ps : List Parent) (t : ToldNodes) → g ≡ g' → need ≡ needs g' (now_of f) ps → HasRoomFor f' t need → HasRoomFor f' t (needs g (now_of f') ps)
  room_for g g' need ps t e is h = subst (HasRoomFor f' t) (is ∙ sym (same_needs g g' ps e)) h

  rest_same : rest_of f' ≡ rest_of f
  rest_same = λ i. undone (same.changes i) (same.now i)

  kept_same : kept_in f' ≡ kept_in f
  kept_same = λ i. answers (same.now i) (same.changes i)

  -- nothing was made
  pub keeps_roomy : AreSound f.root (changes_in f) (now_of f) → live_nodes f < 2 ^ 32 → KeepsAnswers f f'
  keeps_roomy sound few = record {
    rest = rest_same;
    root = same.root;
    kept = kept_same;
    sound = roomy_sound sound;
    few = (let live = same.live in omega (arith, live, few));
  }

  -- 3. then the children were made, or some of them

  pub keeps_made : (h : Grove Kept) (g g' : Numbering) (need : Need) (ps : List Parent) → g ≡ g' → need ≡ needs g' (now_of f) ps → live_nodes f' + need.nodes < 2 ^ 32
      → live_nodes h ≤ live_nodes f' + (needs g (now_of f') ps).nodes → rest_of h ≡ rest_of f' → h.root ≡ f'.root → kept_in h ≡ kept_in f' → AreSound h.root (changes_in h) (now_of h) → KeepsAnswers f h
  keeps_made h g g' need ps e is few live rest root kept sound = record {
    rest = rest ∙ rest_same;
    root = root ∙ same.root;
    kept = kept ∙ kept_same;
    sound = sound;
    few = (let n = ap (λ (n : Need). n.nodes) (is ∙ sym (same_needs g g' ps e)) in omega (arith, n, few, live));
  }

  pub makes_below : (h : Grove Kept) (g g' : Numbering) (ps : List Parent) (before after : ToldNodes) → g ≡ g' → before.touched ≡ [] → before.changed ≡ [] → before.added ≡ [] → before.gone ≡ []
      → ((seed depth : ℕ) (by : Successors) → AreParents seed depth (now_of f') f'.root (nodes_in ps) → AreToldBy by (now_of f') ps → AreRenewals g seed (now_of f') (now_of h) f'.root depth by (mirrored (nodes_in ps)))
      → TellsAllOf (now_of f') (now_of h) (mirrored (nodes_in ps)) before after → after.gone ≡ before.gone ++ gone_of g (now_of f') ps → MakesBelow g' f h ps after
  makes_below h g g' ps before after e t c a none renewals tells gone = record {
    renewals = λ seed depth by are told.
        let made = renewals seed depth by (subst (λ r. AreParents seed depth (now_of f') r (nodes_in ps)) (sym same.root) (subst (λ (m : Nodes Kept). AreParents seed depth m f.root (nodes_in ps)) (sym same.now) are))
        (subst (λ (m : Nodes Kept). AreToldBy by m ps) (sym same.now) told) in
        let here = subst (λ r. AreRenewals g seed (now_of f) (now_of h) r depth by (mirrored (nodes_in ps))) same.root (subst (λ (m : Nodes Kept). AreRenewals g seed m (now_of h) f'.root depth by (mirrored (nodes_in ps))) same.now made) in
        renewals_of (mirrored (nodes_in ps)) (nodes_in ps) (straight (nodes_in ps)) (mirror (nodes_in ps)) g' seed (now_of f) (now_of h) f.root depth by
        (subst (λ (n : Numbering). AreRenewals n seed (now_of f) (now_of h) f.root depth by (mirrored (nodes_in ps))) e here);
    tells = told_of (nodes_in ps) (now_of f) (now_of h) before after t c a (subst (λ (m : Nodes Kept). TellsAllOf m (now_of h) (mirrored (nodes_in ps)) before after) same.now tells);
    gone = gone ∙ ap (λ (ks : List ℕ). ks ++ gone_of g (now_of f') ps) none ∙ ap (λ (m : Nodes Kept). gone_of g m ps) same.now ∙ ap (λ (n : Numbering). gone_of n (now_of f) ps) e;
  }

-- 4. and then its levels were linked

module _ (f g h : Grove Kept) (same : KeepsNodes g h) where
  pub linked_keeps : KeepsAnswers f g → KeepsAnswers f h
  linked_keeps k =
      let l = keeps_roomy g h same k.sound k.few in
      record {
        rest = l.rest ∙ k.rest;
        root = l.root ∙ k.root;
        kept = l.kept ∙ k.kept;
        sound = l.sound;
        few = l.few;
      }

  pub linked_made : (n : Numbering) (ps : List Parent) (told : ToldNodes) → MakesBelow n f g ps told → MakesBelow n f h ps told
  linked_made n ps told m = record {
    renewals = λ seed depth by are says.
        subst (λ (k : Nodes Kept). AreRenewals n seed (now_of f) k f.root depth by (nodes_in ps)) (sym same.now) (m.renewals seed depth by are says);
    tells = subst (λ (k : Nodes Kept). TellsAllOf (now_of f) k (nodes_in ps) nothing told) (sym same.now) m.tells;
    gone = m.gone;
  }
