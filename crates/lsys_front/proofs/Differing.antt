-- What is told of the children that were made tells how the next level differs.
use Rattle.std.proofs.Common.{◌≡◌, ◌⊎◌, ◌+◌, ℕ, suc, List, [], ◌∷◌, ◌++◌, Some, map, refl, sym, ap, ◌∙◌, subst, arith, inl, inr, add-one}
use Rattle.std.specs.Prelude.{◌↔◌, ℤ}
use Rattle.lsys_spec.specs.Rows.{In, AreApart, flat}
use Rattle.lsys_syntax.specs.Commands.{Numbering}
use Rattle.lsys_syntax.specs.Strings as S
use Rattle.lsys_forest.specs.Nodes.{Node, Nodes}
use Rattle.lsys_forest.specs.Groves.{Grove, IsRooted, now_of, changes_in}
use Rattle.lsys_forest.specs.Rows.{kids_in, kids_below, level_nodes}
use Rattle.lsys_forest.proofs.RowLemmas as rows
use Rattle.lsys_forest.proofs.SoundLemmas.{AreSound-now}
use Rattle.lsys_children.specs.Matches.{nodes_without}
use Rattle.lsys_children.specs.Children.{ToldNodes, KeepsChildren}
use Rattle.lsys_match.specs.Kept.{Kept}
use Rattle.lsys_reads.specs.declared.seat.Seat.{Seat}
use Rattle.lsys_forest.specs.Pairs.{seen_at}
use Rattle.lsys_children.specs.Nexts.{Successors}
use Rattle.lsys_children.specs.Renewals.{KeepsDeeper}
use Rattle.lsys_children.proofs.Above.{upper_nodes}
use Rattle.lsys_children.proofs.Depths.{still, on_level}
use Rattle.lsys_children.proofs.Renewing.{keeps_upper}
use Rattle.lsys_children.specs.declared.parent.Parent.{Parent}
use Rattle.lsys_children.specs.Parents.{nodes_in, AreToldBy}
use Rattle.lsys_children.specs.Needs.{number_told, wanted_symbols}
use Rattle.lsys_children.specs.Made.{IsChildOfAny, gone_of}
use Rattle.lsys_front.specs.Repairs.{Repair, SteppingSpots, now, rest, root, were, are}
use Rattle.lsys_front.specs.Found.{LevelChanges, Differs}
use Rattle.lsys_front.proofs.Spots.{sound_old, sound_new}
use Rattle.lsys_front.specs.Fronts.{Differences, IsLevelFront, MakesNext, IsToldNext, IsFirst, IsToldFirst, next_of}
use Rattle.lsys_front.proofs.Rows.{in_flat}
use Rattle.lsys_front.proofs.Steps.{IsStep, lost_at, came_forth, came_back, changed_forth, changed_back, lost_forth, left_forth, gone_back, lost_apart, gone_apart, families_kept}

-- 1. levels

module _ {A : Type 0} where
  -- the nodes of a further level are the children of the nodes of the one before it
  next_is : (m : Nodes A) (root t k : ℕ) → In k (level_nodes m root (t + 1)) ↔ IsChildOfAny m (level_nodes m root t) k
  next_is m root t k = (
    λ i. rows.flat_In (λ p. kids_in (m p)) (level_nodes m root t) k (subst (λ u. In k (level_nodes m root u)) (add-one t) i),
    λ b. subst (λ u. In k (level_nodes m root u)) (sym (add-one t)) (in_flat (λ p. kids_in (m p)) (level_nodes m root t) b.0 k b.1 b.2),
  )

  -- those of the first level are the children of the root
  first_is : (m : Nodes A) (root k : ℕ) → In k (level_nodes m root 0) ↔ IsChildOfAny m (root ∷ []) k
  first_is m root k = (λ i. (root, inl refl, i), λ b. back b.0 b.1 b.2)
    where
      back : (p : ℕ) → In p (root ∷ []) → In k (kids_in (m p)) → In k (kids_in (m root))
      back p (inl e) i = subst (λ q. In k (kids_in (m q))) e i
      back p (inr none) i = absurd none

-- 2. what is told of the gone ones

gone_is : (g : Numbering) (m : Nodes Kept) (by : Successors) (ps : List Parent) → AreToldBy by m ps → gone_of g m ps ≡ flat (lost_at g m by) (nodes_in ps)
gone_is g m by [] told = refl
gone_is g m by (p ∷ ps) told =
    ap (λ (zs : List (S.Symbol ℤ)). nodes_without m (map number_told (wanted_symbols g zs)) (kids_in (m p.node)) ++ gone_of g m ps) (sym told.0)
    ∙ ap (λ (l : List ℕ). lost_at g m by p.node ++ l) (gone_is g m by ps told.1)

-- 3. the next level

module _ (r : Repair) (seats : List Seat) (d : Differences) (h : Grove Kept) (by : Successors) (ps : List Parent) (told : ToldNodes)
    (s : SteppingSpots r) (deeper : KeepsDeeper (rest r) (now r) (r.level + 1)) (f : IsLevelFront r seats d) (x : MakesNext r h by ps told) where
  step : IsStep r.new.numbering r.new.seed (rest r) (now r) (now_of h) (root r) (r.level + 1) by (nodes_in ps) (were r) (are r)
  step = record {
    before = changes_in r.forest;
    after = changes_in h;
    rested = sound_old r s;
    sound = sound_new r s;
    sound_now = subst (λ u. IsRooted u (changes_in h) (now_of h)) x.root (AreSound-now h.root (changes_in h) (now_of h) x.sound);
    stay = s.stay;
    deeper = deeper;
    renewals = x.renewals;
    were = rows.level_depth (root r) [] (rest r) (sound_old r s) r.level;
    are = rows.level_depth (root r) (changes_in r.forest) (now r) (sound_new r s) r.level;
    all = λ k n e t. rows.flat_In (λ p. kids_in (rest r p)) (were r) k (on_level (root r) (rest r) (sound_old r s) (suc r.level) k n e (omega (arith, t)));
    among = x.parents;
  }

  same_level : level_nodes (now_of h) h.root r.level ≡ are r
  same_level =
      ap (λ u. level_nodes (now_of h) u r.level) x.root
      ∙ upper_nodes (root r) (changes_in r.forest) (now r) (now_of h) (sound_new r s) r.level (keeps_upper r.new.numbering r.new.seed (now r) (now_of h) (root r) (r.level + 1) by (nodes_in ps) x.renewals) r.level (omega arith)

  -- who is on the next level, and who was
  now_is : (k : ℕ) → In k (are (next_of r h)) ↔ IsChildOfAny (now_of h) (are r) k
  now_is k =
      let e = next_is (now_of h) h.root r.level k in
      (λ i. subst (λ vs. IsChildOfAny (now_of h) vs k) same_level (e.0 i), λ b. e.1 (subst (λ vs. IsChildOfAny (now_of h) vs k) (sym same_level) b))

  was_is : (k : ℕ) → In k (were (next_of r h)) ↔ IsChildOfAny (rest r) (were r) k
  was_is k =
      let e = next_is (rest r) (root r) r.level k in
      let same : were (next_of r h) ≡ level_nodes (rest r) (root r) (r.level + 1) = λ i. level_nodes (x.rest i) (x.root i) (r.level + 1) in
      (λ i. e.0 (subst (In k) same i), λ b. subst (In k) (sym same) (e.1 b))

  pub kept_families : (q : ℕ) → In q (level_nodes (now_of h) h.root r.level) → In q (told.touched ++ d.changes.came) ⊎ (In q (were r) × KeepsChildren (rest r) (now_of h) q)
  kept_families q i =
      families_kept step told.touched d.changes.came
      (λ k t. (x.tells.touched k).1 (inr t)) (λ k j out. (f.differs.came k).1 (j, out)) q (subst (In q) same_level i)

  module _ (c : LevelChanges) (t : IsToldNext h d told c) where
    gone_told : c.gone ≡ flat (lost_at r.new.numbering (now r) by) (nodes_in ps) ++ kids_below (now_of h) d.changes.gone
    gone_told = t.gone ∙ ap (λ (l : List ℕ). l ++ kids_below (now_of h) d.changes.gone) (x.gone ∙ gone_is r.new.numbering (now r) by ps x.wants)

    pub gone_each : AreApart c.gone
    gone_each =
        subst AreApart (sym gone_told)
        (gone_apart step d.changes.gone x.apart f.gone_once
        (λ p i. ((f.differs.gone p).0 i).1))

    came_is : (k : ℕ) → In k c.came ↔ (In k (are (next_of r h)) × (In k (were (next_of r h)) → ⊥))
    came_is k = (forth, back)
      where
        forth : In k c.came → In k (are (next_of r h)) × (In k (were (next_of r h)) → ⊥)
        forth i = elim ((x.tells.added k).0 (subst (In k) t.came i)) [
          | inl none ↦ absurd none
          | inr u ↦
              let v = came_forth step k u in
              ((now_is k).1 v.0, λ w. v.1 ((was_is k).0 w))
        ]

        back : In k (are (next_of r h)) × (In k (were (next_of r h)) → ⊥) → In k c.came
        back u =
            subst (In k) (sym t.came) ((x.tells.added k).1 (inr
            (came_back step k ((now_is k).0 u.0, λ w. u.1 ((was_is k).1 w)))))

    -- symbols as of the last rest
    seen_rest : (k : ℕ) → seen_at (rest (next_of r h)) k ≡ seen_at (rest r) k
    seen_rest k = ap (λ (m : Nodes Kept). seen_at m k) x.rest

    changed_is : (k : ℕ) → In k c.changed ↔ (In k (are (next_of r h)) × In k (were (next_of r h)) × (seen_at (now_of h) k ≡ seen_at (rest (next_of r h)) k → ⊥))
    changed_is k = (forth, back)
      where
        forth : In k c.changed → In k (are (next_of r h)) × In k (were (next_of r h)) × (seen_at (now_of h) k ≡ seen_at (rest (next_of r h)) k → ⊥)
        forth i = elim ((x.tells.changed k).0 (subst (In k) t.changed i)) [
          | inl none ↦ absurd none
          | inr u ↦
              let v = changed_forth step k u in
              ((now_is k).1 v.0, (was_is k).1 v.1, λ e. v.2 (e ∙ seen_rest k))
        ]

        back : In k (are (next_of r h)) × In k (were (next_of r h)) × (seen_at (now_of h) k ≡ seen_at (rest (next_of r h)) k → ⊥) → In k c.changed
        back u =
            subst (In k) (sym t.changed) ((x.tells.changed k).1 (inr
            (changed_back step k
            ((now_is k).0 u.0, (was_is k).0 u.1, λ e. u.2 (e ∙ sym (seen_rest k))))))

    gone_are : (k : ℕ) → In k c.gone ↔ (In k (were (next_of r h)) × (In k (are (next_of r h)) → ⊥))
    gone_are k = (λ i. forth (rows.In_append losts lefts k (subst (In k) gone_told i)), back)
      where
        losts : List ℕ
        losts = flat (lost_at r.new.numbering (now r) by) (nodes_in ps)

        lefts : List ℕ
        lefts = kids_below (now_of h) d.changes.gone

        away : IsChildOfAny (rest r) (were r) k × (IsChildOfAny (now_of h) (are r) k → ⊥) → In k (were (next_of r h)) × (In k (are (next_of r h)) → ⊥)
        away v = ((was_is k).1 v.0, λ w. v.1 ((now_is k).0 w))

        forth : In k (flat (lost_at r.new.numbering (now r) by) (nodes_in ps)) ⊎ In k (kids_below (now_of h) d.changes.gone) → In k (were (next_of r h)) × (In k (are (next_of r h)) → ⊥)
        forth (inl i) =
            let u = rows.flat_In (lost_at r.new.numbering (now r) by) (nodes_in ps) k i in
            away (lost_forth step u.0 k u.1 u.2)
        forth (inr i) =
            let u = rows.flat_In (λ p. kids_in (now_of h p)) d.changes.gone k i in
            let v = (f.differs.gone u.0).0 u.1 in
            away (left_forth step u.0 k v.0 v.1 u.2)

        back : In k (were (next_of r h)) × (In k (are (next_of r h)) → ⊥) → In k c.gone
        back u =
            subst (In k) (sym gone_told) (elim (gone_back step k ((was_is k).0 u.0, λ b. u.1 ((now_is k).1 b))) [
              | inl v ↦ rows.In_left k losts lefts (in_flat (lost_at r.new.numbering (now r) by) (nodes_in ps) v.0 k v.1 v.2)
              | inr v ↦ rows.In_right k losts lefts (in_flat (λ p. kids_in (now_of h p)) d.changes.gone v.0 k ((f.differs.gone v.0).1 v.1) v.2)
            ])

    pub next_differs : Differs (next_of r h) c
    next_differs = record { came = came_is; gone = gone_are; changed = changed_is }

-- 4. the first level

module _ (r : Repair) (by : Successors) (told : ToldNodes) (c : LevelChanges) (s : SteppingSpots r) (x : IsFirst r by told) (t : IsToldFirst told c) where
  -- the only node above it
  abbrev top : List ℕ
  top = root r ∷ []

  on_top : (p : ℕ) → In p top → (n : Node Kept) × (rest r p ≡ Some n) × (n.depth ≡ 0)
  on_top p (inl e) = let l = (sound_old r s).root_lives in (l.0, ap (rest r) e ∙ l.1, l.2)
  on_top p (inr none) = absurd none

  first_step : IsStep r.new.numbering r.new.seed (rest r) (rest r) (now r) (root r) 0 by top top top
  first_step = record {
    before = [];
    after = changes_in r.forest;
    rested = sound_old r s;
    sound = sound_old r s;
    sound_now = sound_new r s;
    stay = λ k n e. e;
    deeper = still (rest r) 0;
    renewals = x.renewals;
    were = on_top;
    are = on_top;
    all = λ k n e d. (root r, inl refl, on_level (root r) (rest r) (sound_old r s) 0 k n e d);
    among = λ p i. i;
  }

  first_now : (k : ℕ) → In k (are r) ↔ IsChildOfAny (now r) top k
  first_now k = subst (λ u. In k (level_nodes (now r) (root r) u) ↔ IsChildOfAny (now r) top k) (sym x.level) (first_is (now r) (root r) k)

  first_was : (k : ℕ) → In k (were r) ↔ IsChildOfAny (rest r) top k
  first_was k = subst (λ u. In k (level_nodes (rest r) (root r) u) ↔ IsChildOfAny (rest r) top k) (sym x.level) (first_is (rest r) (root r) k)

  first_gone : c.gone ≡ lost_at r.new.numbering (rest r) by (root r)
  first_gone =
      t.gone ∙ x.gone
      ∙ ap (λ (zs : List (S.Symbol ℤ)). nodes_without (rest r) (map number_told (wanted_symbols r.new.numbering zs)) (kids_in (rest r (root r)))) (sym x.«axiom»)

  pub first_gone_each : AreApart c.gone
  first_gone_each = subst AreApart (sym first_gone) (lost_apart first_step (root r))

  first_came : (k : ℕ) → In k c.came ↔ (In k (are r) × (In k (were r) → ⊥))
  first_came k = (forth, back)
    where
      forth : In k c.came → In k (are r) × (In k (were r) → ⊥)
      forth i = elim ((x.tells.added k).0 (subst (In k) t.came i)) [
        | inl none ↦ absurd none
        | inr u ↦ let v = came_forth first_step k u in ((first_now k).1 v.0, λ w. v.1 ((first_was k).0 w))
      ]

      back : In k (are r) × (In k (were r) → ⊥) → In k c.came
      back u = subst (In k) (sym t.came) ((x.tells.added k).1 (inr (came_back first_step k ((first_now k).0 u.0, λ w. u.1 ((first_was k).1 w)))))

  first_changed : (k : ℕ) → In k c.changed ↔ (In k (are r) × In k (were r) × (seen_at (now r) k ≡ seen_at (rest r) k → ⊥))
  first_changed k = (forth, back)
    where
      forth : In k c.changed → In k (are r) × In k (were r) × (seen_at (now r) k ≡ seen_at (rest r) k → ⊥)
      forth i = elim ((x.tells.changed k).0 (subst (In k) t.changed i)) [
        | inl none ↦ absurd none
        | inr u ↦ let v = changed_forth first_step k u in ((first_now k).1 v.0, (first_was k).1 v.1, v.2)
      ]

      back : In k (are r) × In k (were r) × (seen_at (now r) k ≡ seen_at (rest r) k → ⊥) → In k c.changed
      back u = subst (In k) (sym t.changed) ((x.tells.changed k).1 (inr (changed_back first_step k ((first_now k).0 u.0, (first_was k).0 u.1, u.2))))

  first_gone_are : (k : ℕ) → In k c.gone ↔ (In k (were r) × (In k (are r) → ⊥))
  first_gone_are k = (forth, back)
    where
      forth : In k c.gone → In k (were r) × (In k (are r) → ⊥)
      forth i =
          let v = lost_forth first_step (root r) k (inl refl) (subst (In k) first_gone i) in
          ((first_was k).1 v.0, λ w. v.1 ((first_now k).0 w))

      lost : (p : ℕ) → In p top → In k (lost_at r.new.numbering (rest r) by p) → In k (lost_at r.new.numbering (rest r) by (root r))
      lost p (inl e) i = subst (λ q. In k (lost_at r.new.numbering (rest r) by q)) e i
      lost p (inr none) i = absurd none

      back : In k (were r) × (In k (are r) → ⊥) → In k c.gone
      back u =
          subst (In k) (sym first_gone) (elim (gone_back first_step k ((first_was k).0 u.0, λ b. u.1 ((first_now k).1 b))) [
            | inl v ↦ lost v.0 v.1 v.2
            | inr v ↦ absurd (v.1.1 v.1.0)
          ])

  pub first_differs : Differs r c
  first_differs = record { came = first_came; gone = first_gone_are; changed = first_changed }
