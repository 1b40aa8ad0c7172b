-- What is wanted of the nodes of a level, one after the other.
use Rattle.std.proofs.Common.{◌≡◌, ◌≢◌, ◌⊎◌, ◌+◌, ℕ, Bool, true, false, cond, Option, Some, None, List, [], ◌∷◌, refl, sym, ap, ◌∙◌, subst, arith, inl, inr}
use Rattle.std.specs.Prelude.{ℤ, nat_eq}
use Rattle.std.proofs.lemmas.Grind.{common_steps}
use Rattle.std.proofs.lemmas.Option.{none-some, same_Some}
use Rattle.lsys_spec.specs.Rows.{In, AreApart}
use Rattle.lsys_syntax.specs.Commands.{Numbering}
use Rattle.lsys_syntax.specs.Strings as S
use Rattle.lsys_laws.specs.Kinds.{BracketKind, Opens, Closes, Neither, reached}
use Rattle.lsys_laws.specs.Children.{is_open}
use Rattle.lsys_level.specs.Spots.{Spotted}
use Rattle.lsys_forest.specs.Nodes.{Node, Nodes}
use Rattle.lsys_forest.specs.Changes.{Change}
use Rattle.lsys_forest.specs.Groves.{IsRooted}
use Rattle.lsys_forest.specs.Rows.{kids_in, spot_in, level_nodes}
use Rattle.lsys_forest.proofs.RowLemmas as rows
use Rattle.lsys_children.specs.Children.{bracket_kind}
use Rattle.lsys_children.specs.Nexts.{Successors, node_kind, wanted_after, HasWanted, HaveWanted, AreClosed, wanted_in}
use Rattle.lsys_children.specs.Renewals.{Renewal, stayed, relisted, turned, came, AreRenewals}
use Rattle.lsys_children.proofs.Above.{name_stays, upper_nodes}
use Rattle.lsys_children.proofs.Wants.{wanted_stays}
use Rattle.lsys_children.proofs.Renewing.{keeps_upper, in_cases}

pub same_yes : (k : ℕ) → nat_eq k k ≡ true
same_yes k = grind (arith, common_steps)

pub same_not : (k j : ℕ) → k ≢ j → nat_eq k j ≡ false
same_not k j ne = grind (arith, common_steps, ne)

pub none_reached : (kind : BracketKind) (b : Bool) → b ≡ false → reached None kind b ≡ None
none_reached Opens b e = refl
none_reached Closes b e = refl
none_reached Neither true e = cc
none_reached Neither false e = refl

closed_same : (by succ : Successors) (ks : List ℕ) → ((k : ℕ) → In k ks → by k ≡ succ k) → AreClosed by ks → AreClosed succ ks
closed_same by succ [] is closed = tt
closed_same by succ (k ∷ ks) is closed = (ap is_open (sym (is k (inl refl))) ∙ closed.0, closed_same by succ ks (λ j i. is j (inr i)) closed.1)

module _ {A : Type 0} where
  pub alone : (g : Numbering) (seed : ℕ) (m : Nodes A) (by : Successors) (ks : List ℕ) → AreClosed by ks → ((k : ℕ) → In k ks → HasWanted g seed m k (by k)) → HaveWanted g seed m by None ks
  alone g seed m by [] closed h = tt
  alone g seed m by (k ∷ ks) closed h =
      (h k (inl refl), subst (λ o. HaveWanted g seed m by o ks) (sym (none_reached (node_kind m k) (is_open (by k)) closed.0)) (alone g seed m by ks closed.1 (λ j i. h j (inr i))))

  pub walk : (g : Numbering) (seed : ℕ) (m : Nodes A) (by : Successors) (o : Option ℕ) (ks : List ℕ) → AreApart ks → ((k : ℕ) → In k ks → HasWanted g seed m k (wanted_in m by o ks k)) → HaveWanted g seed m by o ks
  walk g seed m by o [] apart h = tt
  walk g seed m by o (k ∷ ks) apart h = (
    subst (HasWanted g seed m k) (ap (λ b. cond b (wanted_after o (node_kind m k) (by k)) (wanted_in m by (reached o (node_kind m k) (is_open (by k))) ks k)) (same_yes k)) (h k (inl refl)),
    walk g seed m by (reached o (node_kind m k) (is_open (by k))) ks apart.1 (λ j i.
        subst (HasWanted g seed m j) (ap (λ b. cond b (wanted_after o (node_kind m k) (by k)) (wanted_in m by (reached o (node_kind m k) (is_open (by k))) ks j)) (same_not j k (λ e. apart.0 (subst (λ x. In x ks) e i)))) (h j (inr i))),
  )

  -- and so has each of them
  pub each_alone : (g : Numbering) (seed : ℕ) (m : Nodes A) (by : Successors) (ks : List ℕ) → AreClosed by ks → HaveWanted g seed m by None ks → (k : ℕ) → In k ks → HasWanted g seed m k (by k)
  each_alone g seed m by [] closed h k i = absurd i
  each_alone g seed m by (j ∷ js) closed h k (inl e) = subst (λ k. HasWanted g seed m k (by k)) (sym e) h.0
  each_alone g seed m by (j ∷ js) closed h k (inr i) =
      each_alone g seed m by js closed.1 (subst (λ o. HaveWanted g seed m by o js) (none_reached (node_kind m j) (is_open (by j)) closed.0) h.1) k i

  wanted_same : (old new : Nodes A) (by : Successors) (o : Option ℕ) (ks : List ℕ) (k : ℕ) → ((j : ℕ) → In j ks → spot_in j (new j) ≡ spot_in j (old j)) → wanted_in new by o ks k ≡ wanted_in old by o ks k
  wanted_same old new by o [] k h = refl
  wanted_same old new by o (j ∷ js) k h =
      let kind : node_kind new j ≡ node_kind old j = ap (λ (s : Spotted). bracket_kind s.seen) (h j (inl refl)) in
      ap (λ b. cond (nat_eq k j) (wanted_after o b (by j)) (wanted_in new by (reached o b (is_open (by j))) js k)) kind
      ∙ ap (λ zs. cond (nat_eq k j) (wanted_after o (node_kind old j) (by j)) zs) (wanted_same old new by (reached o (node_kind old j) (is_open (by j))) js k (λ i l. h i (inr l)))

  -- the children of a parent whose turn has not come stay
  pub kids_stay : (root : ℕ) (changes : List (Change A)) (g : Numbering) (seed : ℕ) (old new : Nodes A) (depth : ℕ) (by : Successors) (done : List ℕ) (k : ℕ) (n : Node A) → IsRooted root changes old
      → AreRenewals g seed old new root depth by done → (In k done → ⊥) → old k ≡ Some n → n.depth ≡ depth → (j : ℕ) → In j n.kids → new j ≡ old j
  kids_stay root changes g seed old new depth by done k n sound h out is deep j i = go (h.each j)
    where
      u : rows.IsChild old k j
      u = rows.child root changes old sound k j (subst (λ o. In j (kids_in o)) (sym is) i)

      go : Renewal old new depth done j → new j ≡ old j
      go (stayed f) = f
      go (relisted x ls l o d f) =
          let own = ap (λ (y : Node A). y.depth) (same_Some x u.node (sym o ∙ u.is)) in
          let above = ap (λ (y : Node A). y.depth) (same_Some n u.above (sym is ∙ u.above_is)) in absurd (omega (arith, own, above, u.depth, d, deep))
      go (turned x v l o d f) = absurd (out (subst (λ q. In q done) (ap (λ (y : Node A). y.parent) (same_Some x u.node (sym o ∙ u.is)) ∙ u.parent_is) l))
      go (came q v l o f) = absurd (none-some u.node (sym o ∙ u.is))

  -- a parent whose children were not renewed
  unlisted : (root : ℕ) (changes : List (Change A)) (g : Numbering) (seed : ℕ) (old new : Nodes A) (depth : ℕ) (by : Successors) (done : List ℕ) (k : ℕ) (n : Node A) (zs : List (S.Symbol ℤ)) → IsRooted root changes old
      → AreRenewals g seed old new root depth by done → (In k done → ⊥) → old k ≡ Some n → n.depth ≡ depth → HasWanted g seed old k zs → HasWanted g seed new k zs
  unlisted root changes g seed old new depth by done k n zs sound h out is deep w =
      wanted_stays g seed old new k zs (list (h.each k)) (name_stays old new root k n h.was_once h.stay is) (λ j i. ap (spot_in j) (kids_stay root changes g seed old new depth by done k n sound h out is deep j (subst (λ o. In j (kids_in o)) is i)))
      (λ j i. (let u = rows.child root changes old sound k j i in name_stays old new root j u.node h.was_once h.stay u.is)) w
    where
      list : Renewal old new depth done k → kids_in (new k) ≡ kids_in (old k)
      list (stayed f) = ap (λ o. kids_in o) f
      list (relisted x ls i o d f) = absurd (out i)
      list (turned x v i o d f) = let same = ap (λ (y : Node A). y.depth) (same_Some n x (sym is ∙ o)) in absurd (omega (arith, same, d, deep))
      list (came q v i o f) = absurd (none-some n (sym o ∙ is))

  module _ (root : ℕ) (changes : List (Change A)) (g : Numbering) (seed : ℕ) (old new : Nodes A) (t : ℕ) (by : Successors) (done : List ℕ) (sound : IsRooted root changes old)
      (h : AreRenewals g seed old new root (t + 1) by done) (each : (k : ℕ) → In k (level_nodes old root t) → In k done ⊎ HasWanted g seed old k (by k)) where
    all_wanted : (k : ℕ) → In k (level_nodes old root t) → HasWanted g seed new k (by k)
    all_wanted k i = elim (in_cases k done) [
      | inl l ↦ h.wanted k l
      | inr out ↦ elim (each k i) [
        | inl l ↦ h.wanted k l
        | inr w ↦ let d = rows.level_depth root changes old sound t k i in unlisted root changes g seed old new (t + 1) by done k d.0 (by k) sound h out d.1 d.2 w
      ]
    ]

    same_nodes : level_nodes new root t ≡ level_nodes old root t
    same_nodes = upper_nodes root changes old new sound t (keeps_upper g seed old new root (t + 1) by done h) t (omega arith)

    pub level_alone : (succ : Successors) → ((k : ℕ) → In k (level_nodes old root t) → by k ≡ succ k) → AreClosed by (level_nodes old root t) → HaveWanted g seed new succ None (level_nodes new root t)
    level_alone succ is closed = subst (HaveWanted g seed new succ None) (sym same_nodes)
        (alone g seed new succ (level_nodes old root t) (closed_same by succ (level_nodes old root t) is closed) (λ k i. subst (HasWanted g seed new k) (is k i) (all_wanted k i)))

    pub level_walked : (succ : Successors) → ((k : ℕ) → by k ≡ wanted_in old succ None (level_nodes old root t) k) → HaveWanted g seed new succ None (level_nodes new root t)
    level_walked succ is = subst (HaveWanted g seed new succ None) (sym same_nodes)
        (walk g seed new succ None (level_nodes old root t) (rows.level_apart root changes old sound t)
        (λ k i. subst (HasWanted g seed new k) (is k ∙ sym (wanted_same old new succ None (level_nodes old root t) k spots)) (all_wanted k i)))
      where
        spots : (j : ℕ) → In j (level_nodes old root t) → spot_in j (new j) ≡ spot_in j (old j)
        spots j i =
            let d = rows.level_depth root changes old sound t j i in
            let e : d.0.depth ≡ t + 1 = d.2 in (keeps_upper g seed old new root (t + 1) by done h).spots j d.0 d.1 (omega (arith, e))
