-- Brackets that were not looked at have the mates that they had.
use Rattle.std.proofs.Common.{◌≡◌, ◌⊎◌, ℕ, zero, suc, Bool, true, false, cond, List, [], ◌∷◌, ◌++◌, Option, Some, None, refl, sym, ap, ◌∙◌, subst, inl, inr}
use Rattle.lsys_spec.specs.Rows.{In}
use Rattle.lsys_laws.specs.Kinds.{BracketKind, Opens, Closes, Neither, stays, reached}
use Rattle.lsys_laws.specs.Mates.{closing, closer, below, AreMatesAmong, Generation, next_nodes, AreMatesOn, AreMatesBelow, AreMatesFrom, of_module, of_mates}
use Rattle.lsys_laws.proofs.Joints.{in_back, in_middle, in_either}
use Rattle.lsys_laws.proofs.Families.{mates_from, same_in_module, same_of_mates}
use Rattle.lsys_reads.specs.Branches.{IsSameParent, AreLookedMates}

-- the parent of a node of the level below
parent_below : (kind : ℕ → BracketKind) (own : ℕ → List ℕ) (cuts : ℕ → Bool) (o : Option ℕ) (ps : List ℕ) (k : ℕ) → In k (below kind own cuts o ps) → (p : ℕ) × In p ps × In k (own p)
parent_below kind own cuts o [] k i = absurd i
parent_below kind own cuts o (p ∷ ps) k i = by (stays o (kind p)) i (parent_below kind own cuts (reached o (kind p) (cuts p)) ps k)
  where
    later : List ℕ
    later = below kind own cuts (reached o (kind p) (cuts p)) ps

    by : (b : Bool) → In k (cond b (own p) [] ++ later) → (In k later → (p : ℕ) × In p ps × In k (own p)) → (q : ℕ) × In q (p ∷ ps) × In k (own q)
    by true i ih = elim (in_either k (own p) later i) [
      | inl j ↦ (p, inl refl, j)
      | inr j ↦ (let r = ih j in (r.0, inr r.1, r.2))
    ]
    by false i ih = let r = ih i in (r.0, inr r.1, r.2)

-- what ends a branch is a bracket that does, and stands there
pub ended : (kind : ℕ → BracketKind) (n : ℕ) (v : List ℕ) (j : ℕ) → closer kind n v ≡ Some j → In j v × (kind j ≡ Closes)
ended kind n [] j e = cc
ended kind n (x ∷ v) j e = by (kind x) refl n e (λ m h. ended kind m v j h)
  where
    by : (k : BracketKind) → kind x ≡ k → (n : ℕ) → closing k n x (λ m. closer kind m v) ≡ Some j → ((m : ℕ) → closer kind m v ≡ Some j → In j v × (kind j ≡ Closes)) → In j (x ∷ v) × (kind j ≡ Closes)
    by Neither w n e ih = let r = ih n e in (inr r.0, r.1)
    by Opens w n e ih = let r = ih (suc n) e in (inr r.0, r.1)
    by Closes w zero e ih = let f : x ≡ j = cc in (inl (sym f), ap kind (sym f) ∙ w)
    by Closes w (suc n) e ih = let r = ih n e in (inr r.0, r.1)

other_kind : (k : BracketKind) → k ≡ Opens → k ≡ Neither → ⊥
other_kind k e f = cc

other_end : (k : BracketKind) → k ≡ Closes → k ≡ Neither → ⊥
other_end k e f = cc

pub opener_there : (kind : ℕ → BracketKind) (ks : List ℕ) (k j : ℕ) → AreMatesAmong kind ks k j → In k ks
opener_there kind ks k j m = subst (In k) (sym m.whole) (in_middle k m.before m.after)

pub closer_there : (kind : ℕ → BracketKind) (ks : List ℕ) (k j : ℕ) → AreMatesAmong kind ks k j → In j ks
closer_there kind ks k j m = subst (In j) (sym m.whole) (in_back j m.before (k ∷ m.after) (inr (ended kind 0 m.after j m.closes).0))

module _ (old new : Generation) (touched turned looked : List ℕ) (l : AreLookedMates old new touched turned looked) where
  parent_of : (k : ℕ) → In k (next_nodes new) → (p : ℕ) × In p new.nodes × In k (new.own p)
  parent_of k i = parent_below new.kind new.own new.cuts None new.nodes k i

  -- a parent that is the same one is the one from before
  one_parent : (p q k : ℕ) → IsSameParent old new p → In k (new.own p) → In q old.nodes → In k (old.own q) → p ≡ q
  one_parent p q k u i iq ik = l.was.one_parent p q k u.there iq (subst (In k) u.own i) ik

  module_kept : (q k j : ℕ) → IsSameParent old new q → In q new.nodes → old.kind q ≡ Neither → In k (old.own q) → AreMatesBelow old k j → AreMatesBelow new k j
  module_kept q k j u iq neither ik m = same_in_module old new l.was l.is q k j u.there iq neither u.own u.kinds ik (l.all_stay q k iq (subst (In k) (sym u.own) ik)) m

  brackets_kept : (q r k j : ℕ) → IsSameParent old new q → IsSameParent old new r → AreMatesOn old q r → AreMatesOn new q r → In k (old.own q) → AreMatesBelow old k j → AreMatesBelow new k j
  brackets_kept q r k j u v m n ik b =
      same_of_mates old new l.was l.is q r k j m n u.own v.own ik (l.all_stay q k (opener_there new.kind new.nodes q r n) (subst (In k) (sym u.own) ik)) b

  opener_by : (k j p : ℕ) → AreMatesBelow old k j → In p new.nodes → In k (new.own p) → IsSameParent old new p → AreMatesFrom old k j → In k looked ⊎ AreMatesBelow new k j
  opener_by k j p m ip ik u (of_module q iq neither iqk iqj) =
      let same = one_parent p q k u ik iq iqk in
      inr (module_kept q k j (subst (IsSameParent old new) same u) (subst (λ p. In p new.nodes) same ip) neither iqk m)
  opener_by k j p m ip ik u (of_mates q r mates eq er) =
      let iqk : In k (old.own q) = subst (In k) (sym eq) (inl refl) in
      let same = one_parent p q k u ik (opener_there old.kind old.nodes q r mates) iqk in
      let v = subst (IsSameParent old new) same u in
      let iq = subst (λ p. In p new.nodes) same ip in
      elim (l.opens q r mates iq) [
        | inl t ↦ inl (l.branches q k t iq (other_kind (new.kind q) (v.kind ∙ mates.opens)) (subst (λ p. In k (new.own p)) same ik))
        | inr n ↦ elim (l.changed r (closer_there new.kind new.nodes q r n)) [
          | inl t ↦ inl (l.mates q r k n t (subst (λ p. In k (new.own p)) same ik))
          | inr w ↦ inr (brackets_kept q r k j v w mates n iqk m)
        ]
      ]

  closer_by : (k j p : ℕ) → AreMatesBelow old k j → In p new.nodes → In j (new.own p) → IsSameParent old new p → AreMatesFrom old k j → In j looked ⊎ AreMatesBelow new k j
  closer_by k j p m ip ij u (of_module q iq neither iqk iqj) =
      let same = one_parent p q j u ij iq iqj in
      inr (module_kept q k j (subst (IsSameParent old new) same u) (subst (λ p. In p new.nodes) same ip) neither iqk m)
  closer_by k j p m ip ij u (of_mates q r mates eq er) =
      let irj : In j (old.own r) = subst (In j) (sym er) (inl refl) in
      let same = one_parent p r j u ij (closer_there old.kind old.nodes q r mates) irj in
      let v = subst (IsSameParent old new) same u in
      let ir = subst (λ p. In p new.nodes) same ip in
      elim (l.closes q r mates ir) [
        | inl t ↦ inl (l.branches r j t ir (other_end (new.kind r) (v.kind ∙ (ended old.kind 0 mates.after r mates.closes).1)) (subst (λ p. In j (new.own p)) same ij))
        | inr n ↦ elim (l.changed q (opener_there new.kind new.nodes q r n)) [
          | inl t ↦ inl (l.mates_after q r j n t (subst (λ p. In j (new.own p)) same ij))
          | inr w ↦ inr (brackets_kept q r k j w v mates n (subst (In k) (sym eq) (inl refl)) m)
        ]
      ]

  pub opener_looked : (k j : ℕ) → AreMatesBelow old k j → In k (next_nodes new) → In k looked ⊎ AreMatesBelow new k j
  opener_looked k j m i =
      let p = parent_of k i in
      elim (l.changed p.0 p.1) [
        | inl t ↦ inl (l.children p.0 k t p.1 p.2)
        | inr u ↦ opener_by k j p.0 m p.1 p.2 u (mates_from old l.was k j m)
      ]

  pub closer_looked : (k j : ℕ) → AreMatesBelow old k j → In j (next_nodes new) → In j looked ⊎ AreMatesBelow new k j
  closer_looked k j m i =
      let p = parent_of j i in
      elim (l.changed p.0 p.1) [
        | inl t ↦ inl (l.children p.0 j t p.1 p.2)
        | inr u ↦ closer_by k j p.0 m p.1 p.2 u (mates_from old l.was k j m)
      ]

  -- a node of the level below has the kind that it had, or was looked at
  pub kind_looked : (k : ℕ) → In k (next_nodes new) → In k looked ⊎ (new.kind k ≡ old.kind k)
  kind_looked k i =
      let p = parent_of k i in
      elim (l.changed p.0 p.1) [
        | inl t ↦ inl (l.children p.0 k t p.1 p.2)
        | inr u ↦ inr (u.kinds k (subst (In k) u.own p.2))
      ]
