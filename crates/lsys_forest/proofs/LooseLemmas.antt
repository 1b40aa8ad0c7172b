-- How many nodes may be among no children, from change to change.
use Rattle.std.proofs.Common.{◌≡◌, ◌≢◌, ◌+◌, ◌≤◌, ℕ, List, [], ◌∷◌, ◌++◌, length, Option, Some, None, refl, sym, ap, ◌∙◌, arith, inl, inr, subst}
use Rattle.std.specs.Prelude.{IsSome, ◌==◌, true}
use Rattle.std.proofs.lemmas.Bool.{cases_eq}
use Rattle.std.proofs.lemmas.List.{length-append}
use Rattle.std.proofs.lemmas.Option.{none-some, same_Some}
use Rattle.lsys_spec.specs.Rows.{In, AreApart}
use Rattle.lsys_forest.specs.Nodes.{Node, Nodes, with_node, with_kids}
use Rattle.lsys_forest.specs.Changes.{Change}
use Rattle.lsys_forest.specs.Groves.{AreKids, IsRooted}
use Rattle.lsys_forest.specs.Sweeps.{IsFast, IsSwept}
use Rattle.lsys_forest.specs.Loosened.{AreFastBut, AreFewLoose, AreLoose, StaysWithOne}
use Rattle.lsys_forest.proofs.RowLemmas.{In_append, In_left, In_right, In_split}
use Rattle.lsys_forest.proofs.StockLemmas.{put_same, put_other}

pub none_counted : (ks : List ℕ) → (length ks == 0) ≡ true → ks ≡ []
none_counted [] h = refl
none_counted (k ∷ ks) h = absurd (grind (arith, h))

-- some of a list, none twice, and no fewer, are all of it
covers : (xs ys : List ℕ) → AreApart xs → ((k : ℕ) → In k xs → In k ys) → length ys ≤ length xs → (k : ℕ) → In k ys → In k xs
covers [] [] apart some few k h = h
covers [] (y ∷ ys) apart some few k h = absurd (omega (arith, few))
covers (x ∷ xs) ys apart some few k h =
    let s = In_split x ys (some x (inl refl)) in
    let within : (j : ℕ) → In j xs → In j (s.0 ++ s.1) = λ j i. elim (In_append s.0 (x ∷ s.1) j (subst (In j) s.2 (some j (inr i)))) [
      | inl l ↦ In_left j s.0 s.1 l
      | inr r ↦ elim r [ inl e ↦ absurd (apart.0 (subst (λ q. In q xs) e i)) | inr t ↦ In_right j s.0 s.1 t ]
    ] in
    let whole = ap length s.2 in
    let long = length-append s.0 (x ∷ s.1) in
    let short = length-append s.0 s.1 in
    let rest = covers xs (s.0 ++ s.1) apart.1 within (omega (arith, few, whole, long, short)) k in
    elim (In_append s.0 (x ∷ s.1) k (subst (In k) s.2 h)) [
      | inl l ↦ inr (rest (In_left k s.0 s.1 l))
      | inr r ↦ elim r [ inl e ↦ inl e | inr t ↦ inr (rest (In_right k s.0 s.1 t)) ]
    ]

none_in : (loose : List ℕ) (k : ℕ) → length loose ≤ 0 → In k loose → ⊥
none_in [] k few h = h
none_in (x ∷ loose) k few h = absurd (omega (arith, few))

module _ {A : Type 0} where
  -- 1. a node is added

  differs : (m : Nodes A) (k j : ℕ) (n : Node A) → m k ≡ None → m j ≡ Some n → j ≢ k
  differs m k j n vacant is e = none-some n (sym (ap m e ∙ vacant) ∙ is)

  with_one : (m : Nodes A) (root k : ℕ) (new : Node A) (loose : List ℕ) → m k ≡ None → AreFastBut m root loose → AreFastBut (with_node m k (Some new)) root (k ∷ loose)
  with_one m root k new loose vacant fast = λ j n is other. elim (cases_eq j k) [
    | inl e ↦ inr (inl e)
    | inr ne ↦ elim (fast j n (sym (put_other m k j (Some new) ne) ∙ is) other) [
      | inl f ↦ inl (record {
        parent = f.parent;
        is = put_other m k n.parent (Some new) (differs m k n.parent f.parent vacant f.is) ∙ f.is;
        among = f.among;
      })
      | inr among ↦ inr (inr among)
    ]
  ]

  few_with_one : (m : Nodes A) (root k count : ℕ) (new : Node A) → m k ≡ None → AreFewLoose m root count → AreFewLoose (with_node m k (Some new)) root (count + 1)
  few_with_one m root k count new vacant few = record {
    loose = k ∷ few.loose;
    few = omega (arith, few.few);
    others = with_one m root k new few.loose vacant few.others;
  }

  pub loose_with_one : (old new : Option ℕ) (m : Nodes A) (root k : ℕ) (n : Node A) → StaysWithOne old new → m k ≡ None → AreLoose old m root → AreLoose new (with_node m k (Some n)) root
  loose_with_one old None m root k n stays vacant loose = tt
  loose_with_one old (Some count) m root k n stays vacant loose =
      subst (λ c. AreLoose (Some c) (with_node m k (Some n)) root) (sym stays.2)
      (few_with_one m root k stays.0 n vacant (subst (λ o. AreLoose o m root) stays.1 loose))

  -- 2. a node becomes another one, of the same parent

  stood : (m : Nodes A) (k j : ℕ) (old new o : Node A) → m k ≡ Some old → new.parent ≡ old.parent → with_node m k (Some new) j ≡ Some o → (n : Node A) × (m j ≡ Some n) × (o.parent ≡ n.parent)
  stood m k j old new o is same there = elim (cases_eq j k) [
    | inl e ↦ (old, ap m e ∙ is, ap (λ (x : Node A). x.parent) (sym (same_Some new o (sym (put_same m k j (Some new) e) ∙ there))) ∙ same)
    | inr ne ↦ (o, sym (put_other m k j (Some new) ne) ∙ there, refl)
  ]

  stays_fast : (m : Nodes A) (k j : ℕ) (old new o n : Node A) → m k ≡ Some old → o.parent ≡ n.parent → (In j old.kids → In j new.kids) → IsFast m j n → IsFast (with_node m k (Some new)) j o
  stays_fast m k j old new o n is same keeps fast = elim (cases_eq n.parent k) [
    | inl e ↦
        let p : fast.parent ≡ old = same_Some fast.parent old (sym fast.is ∙ ap m e ∙ is) in
        record {
          parent = new;
          is = put_same m k o.parent (Some new) (same ∙ e);
          among = keeps (subst (λ (x : Node A). In j x.kids) p fast.among);
        }
    | inr ne ↦ record {
      parent = fast.parent;
      is = ap (with_node m k (Some new)) same ∙ put_other m k n.parent (Some new) ne ∙ fast.is;
      among = fast.among;
    }
  ]

  fast_set : (m : Nodes A) (root k : ℕ) (old new : Node A) (loose : List ℕ) → m k ≡ Some old → new.parent ≡ old.parent → ((j : ℕ) → In j old.kids → In j new.kids) → AreFastBut m root loose → AreFastBut (with_node m k (Some new)) root loose
  fast_set m root k old new loose is same keeps fast = λ j o there other.
      let s = stood m k j old new o is same there in
      elim (fast j s.0 s.1 other) [
        | inl f ↦ inl (stays_fast m k j old new o s.0 is s.2 (keeps j) f)
        | inr h ↦ inr h
      ]

  -- its symbol, its key or its answer
  pub loose_set : (loose : Option ℕ) (m : Nodes A) (root k : ℕ) (old new : Node A) → m k ≡ Some old → new.parent ≡ old.parent → new.kids ≡ old.kids → AreLoose loose m root → AreLoose loose (with_node m k (Some new)) root
  loose_set None m root k old new is same kids loose = tt
  loose_set (Some count) m root k old new is same kids few = record {
    loose = few.loose;
    few = few.few;
    others = fast_set m root k old new few.loose is same (λ j. subst (In j) (sym kids)) few.others;
  }

  -- 3. children are set

  -- no fewer than were loose, of a node without children: so it is these that were loose
  pub all_beside : (m : Nodes A) (root node count : ℕ) (n : Node A) (kids : List ℕ) → m node ≡ Some n → n.kids ≡ [] → count ≤ length kids → AreKids m root node kids → AreFewLoose m root count → AreFewLoose (with_node m node (Some (with_kids kids n))) root 0
  all_beside m root node count n kids is bare many are few = record {
    loose = [];
    few = omega arith;
    others = λ j o there other.
        let s = stood m node j n (with_kids kids n) o is refl there in
        inl (elim (few.others j s.0 s.1 other) [
          | inl f ↦ stays_fast m node j n (with_kids kids n) o s.0 is s.2 (λ h. absurd (subst (In j) bare h)) f
          | inr h ↦ own j o s.0 s.1 s.2 (covers kids few.loose are.apart theirs (omega (arith, few.few, many)) j h)
        ]);
  }
    where
      theirs : (k : ℕ) → In k kids → In k few.loose
      theirs k h =
          let x = are.under k h in
          elim (few.others k x.node x.is x.other) [
            | inl f ↦
                let p : f.parent ≡ n = same_Some f.parent n (sym f.is ∙ ap m x.parent_is ∙ is) in
                absurd (subst (In k) (ap (λ (y : Node A). y.kids) p ∙ bare) f.among)
            | inr loose ↦ loose
          ]

      own : (j : ℕ) (o s : Node A) → m j ≡ Some s → o.parent ≡ s.parent → In j kids → IsFast (with_node m node (Some (with_kids kids n))) j o
      own j o s there same h =
          let x = are.under j h in
          let e : s.parent ≡ node = ap (λ (y : Node A). y.parent) (same_Some s x.node (sym there ∙ x.is)) ∙ x.parent_is in
          record { parent = with_kids kids n; is = put_same m node o.parent (Some (with_kids kids n)) (same ∙ e); among = h }

  -- 4. at rest, and what a commit has to do then

  pub none_at_rest : (m : Nodes A) (root : ℕ) → IsRooted root [] m → AreFewLoose m root 0
  none_at_rest m root sound = record {
    loose = [];
    few = omega arith;
    others = λ k n is other.
        let h = sound.held k n is other in
        elim h.linked [
          | inl among ↦ inl (record { parent = h.parent; is = h.is; among = among })
          | inr named ↦ absurd named
        ];
  }

  -- where none is loose, nothing has to be removed
  pub IsSwept-fast : (root : ℕ) (changes : List (Change A)) (m : Nodes A) → IsRooted root changes m → AreFewLoose m root 0 → IsSwept m root m [] []
  IsSwept-fast root changes m sound none = record {
    same = λ k. inl refl;
    cover = λ k n is other. elim (none.others k n is other) [ inl f ↦ inl f | inr h ↦ absurd (none_in none.loose k none.few h) ];
    kids = λ p k n is among. let u = (sound.own p n is).under k among in subst IsSome (sym u.is) refl;
  }
