-- The nodes of a last level, one after the other.
use Rattle.std.proofs.Common.{◌≡◌, ◌⊎◌, ◌+◌, ◌-◌, ◌<◌, ◌≤◌, ℕ, zero, suc, take, List, [], ◌∷◌, ◌++◌, append_assoc, append-nil, length, slice_get, Option, Some, None, refl, sym, ap, ◌∙◌, subst, arith, inl, inr}
use Rattle.std.specs.Prelude.{◌==◌, Bool, true, IsSome, option_map}
use Rattle.std.proofs.lemmas.Bool.{eqb-true}
use Rattle.std.proofs.lemmas.List.Elements.{filter-append}
use Rattle.lsys_spec.specs.Rows.{In}
use Rattle.lsys_forest.specs.Nodes.{Node, Nodes, with_node, with_kids, with_answer}
use Rattle.lsys_forest.specs.Groves.{Grove, AreKids, now_of, IsLive}
use Rattle.lsys_forest.specs.Rows.{kids_in, kids_below}
use Rattle.lsys_forest.proofs.SoundLemmas.{some_of}
use Rattle.lsys_forest.proofs.StockLemmas.{put_same, put_other}
use Rattle.lsys_forest.proofs.ChainLemmas.{take_more}
use Rattle.lsys_forest.proofs.RowLemmas.{In_append, In_left, In_right, flat_append}
use Rattle.lsys_front.specs.Ends.{ended_node, AreEnded, is_answered, answered_in, rows_from}

pub take_next : (xs : List ℕ) (i k : ℕ) → slice_get xs i ≡ Some k → take (i + 1) xs ≡ take i xs ++ k ∷ []
take_next xs i k e = let n : i + 1 ≡ suc i = omega arith in ap (λ j. take j xs) n ∙ take_more xs i k e

pub begun : (b list c : List ℕ) → b ≡ [] → c ≡ b ++ list → c ≡ list
begun b list c e f = f ∙ ap (λ (l : List ℕ). l ++ list) e

pub extended : (b kids list c : List ℕ) → c ≡ b ++ kids → kids ≡ list → c ≡ b ++ list
extended b kids list c e f = e ∙ ap (λ (l : List ℕ). b ++ l) f

module _ {A : Type 0} where
  -- 1. nodes

  pub ended_none : (m : Nodes A) → AreEnded m m []
  ended_none m = record { here = λ k i. absurd i; others = λ k no. refl }

  pub ended_one : (m1 m2 m3 : Nodes A) (node : ℕ) (n : Node A) → m1 node ≡ Some n → m2 ≡ with_node m1 node (Some (with_answer None n))
      → ((p : Node A) → m2 node ≡ Some p → m3 ≡ with_node m2 node (Some (with_kids [] p))) → AreEnded m1 m3 (node ∷ [])
  ended_one m1 m2 m3 node n is e f = record {
    here = λ k i. elim i [
      | inl q ↦ ap (λ (m : Nodes A). m k) last ∙ put_same m2 node k (Some (ended_node n)) q ∙ sym (ap (option_map ended_node) (ap m1 q ∙ is))
      | inr none ↦ absurd none
    ];
    others = λ k no. ap (λ (m : Nodes A). m k) last ∙ put_other m2 node k (Some (ended_node n)) (λ q. no (inl q)) ∙ ap (λ (m : Nodes A). m k) e ∙ put_other m1 node k (Some (with_answer None n)) (λ q. no (inl q));
  }
    where
      mid : m2 node ≡ Some (with_answer None n)
      mid = ap (λ (m : Nodes A). m node) e ∙ put_same m1 node node (Some (with_answer None n)) refl

      last : m3 ≡ with_node m2 node (Some (ended_node n))
      last = f (with_answer None n) mid

  -- an answer that is taken leaves the children
  pub kids_stay : (m1 m2 : Nodes A) (node : ℕ) (n : Node A) → m1 node ≡ Some n → m2 ≡ with_node m1 node (Some (with_answer None n)) → kids_in (m2 node) ≡ kids_in (m1 node)
  kids_stay m1 m2 node n is e = ap (λ (m : Nodes A). kids_in (m node)) e ∙ ap (λ x. kids_in x) (put_same m1 node node (Some (with_answer None n)) refl) ∙ sym (ap (λ x. kids_in x) is)

  pub lives_still : (m1 m2 : Nodes A) (node : ℕ) (n : Node A) → m1 node ≡ Some n → m2 ≡ with_node m1 node (Some (with_answer None n)) → IsSome (m2 node)
  lives_still m1 m2 node n is e = subst IsSome (sym (ap (λ (m : Nodes A). m node) e ∙ put_same m1 node node (Some (with_answer None n)) refl)) refl

  pub ended_more : (m1 m2 m3 : Nodes A) (ks : List ℕ) (k : ℕ) → (In k ks → ⊥) → AreEnded m1 m2 ks → AreEnded m2 m3 (k ∷ []) → AreEnded m1 m3 (ks ++ k ∷ [])
  ended_more m1 m2 m3 ks k new one two = record {
    here = λ j i. elim (In_append ks (k ∷ []) j i) [
      | inl a ↦ two.others j (λ h. elim h [ inl e ↦ new (subst (λ x. In x ks) e a) | inr none ↦ none ]) ∙ one.here j a
      | inr b ↦ two.here j b ∙ ap (option_map ended_node) (one.others j (λ a. elim b [ inl e ↦ new (subst (λ x. In x ks) e a) | inr none ↦ none ]))
    ];
    others = λ j no. two.others j (λ h. no (In_right j ks (k ∷ []) h)) ∙ one.others j (λ h. no (In_left j ks (k ∷ []) h));
  }

  -- 2. lists

  pub kids_more : (m : Nodes A) (ks : List ℕ) (k : ℕ) → kids_below m (ks ++ k ∷ []) ≡ kids_below m ks ++ kids_in (m k)
  kids_more m ks k = flat_append (λ j. kids_in (m j)) ks (k ∷ []) ∙ ap (λ (l : List ℕ). kids_below m ks ++ l) (append-nil (kids_in (m k)))

  pub below_more : (m : Nodes A) (xs : List ℕ) (i k : ℕ) (b c d : List ℕ) → slice_get xs i ≡ Some k → c ≡ b ++ kids_below m (take i xs) → d ≡ c ++ kids_in (m k) → d ≡ b ++ kids_below m (take (i + 1) xs)
  below_more m xs i k b c d is e f =
      f ∙ ap (λ (l : List ℕ). l ++ kids_in (m k)) e ∙ append_assoc b (kids_below m (take i xs)) (kids_in (m k))
      ∙ ap (λ (l : List ℕ). b ++ l) (sym (kids_more m (take i xs) k)) ∙ ap (λ (l : List ℕ). b ++ kids_below m l) (sym (take_next xs i k is))

  pub answered_more : (m : Nodes A) (xs : List ℕ) (i k : ℕ) (b c d : List ℕ) → slice_get xs i ≡ Some k → c ≡ b ++ answered_in m (take i xs) → d ≡ c ++ answered_in m (k ∷ []) → d ≡ b ++ answered_in m (take (i + 1) xs)
  answered_more m xs i k b c d is e f =
      f ∙ ap (λ (l : List ℕ). l ++ answered_in m (k ∷ [])) e ∙ append_assoc b (answered_in m (take i xs)) (answered_in m (k ∷ []))
      ∙ ap (λ (l : List ℕ). b ++ l) (sym (filter-append (is_answered m) (take i xs) (k ∷ []))) ∙ ap (λ (l : List ℕ). b ++ answered_in m l) (sym (take_next xs i k is))

  pub answered_same : (m o : Nodes A) (k : ℕ) → m k ≡ o k → answered_in m (k ∷ []) ≡ answered_in o (k ∷ [])
  answered_same m o k e = ap (λ (x : Option (Node A)). answered_in (λ j. x) (k ∷ [])) e

  -- no nodes have none below them
  pub rows_of_none : (m : Nodes A) (n : ℕ) → rows_from m n [] ≡ []
  rows_of_none m zero = refl
  rows_of_none m (suc n) = rows_of_none m n

  -- the list goes on with what stands at the next node, which is as it was
  pub below_next : (m o : Nodes A) (xs : List ℕ) (i k : ℕ) (b c d : List ℕ) → slice_get xs i ≡ Some k → o k ≡ m k → c ≡ b ++ kids_below m (take i xs) → d ≡ c ++ kids_in (o k) → d ≡ b ++ kids_below m (take (i + 1) xs)
  below_next m o xs i k b c d is same e f = below_more m xs i k b c d is e (f ∙ ap (λ (x : Option (Node A)). c ++ kids_in x) same)

  pub answered_next : (m o : Nodes A) (xs : List ℕ) (i k : ℕ) (b c d : List ℕ) → slice_get xs i ≡ Some k → o k ≡ m k → c ≡ b ++ answered_in m (take i xs) → d ≡ c ++ answered_in o (k ∷ []) → d ≡ b ++ answered_in m (take (i + 1) xs)
  answered_next m o xs i k b c d is same e f = answered_more m xs i k b c d is e (f ∙ ap (λ (l : List ℕ). c ++ l) (answered_same o m k same))

  pub ended_next : (m1 m2 m3 : Nodes A) (xs : List ℕ) (i k : ℕ) → slice_get xs i ≡ Some k → (In k (take i xs) → ⊥) → AreEnded m1 m2 (take i xs) → AreEnded m2 m3 (k ∷ []) → AreEnded m1 m3 (take (i + 1) xs)
  ended_next m1 m2 m3 xs i k is new one two = subst (λ ks. AreEnded m1 m3 ks) (sym (take_next xs i k is)) (ended_more m1 m2 m3 (take i xs) k new one two)

  -- the children of nodes live
  pub kids_live : (f : Grove A) (xs : List ℕ) (i k : ℕ) → slice_get xs i ≡ Some k → (kids : List ℕ) → ((n : Node A) → now_of f k ≡ Some n → kids ≡ n.kids) → AreKids (now_of f) f.root k kids → IsLive f k
      → ((j : ℕ) → In j (kids_below (now_of f) (take i xs)) → IsLive f j) → (j : ℕ) → In j (kids_below (now_of f) (take (i + 1) xs)) → IsLive f j
  kids_live f xs i k is kids same are lives before j h =
      let n = some_of (now_of f k) lives in
      let here : kids_in (now_of f k) ≡ kids = ap (λ x. kids_in x) n.1 ∙ sym (same n.0 n.1) in
      let i' : In j (kids_below (now_of f) (take i xs) ++ kids) = subst (In j) (ap (λ l. kids_below (now_of f) l) (take_next xs i k is) ∙ kids_more (now_of f) (take i xs) k ∙ ap (λ (l : List ℕ). kids_below (now_of f) (take i xs) ++ l) here) h in
      elim (In_append (kids_below (now_of f) (take i xs)) kids j i') [
        | inl a ↦ before j a
        | inr b ↦ let u = are.under j b in subst IsSome (sym u.is) refl
      ]

  -- what is told, and what the row and the rows below it have still to tell
  pub rows_next : (m : Nodes A) (n i : ℕ) (nodes row next b c d : List ℕ) → i < n → c ++ answered_in m (rows_from m (n - i) row) ≡ b ++ answered_in m (rows_from m n nodes)
      → d ≡ c ++ answered_in m row → next ≡ kids_below m row → d ++ answered_in m (rows_from m (n - (i + 1)) next) ≡ b ++ answered_in m (rows_from m n nodes)
  rows_next m n i nodes row next b c d l so e f =
      ap (λ (x : List ℕ). x ++ answered_in m (rows_from m (n - (i + 1)) next)) e ∙ append_assoc c (answered_in m row) (answered_in m (rows_from m (n - (i + 1)) next))
      ∙ ap (λ (x : List ℕ). c ++ (answered_in m row ++ answered_in m (rows_from m (n - (i + 1)) x))) f
      ∙ ap (λ (x : List ℕ). c ++ x) (sym (filter-append (is_answered m) row (rows_from m (n - (i + 1)) (kids_below m row))))
      ∙ ap (λ j. c ++ answered_in m (rows_from m j row)) (sym left) ∙ so
    where
      left : n - i ≡ suc (n - (i + 1))
      left = omega (arith, l)

  pub rows_end : (m : Nodes A) (n i : ℕ) (nodes row b c : List ℕ) → (n ≤ i) ⊎ (row ≡ []) → c ++ answered_in m (rows_from m (n - i) row) ≡ b ++ answered_in m (rows_from m n nodes) → c ≡ b ++ answered_in m (rows_from m n nodes)
  rows_end m n i nodes row b c (inl l) so = sym (append-nil c) ∙ ap (λ j. c ++ answered_in m (rows_from m j row)) zero_left ∙ so
    where
      zero_left : 0 ≡ n - i
      zero_left = omega (arith, l)
  rows_end m n i nodes row b c (inr none) so = sym (append-nil c) ∙ ap (λ (x : List ℕ). c ++ answered_in m x) (sym (rows_of_none m (n - i)) ∙ ap (rows_from m (n - i)) (sym none)) ∙ so

pub empty_if : (xs : List ℕ) (b : Bool) → b ≡ (length xs == 0) → b ≡ true → xs ≡ []
empty_if [] b e f = refl
empty_if (x ∷ xs) b e f = absurd (let n : length (x ∷ xs) ≡ 0 = eqb-true (length (x ∷ xs)) 0 (sym e ∙ f) in omega (arith, n))
