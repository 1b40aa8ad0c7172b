-- Which nodes lose their answers, one after the other.
use Rattle.std.proofs.Common.{◌≡◌, ◌↔◌, ◌⊎◌, ◌+◌, ℕ, Option, Some, None, List, [], ◌∷◌, ◌++◌, take, refl, sym, ap, ◌∙◌, subst, inl, inr, append_assoc, arith}
use Rattle.std.specs.Prelude.{IsSome, slice_get, option_map}
use Rattle.std.specs.Option.{option_and_then}
use Rattle.std.proofs.lemmas.List.{append-nil}
use Rattle.lsys_spec.specs.Rows.{In}
use Rattle.lsys_spec.specs.Systems.{System}
use Rattle.lsys_forest.specs.Nodes.{Node, Nodes, with_node, with_answer}
use Rattle.lsys_forest.specs.Answers.{answer_of, answers}
use Rattle.lsys_forest.specs.Groves.{Grove, now_of, rest_of, changes_in, live_nodes}
use Rattle.lsys_forest.specs.Rows.{spot_in}
use Rattle.lsys_forest.proofs.RowLemmas.{In_append, In_left, In_right, apart_append}
use Rattle.lsys_forest.proofs.StockLemmas.{put_same, put_other}
use Rattle.lsys_reads.proofs.SeamLemmas.{in_taken_next}
use Rattle.lsys_front.proofs.Gathering.{taken_own, taken_more}
use Rattle.lsys_front.proofs.Spots.{is_in}
use Rattle.lsys_front.specs.Losses.{LosesOnly}
use Rattle.lsys_front.specs.Asks.{IsIdle, Loses}
use Rattle.lsys_front.proofs.Losing.{loses_no_answer}

one_of : (k node : ℕ) → In k (node ∷ []) → k ≡ node
one_of k node (inl e) = e
one_of k node (inr h) = absurd h

module _ {A : Type 0} (s : System) (t : ℕ) where
  idle_as : (m m' : Nodes A) (k : ℕ) → m' k ≡ m k → IsIdle s t m k → IsIdle s t m' k
  idle_as m m' k same h = record {
    keeps = subst (λ (o : Option (Node A)). IsSome (option_and_then answer_of o)) (sym same) h.keeps;
    unasked = λ a. h.unasked (record { own = a.own; is = ap (λ (o : Option (Node A)). (spot_in k o).seen) (sym same) ∙ a.is; rules = a.rules });
  }

  bare_not : (o : Option (Node A)) → IsSome (option_and_then answer_of (option_map (with_answer None) o)) → ⊥
  bare_not None h = cc
  bare_not (Some n) h = cc

  not_again : (m m' : Nodes A) (k : ℕ) → m' k ≡ option_map (with_answer None) (m k) → IsIdle s t m' k → ⊥
  not_again m m' k bare h = bare_not (m k) (subst (λ (o : Option (Node A)). IsSome (option_and_then answer_of o)) bare h.keeps)

  -- 1. one node

  pub loses_nothing : (m : Nodes A) (node : ℕ) (bare dropped : List ℕ) → (IsIdle s t m node → ⊥) → Loses s t m m (node ∷ []) bare bare dropped dropped
  loses_nothing m node bare dropped busy = record {
    lost = [];
    bare_is = sym (append-nil bare);
    dropped_is = sym (append-nil dropped);
    apart = tt;
    are = λ k. (λ h. absurd h, λ h. busy (idle_as m m node refl (subst (IsIdle s t m) (one_of k node h.0) h.1)));
    here = λ k h. absurd h;
    others = λ k h. refl;
  }

  pub loses_one : (m m' : Nodes A) (node : ℕ) (n : Node A) (bare bare' dropped dropped' : List ℕ) → IsIdle s t m node → m node ≡ Some n
      → m' ≡ with_node m node (Some (with_answer None n)) → bare' ≡ bare ++ node ∷ [] → dropped' ≡ dropped ++ node ∷ []
      → Loses s t m m' (node ∷ []) bare bare' dropped dropped'
  loses_one m m' node n bare bare' dropped dropped' idle is set b d = record {
    lost = node ∷ [];
    bare_is = b;
    dropped_is = d;
    apart = (λ none. none, tt);
    are = λ k. (λ h. (h, subst (IsIdle s t m) (sym (one_of k node h)) idle), λ h. h.0);
    here = λ k h. (let e = one_of k node h in
        ap (λ (m : Nodes A). m k) set ∙ put_same m node k (Some (with_answer None n)) e ∙ ap (option_map (with_answer None)) (sym (ap m e ∙ is)));
    others = λ k h. ap (λ (m : Nodes A). m k) set ∙ put_other m node k (Some (with_answer None n)) (λ e. h (inl e));
  }

  pub loses_none_of : (m m' : Nodes A) (bare bare' dropped dropped' : List ℕ) → m' ≡ m → bare' ≡ bare → dropped' ≡ dropped → Loses s t m m' [] bare bare' dropped dropped'
  loses_none_of m m' bare bare' dropped dropped' same b d = record {
    lost = [];
    bare_is = b ∙ sym (append-nil bare);
    dropped_is = d ∙ sym (append-nil dropped);
    apart = tt;
    are = λ k. (λ h. absurd h, λ h. h.0);
    here = λ k h. absurd h;
    others = λ k h. ap (λ (m : Nodes A). m k) same;
  }

  -- 2. and then others

  module _ (a b c : Nodes A) (xs ys zs : List ℕ) (b0 b1 b2 d0 d1 d2 : List ℕ) (all : (k : ℕ) → In k zs ↔ (In k xs ⊎ In k ys))
      (one : Loses s t a b xs b0 b1 d0 d1) (two : Loses s t b c ys b1 b2 d1 d2) where
    not_both : (k : ℕ) → In k one.lost → In k two.lost → ⊥
    not_both k h g = not_again a b k (one.here k h) ((two.are k).0 g).1

    was_other : (k : ℕ) → In k two.lost → b k ≡ a k
    was_other k g = one.others k (λ h. not_both k h g)

    loses_then : Loses s t a c zs b0 b2 d0 d2
    loses_then = record {
      lost = one.lost ++ two.lost;
      bare_is = two.bare_is ∙ ap (λ l. l ++ two.lost) one.bare_is ∙ append_assoc b0 one.lost two.lost;
      dropped_is = two.dropped_is ∙ ap (λ l. l ++ two.lost) one.dropped_is ∙ append_assoc d0 one.lost two.lost;
      apart = apart_append one.lost two.lost one.apart two.apart not_both;
      are = λ k. (
        λ h. elim (In_append one.lost two.lost k h) [
          | inl j ↦ (let u = (one.are k).0 j in ((all k).1 (inl u.0), u.1))
          | inr j ↦ (let u = (two.are k).0 j in ((all k).1 (inr u.0), idle_as b a k (sym (was_other k j)) u.1))
        ],
        λ u. elim (is_in k one.lost) [
          | inl j ↦ In_left k one.lost two.lost j
          | inr n ↦ In_right k one.lost two.lost (elim ((all k).0 u.0) [
            | inl i ↦ absurd (n ((one.are k).1 (i, u.1)))
            | inr i ↦ (two.are k).1 (i, idle_as a b k (one.others k n) u.1)
          ])
        ],
      );
      here = λ k h. elim (In_append one.lost two.lost k h) [
        | inl j ↦ two.others k (λ g. not_both k j g) ∙ one.here k j
        | inr j ↦ two.here k j ∙ ap (option_map (with_answer None)) (was_other k j)
      ];
      others = λ k h. two.others k (λ j. h (In_right k one.lost two.lost j)) ∙ one.others k (λ j. h (In_left k one.lost two.lost j));
    }

  -- of two lists
  pub loses_both : (a b c : Nodes A) (xs ys : List ℕ) (b0 b1 b2 d0 d1 d2 : List ℕ) → Loses s t a b xs b0 b1 d0 d1 → Loses s t b c ys b1 b2 d1 d2
      → Loses s t a c (xs ++ ys) b0 b2 d0 d2
  loses_both a b c xs ys b0 b1 b2 d0 d1 d2 one two =
      loses_then a b c xs ys (xs ++ ys) b0 b1 b2 d0 d1 d2 (λ k. (In_append xs ys k, λ o. elim o [ inl i ↦ In_left k xs ys i | inr i ↦ In_right k xs ys i ])) one two

  -- of one node more of a list
  pub loses_next : (a b c : Nodes A) (nodes : List ℕ) (i x : ℕ) (b0 b1 b2 d0 d1 d2 : List ℕ) → slice_get nodes i ≡ Some x
      → Loses s t a b (take i nodes) b0 b1 d0 d1 → Loses s t b c (x ∷ []) b1 b2 d1 d2 → Loses s t a c (take (i + 1) nodes) b0 b2 d0 d2
  loses_next a b c nodes i x b0 b1 b2 d0 d1 d2 there one two =
      loses_then a b c (take i nodes) (x ∷ []) (take (i + 1) nodes) b0 b1 b2 d0 d1 d2
      (λ k. (
        λ h. elim (in_taken_next nodes i x k there h) [ inl before ↦ inl before | inr e ↦ inr (inl e) ],
        λ o. elim o [
          | inl h ↦ taken_more nodes i k h
          | inr e ↦ subst (λ y. In y (take (i + 1) nodes)) (sym (one_of k x e)) (taken_own nodes i x there)
        ],
      )) one two

  -- who was lost lives as before
  pub lives_on : (a b : Nodes A) (nodes bare bare' dropped dropped' : List ℕ) → Loses s t a b nodes bare bare' dropped dropped' → (k : ℕ) → IsSome (a k) → IsSome (b k)
  lives_on a b nodes bare bare' dropped dropped' h k l = elim (is_in k h.lost) [
    | inl i ↦ subst IsSome (sym (h.here k i)) (some_still (a k) l)
    | inr n ↦ subst IsSome (sym (h.others k n)) l
  ]
    where
      some_still : (o : Option (Node A)) → IsSome o → IsSome (option_map (with_answer None) o)
      some_still None l = l
      some_still (Some n) l = refl

-- room was made
pub loses_reserved : {A : Type 0} (f h : Grove A) → now_of h ≡ now_of f → changes_in h ≡ changes_in f → rest_of h ≡ rest_of f → h.root ≡ f.root → live_nodes h ≡ live_nodes f → LosesOnly f h
loses_reserved f h now changes rest root live =
    loses_no_answer f h (ap (λ m. answers m (changes_in h)) now ∙ ap (answers (now_of f)) changes) rest root (omega (arith, live))
