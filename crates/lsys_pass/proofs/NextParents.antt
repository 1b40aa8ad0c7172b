-- Which nodes of a level that was asked are the parents of the next one.
use Rattle.std.proofs.Common.{◌≡◌, ◌⊎◌, ◌+◌, ◌++◌, ◌<◌, ◌≤◌, ◌^◌, ℕ, zero, suc, false, List, [], ◌∷◌, length, take, drop, map, Some, None, refl, sym, ap, ◌∙◌, subst, inl, inr, arith, slice_get, cond}
use Rattle.std.specs.Prelude.{nat_eq, ℤ, IsSome}
use Rattle.lsys_syntax.specs.Strings as S
use Rattle.std.proofs.lemmas.Bool.{cases_eq}
use Rattle.std.proofs.lemmas.Option.{none-some, same_Some}
use Rattle.lsys_spec.specs.Rows.{In, AreApart}
use Rattle.lsys_spec.specs.Draws.{number_base}
use Rattle.lsys_laws.specs.Children.{is_open}
use Rattle.lsys_match.specs.Kept.{Kept}
use Rattle.lsys_forest.specs.Nodes.{Node, Nodes}
use Rattle.lsys_forest.specs.Groves.{IsRooted, IsLive, changes_in}
use Rattle.lsys_forest.specs.Rows.{complete_levels}
use Rattle.lsys_forest.proofs.RowLemmas.{level_depth, level_apart}
use Rattle.lsys_forest.proofs.DepthLemmas.{fits}
use Rattle.lsys_forest.proofs.StockLemmas.{stored_of}
use Rattle.lsys_reads.specs.Levels.{answer_at, AnsweredAt}
use Rattle.lsys_reads.specs.Seats.{HasSeat}
use Rattle.lsys_forest.specs.Pairs.{seen_at}
use Rattle.lsys_children.specs.Nexts.{Successors, AreClosed, HasWanted, node_kind, wanted_in, wanted_after}
use Rattle.lsys_children.specs.Renewals.{KeepsDeeper}
use Rattle.lsys_children.specs.Answers.{kept_successors}
use Rattle.lsys_children.proofs.Walks.{same_yes, same_not, none_reached}
use Rattle.lsys_laws.specs.Kinds.{reached}
use Rattle.lsys_children.specs.declared.parent.Parent.{Parent}
use Rattle.lsys_children.specs.Parents.{AreParents, AreToldBy, cut_parents, uncut}
use Rattle.lsys_children.proofs.Walked.{walked_nodes, walked_told, whole_nodes}
use Rattle.lsys_front.specs.Repairs.{Repair, SteppingSpots, were}
use Rattle.lsys_front.proofs.Spots.{is_in}
use Rattle.lsys_front.specs.Fronts.{MayHaveOthers}
use Rattle.lsys_front.proofs.Rooms.{complete_now}
use Rattle.lsys_front.proofs.LevelParents.{are_parents, had_still, all_closed}
use Rattle.lsys_pass.specs.declared.state.PassState.TheVariants.{Level}
use Rattle.lsys_pass.specs.Sizes.{opens_at}
use Rattle.lsys_pass.specs.Passes.{PassView, stage_of, repair_of, HasFront, IsPass}
use Rattle.lsys_pass.specs.Passes as P
use Rattle.lsys_pass.specs.Fresh.{WasAsked, row_of, wanted_on_level, AreNextParents}
use Rattle.lsys_pass.proofs.Asking.{sound_now}
use Rattle.lsys_pass.proofs.Finishing.{all_answered}
use Rattle.lsys_pass.proofs.Repairing.{stepping, keeps_deeper, answers_kept}
use Rattle.lsys_pass.proofs.SeenCases.{seen_cases}

-- 1. what a walk finds to be wanted, where no cut reaches what stands after

module _ (m : Nodes Kept) (by : Successors) (j : ℕ) (js : List ℕ) (closed : is_open (by j) ≡ false) (k : ℕ) where
  abbrev after : ℕ → List (S.Symbol ℤ)
  after k = wanted_in m by (reached None (node_kind m j) (is_open (by j))) js k

  at_first : k ≡ j → wanted_in m by None (j ∷ js) k ≡ by k
  at_first e = ap (λ b. cond b (wanted_after None (node_kind m j) (by j)) (after k)) (ap (λ x. nat_eq x j) e ∙ same_yes j) ∙ ap by (sym e)

  at_later : (k ≡ j → ⊥) → wanted_in m by None js k ≡ by k → wanted_in m by None (j ∷ js) k ≡ by k
  at_later ne h = ap (λ b. cond b (wanted_after None (node_kind m j) (by j)) (after k)) (same_not k j ne) ∙ ap (λ o. wanted_in m by o js k) (none_reached (node_kind m j) (is_open (by j)) closed) ∙ h

pub wanted_alone : (m : Nodes Kept) (by : Successors) (ks : List ℕ) → AreClosed by ks → (k : ℕ) → In k ks → wanted_in m by None ks k ≡ by k
wanted_alone m by [] closed k i = absurd i
wanted_alone m by (j ∷ js) closed k (inl e) = at_first m by j js closed.0 k e
wanted_alone m by (j ∷ js) closed k (inr i) = elim (cases_eq k j) [
  | inl e ↦ at_first m by j js closed.0 k e
  | inr ne ↦ at_later m by j js closed.0 k ne (wanted_alone m by js closed.1 k i)
]

-- as parents of which none is cut off
whole_wanted : (m : Nodes Kept) (by : Successors) (ks : List ℕ) → ((k : ℕ) → In k ks → by k ≡ kept_successors m k) → AreToldBy by m (map uncut ks)
whole_wanted m by [] h = tt
whole_wanted m by (k ∷ ks) h = (h k (inl refl), whole_wanted m by ks (λ j i. h j (inr i)))

-- one more of them
more_whole : (ks : List ℕ) (i k : ℕ) → slice_get ks i ≡ Some k → map uncut (take (suc i) ks) ≡ map uncut (take i ks) ++ uncut k ∷ []
more_whole [] i k e = absurd (none-some k e)
more_whole (j ∷ js) zero k e = ap (λ (x : ℕ). one x) (same_Some j k e)
  where
    one : ℕ → List Parent
    one x = uncut x ∷ []
more_whole (j ∷ js) (suc i) k e = ap (λ (ps : List Parent). uncut j ∷ ps) (more_whole js i k e)

pub whole_more : (ks : List ℕ) (i k : ℕ) → slice_get ks i ≡ Some k → map uncut (take (i + 1) ks) ≡ map uncut (take i ks) ++ uncut k ∷ []
whole_more ks i k e = ap (λ n. map uncut (take n ks)) next ∙ more_whole ks i k e
  where
    next : i + 1 ≡ suc i
    next = omega arith

none_taken : (i : ℕ) → ◌≡◌ {A = List ℕ} (take i []) []
none_taken zero = refl
none_taken (suc i) = refl

pub whole_all : (ks : List ℕ) (i : ℕ) → length ks ≤ i → map uncut (take i ks) ≡ map uncut ks
whole_all [] i l = ap (λ (xs : List ℕ). map uncut xs) (none_taken i)
whole_all (j ∷ js) zero l = absurd (omega (arith, l))
whole_all (j ∷ js) (suc i) l = ap (λ (ps : List Parent). uncut j ∷ ps) (whole_all js i (omega (arith, l)))

-- 2. a level that was asked

module _ (v : PassView) (t : ℕ) (a : WasAsked v t) where
  abbrev w : PassView
  w = record v { state = Level t }

  abbrev r : Repair
  r = repair_of v t

  pub spots : SteppingSpots r
  spots = stepping w t a.pass refl

  pub deeper : KeepsDeeper (P.rest_in v) (P.now_in v) (t + 1)
  deeper = keeps_deeper (P.now_in v) (P.rest_in v) v.forest.root v.next v.limit t a.asked.at.tree

  pub answered : (p k : ℕ) → slice_get (row_of v t) p ≡ Some k → AnsweredAt v.next t (P.now_in v) v.forest.root v.store p k
  answered p k e = all_answered (stage_of v) t a.asked t p k (omega arith) e

  front : HasFront w t
  front = a.pass.front

  pub sound : IsRooted v.forest.root (changes_in v.forest) (P.now_in v)
  sound = sound_now w t a.pass refl

  apart : AreApart (row_of v t)
  apart = level_apart v.forest.root (changes_in v.forest) (P.now_in v) sound t

  pub node_at : (k : ℕ) → In k (row_of v t) → (n : Node Kept) × (P.now_in v k ≡ Some n) × (n.depth ≡ t + 1)
  node_at k i = level_depth v.forest.root (changes_in v.forest) (P.now_in v) sound t k i

  -- no node stands on two levels
  one_level : (u k : ℕ) → u < t → In k (row_of v u) → In k (row_of v t) → ⊥
  one_level u k l i j =
      let d = level_depth v.forest.root (changes_in v.forest) (P.now_in v) sound u k i in
      let e = node_at k j in
      let f = ap (λ (n : Node Kept). n.depth) (same_Some d.0 e.0 (sym d.1 ∙ e.1)) in
      omega (arith, f, d.2, e.2, l)

  -- those that may have other children are on the level
  pub may_on : (k : ℕ) → MayHaveOthers v.front (drop v.first_renewed v.renewed) k → In k (row_of v t)
  may_on k (inl i) = front.here k i
  may_on k (inr (inl i)) = ((front.front.differs.came k).0 i).0
  may_on k (inr (inr (inl i))) = ((front.front.differs.changed k).0 i).0
  may_on k (inr (inr (inr i))) = front.front.bare_are k i

  pub may_seat : (k : ℕ) → MayHaveOthers v.front (drop v.first_renewed v.renewed) k → HasSeat v.seats k
  may_seat k m = let d = node_at k (may_on k m) in front.room k d.0 d.1

  pub level_lives : (k : ℕ) → In k (row_of v t) → (n : Node Kept) × (P.now_in v k ≡ Some n)
  level_lives k i = let d = node_at k i in (d.0, d.1)

  pub lives_at : (k : ℕ) → In k (row_of v t) → IsLive v.forest k
  lives_at k i = let d = node_at k i in subst IsSome (sym d.1) refl

  -- and the others are as they were
  record Stayed (k : ℕ) : Type 0 where
    pub there : In k (were r)
    pub seen : seen_at (P.now_in v) k ≡ seen_at (P.rest_in v) k
    pub answer : answer_at (P.now_in v) k ≡ answer_at (P.rest_in v) k

  in_parts : (n : ℕ) (xs : List ℕ) (k : ℕ) → In k xs → In k (take n xs) ⊎ In k (drop n xs)
  in_parts n [] k i = absurd i
  in_parts zero (x ∷ xs) k i = inr i
  in_parts (suc n) (x ∷ xs) k (inl e) = inl (inl e)
  in_parts (suc n) (x ∷ xs) k (inr i) = elim (in_parts n xs k i) [ inl j ↦ inl (inr j) | inr j ↦ inr j ]

  renewed_here : (k : ℕ) → In k (row_of v t) → In k v.renewed → In k (drop v.first_renewed v.renewed)
  renewed_here k i j = elim (in_parts v.first_renewed v.renewed k j) [
    | inl b ↦ (let x = front.before k b in absurd (one_level x.0 k x.1 x.2 i))
    | inr h ↦ h
  ]

  stayed : (k : ℕ) → In k (row_of v t) → (MayHaveOthers v.front (drop v.first_renewed v.renewed) k → ⊥) → Stayed k
  stayed k i away =
      let there : In k (were r) = elim (is_in k (were r)) [ inl j ↦ j | inr n ↦ absurd (away (inr (inl ((front.front.differs.came k).1 (i, n))))) ] in
      record {
        there = there;
        seen = elim (seen_cases (seen_at (P.now_in v) k) (seen_at (P.rest_in v) k)) [ inl e ↦ e | inr n ↦ absurd (away (inr (inr (inl ((front.front.differs.changed k).1 (i, there, n)))))) ];
        answer = elim (answers_kept w t a.pass refl k i) [
          | inl j ↦ absurd (away (inl (renewed_here k i j)))
          | inr (inl j) ↦ absurd (away (inr (inr (inr j))))
          | inr (inr e) ↦ e
        ];
      }

  pub parents_are : (ks : List ℕ) → AreApart ks → ((k : ℕ) → In k ks → In k (row_of v t)) → AreParents v.next.seed (t + 1) (P.now_in v) v.forest.root ks
  parents_are ks apart on = are_parents r ks spots deeper a.asked.at.tree.counts answered apart on

  pub short : (k : ℕ) → In k (row_of v t) → length (kept_successors (P.now_in v) k) ≤ number_base
  short k i = ((parents_are (row_of v t) apart (λ j x. x)).each k i).short

  pub complete : t < length (complete_levels v.forest)
  complete = complete_now r spots a.asked.at.tree.small

  -- there are no more of them than nodes live
  pub few : length (row_of v t) < 2 ^ 32
  few =
      let most = fits (row_of v t) v.forest.stock.slots apart (λ k i.
      let n = node_at k i in
      let s = stored_of v.forest.stock.slots v.forest.stock.params v.forest.stock.kids k n.0 n.1 in
      subst IsSome (sym s.1) refl) in
      let live = a.pass.few in
      omega (arith, most, live)

  -- all nodes, as a walk tells them
  pub walked_are : AreNextParents v t (cut_parents (P.now_in v) None (row_of v t))
  walked_are =
      let nodes = walked_nodes (P.now_in v) None (row_of v t) in
      record {
        parents = subst (λ (ks : List ℕ). AreParents v.next.seed (t + 1) (P.now_in v) v.forest.root ks) (sym nodes) (parents_are (row_of v t) apart (λ j x. x));
        there = λ k i. subst (In k) nodes i;
        wants = walked_told (P.now_in v) (row_of v t) apart;
        others = λ k i. inl (subst (In k) (sym nodes) i);
      }

  -- those that may have other children, where no cut reaches what stands after
  module _ (ks : List ℕ) (once : AreApart ks) (are_may : (k : ℕ) → In k ks → MayHaveOthers v.front (drop v.first_renewed v.renewed) k) (may_are : (k : ℕ) → MayHaveOthers v.front (drop v.first_renewed v.renewed) k → In k ks)
      (below : t < v.system.depth) (seed : v.next.seed ≡ v.system.seed) (numbering : v.next.numbering ≡ v.system.numbering) (was_closed : opens_at v.sizes t ≡ false)
      (none : (k : ℕ) → In k ks → is_open (kept_successors (P.now_in v) k) ≡ false) where
    cases : (k : ℕ) → In k (row_of v t) → In k ks ⊎ Stayed k
    cases k i = elim (is_in k ks) [ inl j ↦ inl j | inr n ↦ inr (stayed k i (λ m. n (may_are k m))) ]

    rest_closed : AreClosed (kept_successors (P.rest_in v)) (were r)
    rest_closed = a.pass.sized.closed t was_closed

    pub closed : AreClosed (kept_successors (P.now_in v)) (row_of v t)
    closed = all_closed r ks rest_closed none (λ k i. elim (cases k i) [ inl j ↦ inl j | inr s ↦ inr (s.there, s.seen, s.answer) ])

    alone : (k : ℕ) → In k (row_of v t) → wanted_on_level v t k ≡ kept_successors (P.now_in v) k
    alone k i = wanted_alone (P.now_in v) (kept_successors (P.now_in v)) (row_of v t) closed k i

    pub found_are : AreNextParents v t (map uncut ks)
    found_are =
        let nodes = whole_nodes (P.now_in v) ks in
        record {
          parents = subst (λ (ks : List ℕ). AreParents v.next.seed (t + 1) (P.now_in v) v.forest.root ks) (sym nodes) (parents_are ks once (λ k i. may_on k (are_may k i)));
          there = λ k i. may_on k (are_may k (subst (In k) nodes i));
          wants = whole_wanted (P.now_in v) (wanted_on_level v t) ks (λ k i. alone k (may_on k (are_may k i)));
          others = λ k i. elim (cases k i) [
            | inl j ↦ inl (subst (In k) (sym nodes) j)
            | inr s ↦ inr (subst (HasWanted v.next.numbering v.next.seed (P.now_in v) k) (sym (alone k i)) (had_still r k spots below deeper seed numbering rest_closed i s.there s.seen s.answer))
          ];
        }
