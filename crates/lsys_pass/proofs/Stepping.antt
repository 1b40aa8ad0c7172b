-- A level when one of its nodes is asked: its outcome is kept, and it is pending no more.
use Rattle.std.proofs.Common.{◌≡◌, ◌≢◌, ◌⊎◌, ◌↔◌, ◌+◌, ◌<◌, ◌≤◌, ℕ, true, false, List, [], ◌∷◌, ◌++◌, Option, Some, None, refl, sym, ap, ◌∙◌, subst, inl, inr, arith, slice_get}
use Rattle.std.specs.Prelude.{count_by, is_none}
use Rattle.std.specs.Option.{option_and_then}
use Rattle.std.proofs.lemmas.Bool.{cases_eq}
use Rattle.std.proofs.lemmas.Option.{same_Some}
use Rattle.lsys_spec.specs.Rows.{In, AreApart}
use Rattle.lsys_spec.specs.Draws.{number_base}
use Rattle.lsys_spec.specs.Systems.{System}
use Rattle.lsys_spec.specs.Levels as L
use Rattle.lsys_rewrite.specs.declared.refusal.FaultKind.{FaultKind}
use Rattle.lsys_level.specs.Spots.{Spotted}
use Rattle.lsys_walks.specs.Stores.{Store}
use Rattle.lsys_match.specs.Kept.{Kept}
use Rattle.lsys_match.specs.KeptAnswers.{StaysMade}
use Rattle.lsys_match.specs.Asks.{IsMade}
use Rattle.lsys_reads.specs.Relations.{Relations, is_pending, SettledStay}
use Rattle.lsys_laws.specs.Nodes.{Kins, AreOnce, Extends}
use Rattle.lsys_forest.specs.Nodes.{Node, Nodes, with_node, with_answer}
use Rattle.lsys_forest.specs.Changes.{Change, undone}
use Rattle.lsys_forest.specs.Answers.{answer_of}
use Rattle.lsys_forest.specs.Groves.{IsRooted}
use Rattle.lsys_forest.specs.Rows.{level_nodes, level_spots}
use Rattle.lsys_forest.proofs.RowLemmas.{In_append, In_left, In_right, apart_parts, apart_append, level_depth}
use Rattle.lsys_forest.proofs.StockLemmas.{put_other}
use Rattle.lsys_forest.proofs.WalkLemmas.{get_In}
use Rattle.lsys_reads.specs.Lineages.{kins}
use Rattle.lsys_reads.specs.Levels.{AnsweredIn, AnsweredAt, level_of, answer_at, HasRead}
use Rattle.lsys_reads.specs.Meant.{level_to, IsNeeded}
use Rattle.lsys_front.specs.Questioned.{AreSome}
use Rattle.lsys_reads.specs.Neighbours.{neighbours_on}
use Rattle.lsys_pass.specs.declared.fault.Faulted.{Faulted}
use Rattle.lsys_pass.specs.Rests.{AreCountedLow, IsResting}
use Rattle.lsys_pass.specs.Stages.{Stage, was, Rests, fault_in, AreNoted, HasFault, OutcomeBy, IsNodeOutcome, IsPending, IsSettled, IsNeededAt, HasTree, HasAnswers, HasLists, HasNews, HasSeats, IsAtLevel}
use Rattle.lsys_pass.proofs.Stores.{AllMade, AllStay, answered_stays, rest_stays}
use Rattle.lsys_pass.proofs.Alike.{AreAlike, nodes_alike, spots_alike, level_alike, neighbours_alike, have_alike, alike_put, answer_put, answer_other, put_from}

-- 1. lists

pub some_in : (js ks : List ℕ) → AreSome js ks → (k : ℕ) → In k js → In k ks
some_in [] ks h k i = absurd i
some_in (j ∷ js) [] h k i = absurd h
some_in (j ∷ js) (x ∷ ks) (inl h) k (inl e) = inl (e ∙ h.0)
some_in (j ∷ js) (x ∷ ks) (inl h) k (inr i) = inr (some_in js ks h.1 k i)
some_in (j ∷ js) (x ∷ ks) (inr h) k i = inr (some_in (j ∷ js) ks h k i)

-- the first is left out
some_later : (j : ℕ) (js ks : List ℕ) → AreSome (j ∷ js) ks → AreSome js ks
some_later j [] ks h = tt
some_later j (i ∷ js) [] h = absurd h
some_later j (i ∷ js) (k ∷ ks) (inl h) = inr h.1
some_later j (i ∷ js) (k ∷ ks) (inr h) = inr (some_later j (i ∷ js) ks h)

some_less : (b : List ℕ) (j : ℕ) (a ks : List ℕ) → AreSome (b ++ j ∷ a) ks → AreSome (b ++ a) ks
some_less [] j a ks h = some_later j a ks h
some_less (x ∷ b) j a [] h = absurd h
some_less (x ∷ b) j a (k ∷ ks) (inl h) = inl (h.0, some_less b j a ks h.1)
some_less (x ∷ b) j a (k ∷ ks) (inr h) = inr (some_less (x ∷ b) j a ks h)

pub in_more : (b : List ℕ) (j : ℕ) (a : List ℕ) (k : ℕ) → In k (b ++ a) → In k (b ++ j ∷ a)
in_more b j a k h = elim (In_append b a k h) [
  | inl i ↦ In_left k b (j ∷ a) i
  | inr i ↦ In_right k b (j ∷ a) (inr i)
]

pub in_less : (b : List ℕ) (j : ℕ) (a : List ℕ) (k : ℕ) → k ≢ j → In k (b ++ j ∷ a) → In k (b ++ a)
in_less b j a k ne h = elim (In_append b (j ∷ a) k h) [
  | inl i ↦ In_left k b a i
  | inr i ↦ elim i [ inl e ↦ absurd (ne e) | inr r ↦ In_right k b a r ]
]

pub not_left : (b : List ℕ) (j : ℕ) (a : List ℕ) → AreApart (b ++ j ∷ a) → In j (b ++ a) → ⊥
not_left b j a h i =
    let p = apart_parts b (j ∷ a) h in
    elim (In_append b a j i) [ inl l ↦ p.2 j l (inl refl) | inr r ↦ p.1.0 r ]

pub apart_less : (b : List ℕ) (j : ℕ) (a : List ℕ) → AreApart (b ++ j ∷ a) → AreApart (b ++ a)
apart_less b j a h = let p = apart_parts b (j ∷ a) h in apart_append b a p.0 p.1.1 (λ k i r. p.2 k i (inr r))

-- 2. what a step is about

-- node n, of level t, is pending
pub record IsNext (s : Stage) (t node : ℕ) (n : Node Kept) (before after : List ℕ) : Type 0 where
  pub sound : IsRooted s.root s.changes s.now
  pub was_sound : IsRooted s.root [] (was s)
  pub at : IsAtLevel s t
  pub is : s.now node ≡ Some n
  pub whole : s.pending ≡ before ++ node ∷ after

abbrev pub stepped : Stage → Nodes Kept → List (Change Kept) → Store → Relations → List ℕ → List Faulted → List ℕ → ℕ → Stage
stepped s m cs st rd ps fs rn b =
    record s { now = m; changes = cs; store = st; reads = rd; pending = ps; faults = fs; renewed = rn; born = b }

-- What the step does: the node keeps o, answers stay what they are, and its outcome is kept.
pub record Steps (s : Stage) (t node : ℕ) (n : Node Kept) (o : Option Kept) (st : Store) (rd : Relations) (fs : List Faulted) : Type 0 where
  pub stays : (a : Kept) → IsMade s.store a → StaysMade s.store st a
  pub made : AllMade s.now s.store
  pub settled : SettledStay s.reads rd
  pub faults : (k : ℕ) → k ≢ node → fault_in k fs ≡ fault_in k s.faults
  pub noted : AreNoted fs (level_nodes s.now s.root t) (level_of s.now s.root t)
  pub outcome : (p : ℕ) → slice_get (level_nodes s.now s.root t) p ≡ Some node
      → OutcomeBy (fault_in node fs) (AnsweredIn s.next t (level_spots s.now s.root t) st p o) (HasFault s.next t (level_to s.next s.limit t) p)

-- Which answers are new: as before, or the node's too.
pub record Renews (s : Stage) (t node : ℕ) (n : Node Kept) (o : Option Kept) (st : Store) (rd : Relations) (fs : List Faulted) (rn : List ℕ) (b : ℕ) : Type 0 where
  pub old_in : (k : ℕ) → In k s.renewed → In k rn
  pub new_in : (k : ℕ) → In k rn → In k s.renewed ⊎ (k ≡ node)
  pub kept : (o ≡ n.answer) ⊎ In node rn
  pub read : s.listed ≡ true → (reader seen : ℕ) → (is_pending rd reader seen ≡ true) ↔ (In reader rn × HasRead (with_node s.now node (Some (with_answer o n))) st reader seen)
  pub unread : s.listed ≡ false → rd.pending ≡ []
  pub apart : AreApart rn
  pub needed : In node rn → (p : ℕ) → slice_get (level_nodes s.now s.root t) p ≡ Some node → IsNeededAt s t p
  pub all : (p : ℕ) → slice_get (level_nodes s.now s.root t) p ≡ Some node → IsNeededAt s t p → In node rn ⊎ (fault_in node fs ≡ None → ⊥)
  pub born : b ≡ count_by (λ k. is_none (answer_at (was s) k)) rn

module _ (s : Stage) (t node : ℕ) (n : Node Kept) (before after : List ℕ) (x : IsNext s t node n before after) where
  among : In node s.pending
  among = subst (In node) (sym x.whole) (In_right node before (node ∷ after) (inl refl))

  pub on_level : In node (level_nodes s.now s.root t)
  on_level = some_in s.pending (level_nodes s.now s.root t) x.at.answers.in_order node among

  pub depth_is : n.depth ≡ t + 1
  depth_is =
      let d = level_depth s.root s.changes s.now x.sound t node on_level in
      ap (λ (o : Node Kept). o.depth) (same_Some n d.0 (sym x.is ∙ d.1)) ∙ d.2

  -- a node of another level is another one
  level_is : (u p : ℕ) → slice_get (level_nodes s.now s.root u) p ≡ Some node → u ≡ t
  level_is u p h =
      let d = level_depth s.root s.changes s.now x.sound u node (get_In (level_nodes s.now s.root u) p node h) in
      let e = ap (λ (o : Node Kept). o.depth) (same_Some n d.0 (sym x.is ∙ d.1)) in
      omega (arith, e, d.2, depth_is)

  pub other_level : (u p k : ℕ) → u < t → slice_get (level_nodes s.now s.root u) p ≡ Some k → k ≢ node
  other_level u p k less h e =
      let same : u ≡ t = level_is u p (h ∙ ap Some e) in
      omega (arith, same, less)

  pub is_open : (p : ℕ) → slice_get (level_nodes s.now s.root t) p ≡ Some node → IsPending s t p node
  is_open p h = elim (x.at.answers.here p node h) [ inl o ↦ o | inr d ↦ absurd (d.done among) ]

  apart_all : AreApart (before ++ node ∷ after)
  apart_all = subst AreApart x.whole x.at.answers.apart

  left_in : (k : ℕ) → In k (before ++ after) → In k s.pending
  left_in k h = subst (In k) (sym x.whole) (in_more before node after k h)

  in_left : (k : ℕ) → k ≢ node → In k s.pending → In k (before ++ after)
  in_left k ne h = in_less before node after k ne (subst (In k) x.whole h)

  done_now : In node (before ++ after) → ⊥
  done_now = not_left before node after apart_all

  pub unrenewed : In node s.renewed → ⊥
  unrenewed h = x.at.lists.renewed_done node h among

  module _ (o : Option Kept) (cs : List (Change Kept)) (st : Store) (rd : Relations) (fs : List Faulted) (rn : List ℕ) (b : ℕ)
      (back : undone cs (with_node s.now node (Some (with_answer o n))) ≡ was s) (h : Steps s t node n o st rd fs) (r : Renews s t node n o st rd fs rn b) where
    abbrev m : Nodes Kept
    m = with_node s.now node (Some (with_answer o n))

    abbrev s' : Stage
    s' = stepped s m cs st rd (before ++ after) fs rn b

    alike : AreAlike s.now m
    alike = alike_put s.now node n o x.is

    was_is : was s' ≡ was s
    was_is = back

    level : (u : ℕ) → level_nodes m s.root u ≡ level_nodes s.now s.root u
    level = nodes_alike s.now m s.root alike

    there : (u p k : ℕ) → slice_get (level_nodes m s.root u) p ≡ Some k → slice_get (level_nodes s.now s.root u) p ≡ Some k
    there u p k e = ap (λ (l : List ℕ). slice_get l p) (sym (level u)) ∙ e

    in_level : (u k : ℕ) → In k (level_nodes s.now s.root u) → In k (level_nodes m s.root u)
    in_level u k = subst (In k) (sym (level u))

    from_level : (u k : ℕ) → In k (level_nodes m s.root u) → In k (level_nodes s.now s.root u)
    from_level u k = subst (In k) (level u)

    at_node : (k : ℕ) → k ≡ node → answer_at m k ≡ o
    at_node k e = answer_put s.now node k n o e

    at_other : (k : ℕ) → k ≢ node → answer_at m k ≡ answer_at s.now k
    at_other k ne = answer_other s.now node k n o ne

    was_node : (k : ℕ) → k ≡ node → answer_at s.now k ≡ n.answer
    was_node k e = ap (answer_at s.now) e ∙ ap (option_and_then answer_of) x.is

    was_answer : (k : ℕ) → answer_at (was s') k ≡ answer_at (was s) k
    was_answer k = ap (λ (w : Nodes Kept). answer_at w k) was_is

    stay_now : AllStay s.now s.store st
    stay_now k a e = h.stays a (h.made k a e)

    stay_was : AllStay (was s) s.store st
    stay_was k a e = h.stays a (x.at.rest.made k a e)

    rest : Rests s'
    rest = subst (λ (w : Nodes Kept). IsResting true s.system s.limit w s.root st rd s.seats) (sym was_is)
        (rest_stays s.system s.limit (was s) s.root s.store st s.reads rd s.seats stay_was h.settled x.at.rest)

    once : AreOnce (kins m) s.root
    once = subst (λ (k : Kins). AreOnce k s.root) (sym alike.kins) x.at.tree.once

    counts : AreCountedLow m
    counts k y e =
        let f = put_from s.now node n o x.is k y e in
        subst (λ c. c < number_base) (sym f.count) (x.at.tree.counts k f.node f.is)

    tree_was : HasTree m (was s) s.root s.next s.limit t
    tree_was = record {
      spelled = x.at.tree.spelled;
      below = x.at.tree.below;
      small = x.at.tree.small;
      is = x.at.tree.is;
      levels = have_alike s.now m s.root s.next.seed _ alike x.at.tree.levels;
      counts = counts;
      once = once;
      stay = subst (λ (k : Kins). Extends (kins (was s)) k) (sym alike.kins) x.at.tree.stay;
      kids = λ k y p e f d.
          let g = put_from s.now node n o x.is k y e in
          g.kids ∙ x.at.tree.kids k g.node p g.is f (sym g.depth ∙ d);
      new_kids = λ k y e f d.
          let g = put_from s.now node n o x.is k y e in
          g.kids ∙ x.at.tree.new_kids k g.node g.is f (sym g.depth ∙ d);
      deeper = λ k y e l.
          let there_is = x.at.tree.deeper k y e l in
          put_other s.now node k (Some (with_answer o n)) (λ q. (
          let d = ap (λ (z : Node Kept). z.depth) (same_Some n y (sym x.is ∙ ap s.now (sym q) ∙ there_is)) in
          omega (arith, d, l, depth_is)
          )) ∙ there_is;
      none_deeper = λ k y e f.
          let g = put_from s.now node n o x.is k y e in
          subst (λ d. d ≤ t + 1) (sym g.depth) (x.at.tree.none_deeper k g.node g.is f);
    }

    tree : HasTree s'.now (was s') s'.root s'.next s'.limit t
    tree = subst (λ (w : Nodes Kept). HasTree m w s.root s.next s.limit t) (sym was_is) tree_was

    -- another node's answer is right in the new store
    right_other : (v : System) (u p k : ℕ) → k ≢ node → AnsweredAt v u s.now s.root s.store p k → AnsweredAt v u m s.root st p k
    right_other v u p k ne a =
        subst (λ (row : List Spotted). AnsweredIn v u row st p (answer_at m k)) (sym (spots_alike s.now m s.root alike u))
        (subst (λ (q : Option Kept). AnsweredIn v u (level_spots s.now s.root u) st p q) (sym (at_other k ne))
        (answered_stays s.store st v u (level_spots s.now s.root u) p (answer_at s.now k) (stay_now k) a))

    outcome_here : (p : ℕ) → slice_get (level_nodes s.now s.root t) p ≡ Some node → IsNodeOutcome s' t p node
    outcome_here p e =
        subst (λ (row : List Spotted). OutcomeBy (fault_in node fs) (AnsweredIn s.next t row st p (answer_at m node)) (HasFault s.next t (level_to s.next s.limit t) p)) (sym (spots_alike s.now m s.root alike t))
        (subst (λ (q : Option Kept). OutcomeBy (fault_in node fs) (AnsweredIn s.next t (level_spots s.now s.root t) st p q) (HasFault s.next t (level_to s.next s.limit t) p)) (sym (at_node node refl)) (h.outcome p e))

    outcome_by : (q : Option FaultKind) (A A' : Type 0) (F : FaultKind → Type 0) → (A → A') → OutcomeBy q A F → OutcomeBy q A' F
    outcome_by None A A' F f a = f a
    outcome_by (Some k) A A' F f a = a

    outcome_other : (p k : ℕ) → k ≢ node → IsNodeOutcome s t p k → IsNodeOutcome s' t p k
    outcome_other p k ne a =
        subst (λ q. OutcomeBy q (AnsweredAt s.next t m s.root st p k) (HasFault s.next t (level_to s.next s.limit t) p)) (sym (h.faults k ne))
        (outcome_by (fault_in k s.faults) (AnsweredAt s.next t s.now s.root s.store p k) (AnsweredAt s.next t m s.root st p k) (HasFault s.next t (level_to s.next s.limit t) p) (right_other s.next t p k ne) a)

    here_at : (p k : ℕ) → slice_get (level_nodes s.now s.root t) p ≡ Some k → IsPending s' t p k ⊎ IsSettled s' t p k
    here_at p k e = elim (cases_eq k node) [
      | inl q ↦ inr (subst (λ i. IsSettled s' t p i) (sym q) (record { done = done_now; outcome = outcome_here p (e ∙ ap Some q) }))
      | inr ne ↦ elim (x.at.answers.here p k e) [
        | inl a ↦ inl (record { pending = in_left k ne a.pending; candidate = a.candidate; same = at_other k ne ∙ a.same ∙ sym (was_answer k); faultless = h.faults k ne ∙ a.faultless })
        | inr a ↦ inr (record { done = λ i. a.done (left_in k i); outcome = outcome_other p k ne a.outcome })
      ]
    ]

    answers : HasAnswers s' t
    answers = record {
      above = λ u p k less e. right_other s.next u p k (other_level u p k less (there u p k e)) (x.at.answers.above u p k less (there u p k e));
      here = λ p k e. here_at p k (there t p k e);
      noted = subst (λ ks. AreNoted fs ks (level_of m s.root t)) (sym (level t)) (subst (λ (y : List L.LevelSymbol). AreNoted fs (level_nodes s.now s.root t) y) (sym (level_alike s.now m s.root alike t)) h.noted);
      in_order = subst (AreSome (before ++ after)) (sym (level t)) (some_less before node after (level_nodes s.now s.root t) (subst (λ l. AreSome l (level_nodes s.now s.root t)) x.whole x.at.answers.in_order));
      apart = apart_less before node after apart_all;
    }

    kept_at : (k : ℕ) (a : Kept) → answer_at (was s) k ≡ Some a → In k rn ⊎ In k s.dropped ⊎ (answer_at m k ≡ Some a)
    kept_at k a e = elim (x.at.lists.kept k a e) [
      | inl i ↦ inl (r.old_in k i)
      | inr (inl i) ↦ inr (inl i)
      | inr (inr same) ↦ elim (cases_eq k node) [
        | inr ne ↦ inr (inr (at_other k ne ∙ same))
        | inl q ↦ elim r.kept [
          | inl f ↦ inr (inr (at_node k q ∙ f ∙ sym (was_node k q) ∙ same))
          | inr i ↦ inl (subst (λ j. In j rn) (sym q) i)
        ]
      ]
    ]

    fresh_at : (k : ℕ) (a : Kept) → answer_at m k ≡ Some a → In k rn ⊎ (answer_at (was s) k ≡ Some a)
    fresh_at k a e = elim (cases_eq k node) [
      | inr ne ↦ elim (x.at.lists.fresh k a (sym (at_other k ne) ∙ e)) [ inl i ↦ inl (r.old_in k i) | inr f ↦ inr f ]
      | inl q ↦ elim r.kept [
        | inr i ↦ inl (subst (λ j. In j rn) (sym q) i)
        | inl f ↦ elim (x.at.lists.fresh k a (was_node k q ∙ sym f ∙ sym (at_node k q) ∙ e)) [ inl i ↦ inl (r.old_in k i) | inr g ↦ inr g ]
      ]
    ]

    lost_at : (k u : ℕ) (a : Kept) → u ≤ t → answer_at (was s) k ≡ Some a → In k (level_nodes (was s) s.root u) → In k s.dropped ⊎ In k (level_nodes m s.root u)
    lost_at k u a l e i = elim (x.at.lists.lost k u a l e i) [ inl d ↦ inl d | inr j ↦ inr (in_level u k j) ]

    lists : HasLists s' t
    lists = record {
      read = r.read;
      unread = r.unread;
      renewed_are = λ k i. elim (r.new_in k i) [
        | inl old ↦ let w = x.at.lists.renewed_are k old in (w.0, w.1, in_level w.0 k w.2)
        | inr q ↦ (t, omega arith, in_level t k (subst (λ j. In j (level_nodes s.now s.root t)) (sym q) on_level))
      ];
      renewed_done = λ k i j. elim (r.new_in k i) [
        | inl old ↦ x.at.lists.renewed_done k old (left_in k j)
        | inr q ↦ done_now (subst (λ y. In y (before ++ after)) q j)
      ];
      dropped_are = λ k u i l j. elim (cases_eq k node) [
        | inl q ↦ absurd (x.at.lists.dropped_done k i (subst (λ y. In y s.pending) (sym q) among))
        | inr ne ↦ at_other k ne ∙ x.at.lists.dropped_are k u i l (from_level u k j)
      ];
      dropped_done = λ k i j. x.at.lists.dropped_done k i (left_in k j);
      kept = λ k a e. kept_at k a (sym (was_answer k) ∙ e);
      dropped_apart = x.at.lists.dropped_apart;
      dropped_at = λ k i. let w = x.at.lists.dropped_at k i in (w.0, w.1, subst (λ (v : Nodes Kept). In k (level_nodes v s.root w.0)) (sym was_is) w.2);
      dropped_had = λ k i e. x.at.lists.dropped_had k i (sym (was_answer k) ∙ e);
      lost = λ k u a l e i. lost_at k u a l (sym (was_answer k) ∙ e) (subst (λ (v : Nodes Kept). In k (level_nodes v s.root u)) was_is i);
      fresh = λ k a e. elim (fresh_at k a e) [ inl i ↦ inl i | inr f ↦ inr (was_answer k ∙ f) ];
    }

    needed_on : (u p : ℕ) → IsNeededAt s u p → IsNeededAt s' u p
    needed_on u p = subst (λ (y : List L.LevelSymbol). IsNeeded s.system s.next s.limit u y p) (sym (level_alike s.now m s.root alike u))

    needed_back : (u p : ℕ) → IsNeededAt s' u p → IsNeededAt s u p
    needed_back u p = subst (λ (y : List L.LevelSymbol). IsNeeded s.system s.next s.limit u y p) (level_alike s.now m s.root alike u)

    -- of the node itself
    needed_node : (u p : ℕ) → slice_get (level_nodes s.now s.root u) p ≡ Some node → In node rn → IsNeededAt s u p
    needed_node u p e i =
        let q = level_is u p e in
        subst (λ v. IsNeededAt s v p) (sym q) (r.needed i p (ap (λ v. slice_get (level_nodes s.now s.root v) p) (sym q) ∙ e))

    all_node : (u p : ℕ) → slice_get (level_nodes s.now s.root u) p ≡ Some node → IsNeededAt s u p → In node rn ⊎ (fault_in node fs ≡ None → ⊥)
    all_node u p e i =
        let q = level_is u p e in
        r.all p (ap (λ v. slice_get (level_nodes s.now s.root v) p) (sym q) ∙ e) (subst (λ v. IsNeededAt s v p) q i)

    all_at : (u p k : ℕ) → u ≤ t → slice_get (level_nodes s.now s.root u) p ≡ Some k → IsNeededAt s u p → In k rn ⊎ In k (before ++ after) ⊎ (fault_in k fs ≡ None → ⊥)
    all_at u p k l e i = elim (cases_eq k node) [
      | inl q ↦ elim (all_node u p (e ∙ ap Some q) i) [
        | inl j ↦ inl (subst (λ y. In y rn) (sym q) j)
        | inr f ↦ inr (inr (λ z. f (ap (λ y. fault_in y fs) (sym q) ∙ z)))
      ]
      | inr ne ↦ elim (x.at.news.all u p k l e i) [
        | inl j ↦ inl (r.old_in k j)
        | inr (inl j) ↦ inr (inl (in_left k ne j))
        | inr (inr f) ↦ inr (inr (λ z. f (sym (h.faults k ne) ∙ z)))
      ]
    ]

    news : HasNews s' t
    news = record {
      apart = r.apart;
      needed = λ u p k l e i. needed_on u p (elim (r.new_in k i) [
        | inl old ↦ x.at.news.needed u p k l (there u p k e) old
        | inr q ↦ needed_node u p (there u p k e ∙ ap Some q) (subst (λ y. In y rn) q i)
      ]);
      all = λ u p k l e i. all_at u p k l (there u p k e) (needed_back u p i);
      born = r.born ∙ ap (λ (w : Nodes Kept). count_by (λ k. is_none (answer_at w k)) rn) (sym was_is);
    }

    seats : HasSeats s' t
    seats = record {
      seated = λ u p k l e. elim (x.at.seats.seated u p k l (there u p k e)) [
        | inl i ↦ inl i
        | inr f ↦ inr (f ∙ ap (λ (xs : List ℕ). neighbours_on s.now xs p) (sym (level u)) ∙ sym (neighbours_alike s.now m alike (level_nodes m s.root u) p))
      ];
      moved_are = λ k i. let w = x.at.seats.moved_are k i in (w.0, w.1, in_level w.0 k w.2);
      room = x.at.seats.room;
    }

    pub at_level : IsAtLevel (stepped s (with_node s.now node (Some (with_answer o n))) cs st rd (before ++ after) fs rn b) t
    at_level = record { rest = rest; tree = tree; answers = answers; lists = lists; news = news; seats = seats }
