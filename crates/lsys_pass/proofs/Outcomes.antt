-- The outcome of a step, case by case.
use Rattle.std.proofs.Common.{◌≡◌, ◌≢◌, ◌⊎◌, ◌↔◌, ◌+◌, ℕ, zero, suc, Bool, true, false, List, [], ◌∷◌, ◌++◌, length, Option, Some, None, Ok, Err, Result, refl, sym, ap, ◌∙◌, subst, inl, inr, arith, slice_get, cond}
use Rattle.std.specs.Prelude.{count_by, is_none, nat_eq}
use Rattle.std.specs.Option.{option_and_then, IsSomeAnd}
use Rattle.std.proofs.lemmas.Grind.{common_steps}
use Rattle.std.proofs.lemmas.List.Sums.{sum_by-append, sum_by-cons}
use Rattle.std.proofs.lemmas.Option.{none-some, same_Some}
use Rattle.lsys_spec.specs.Rows.{In, AreApart}
use Rattle.lsys_spec.specs.Draws.{key_of}
use Rattle.lsys_spec.specs.Bodies.{Body, group}
use Rattle.lsys_spec.specs.Levels.{ModuleValue, LevelSymbol, Module}
use Rattle.lsys_spec.specs.Meaning.{successor}
use Rattle.lsys_spec.specs.Questions.{questions, is_needed}
use Rattle.lsys_rewrite.specs.Faults.{fault_of}
use Rattle.lsys_rewrite.specs.declared.refusal.FaultKind.{FaultKind}
use Rattle.lsys_laws.specs.Passes.{module_question}
use Rattle.lsys_level.specs.Spots.{Spotted, level_by}
use Rattle.lsys_level.specs.Spots as S
use Rattle.lsys_walks.specs.Stores.{Store}
use Rattle.lsys_match.specs.declared.asked.Asked.{Asked}
use Rattle.lsys_match.specs.declared.asked.Asked.TheVariants.{Same, New}
use Rattle.lsys_match.specs.declared.refusal.AskRefusal.{AskRefusal}
use Rattle.lsys_match.specs.declared.refusal.AskRefusal.TheVariants as refusals
use Rattle.lsys_match.specs.Kept.{Kept}
use Rattle.lsys_match.specs.KeptAnswers.{StaysMade}
use Rattle.lsys_match.specs.Stored.{answer_in}
use Rattle.lsys_match.specs.Asks.{IsMade, IsAnswer, IsAnswered, IsNamedAt, KeepsStore, by_definition}
use Rattle.lsys_match.proofs.Staying.{stays_new, stays_kept}
use Rattle.lsys_match.specs.Recalled.{IsAnswerThere}
use Rattle.lsys_reads.specs.Relations.{Relations, is_pending, pairs_have, SettledStay}
use Rattle.lsys_forest.specs.Nodes.{Node, Nodes, with_node, with_answer}
use Rattle.lsys_forest.specs.Changes.{Change, undone}
use Rattle.lsys_forest.specs.Answers.{answer_of}
use Rattle.lsys_forest.specs.Rows.{level_nodes, level_spots}
use Rattle.lsys_forest.proofs.RowLemmas.{In_append, In_left, In_right, get_split, same_sides, apart_append, level_apart}
use Rattle.lsys_reads.specs.Lineages.{names}
use Rattle.lsys_reads.specs.Levels as kept
use Rattle.lsys_reads.specs.Levels.{IsRight, IsKeptFor, AnsweredIn, level_of, answer_at, tags_read, HasRead}
use Rattle.lsys_reads.specs.Meant.{levels_meant, level_to}
use Rattle.lsys_pass.specs.declared.fault.Faulted.{Faulted}
use Rattle.lsys_pass.specs.Read.{pairs_of, NotesPairs}
use Rattle.lsys_pass.specs.Stages.{Stage, was, fault_in, IsNoted, AreNoted, HasFault, OutcomeBy, IsNeededAt, IsAtLevel}
use Rattle.lsys_pass.proofs.Stores.{AllMade, AllStay, read_on, read_back}
use Rattle.lsys_pass.proofs.Alike.{answer_put, answer_other, put_again}
use Rattle.lsys_pass.proofs.Reading.{have_cases, have_left, have_right, of_reader, has_reader}
use Rattle.lsys_pass.proofs.Stepping.{IsNext, Renews, stepped, at_level, is_open, unrenewed}
use Rattle.lsys_pass.proofs.Needed.{IsHere, level_is_meant, same_unneeded, new_needed}

-- 1. one place, one module

pub one_place : (ks : List ℕ) (p q k : ℕ) → AreApart ks → slice_get ks p ≡ Some k → slice_get ks q ≡ Some k → p ≡ q
one_place ks p q k apart h g =
    let s = get_split ks p k h in
    let r = get_split ks q k g in
    let same = same_sides k s.before s.after r.before r.after (subst AreApart s.whole apart) (sym s.whole ∙ r.whole) in
    sym s.long ∙ ap length same.0 ∙ r.long

pub record SameModule (l l' : List ℕ) (m m' : ModuleValue) : Type 0 where
  pub line : l ≡ l'
  pub own : m ≡ m'

pub same_module : (l l' : List ℕ) (m m' : ModuleValue) → Module l m ≡ Module l' m' → SameModule l l' m m'
same_module l l' m m' e = let a : l ≡ l' = cc in let b : m ≡ m' = cc in record { line = a; own = b }

kept_for : (bs : List Body) (right : Kept → Type 0) (o : Option Kept) (a : Kept) → (bs ≡ [] → ⊥) → o ≡ Some a → right a → IsKeptFor bs right o
kept_for [] right o a rules e r = absurd (rules refl)
kept_for (b ∷ bs) right o a rules e r = (a, e, r)

-- 2. faults

pub fault_after : (k : ℕ) (fs : List Faulted) (f : Faulted) → k ≢ f.node → fault_in k (fs ++ f ∷ []) ≡ fault_in k fs
fault_after k [] f ne = grind (arith, common_steps)
fault_after k (x ∷ fs) f ne = ap (λ o. cond (nat_eq k x.node) (Some x.kind) o) (fault_after k fs f ne)

fault_step : (b : Bool) (x : FaultKind) (o o' : Option FaultKind) (kind : FaultKind) → (o ≡ None → o' ≡ Some kind) → cond b (Some x) o ≡ None → cond b (Some x) o' ≡ Some kind
fault_step true x o o' kind f h = absurd (none-some x (sym h))
fault_step false x o o' kind f h = f h

fault_last : (k : ℕ) (fs : List Faulted) (kind : FaultKind) → fault_in k fs ≡ None → fault_in k (fs ++ record { node = k; kind = kind } ∷ []) ≡ Some kind
fault_last k [] kind e = grind (arith, common_steps)
fault_last k (x ∷ fs) kind e = fault_step (nat_eq k x.node) x.kind (fault_in k fs) (fault_in k (fs ++ record { node = k; kind = kind } ∷ [])) kind (fault_last k fs kind) e

fault_on : (b : Bool) (x kind : FaultKind) (o o' : Option FaultKind) → (o ≡ Some kind → o' ≡ Some kind) → cond b (Some x) o ≡ Some kind → cond b (Some x) o' ≡ Some kind
fault_on true x kind o o' f h = h
fault_on false x kind o o' f h = f h

-- a fault that was noted stays the one of its node
fault_stays : (k : ℕ) (fs : List Faulted) (f : Faulted) (kind : FaultKind) → fault_in k fs ≡ Some kind → fault_in k (fs ++ f ∷ []) ≡ Some kind
fault_stays k [] f kind h = absurd (none-some kind h)
fault_stays k (x ∷ fs) f kind h = fault_on (nat_eq k x.node) x.kind kind (fault_in k fs) (fault_in k (fs ++ f ∷ [])) (fault_stays k fs f kind) h

last_or : (fs : List Faulted) (f : Faulted) (i : ℕ) (g : Faulted) → slice_get (fs ++ f ∷ []) i ≡ Some g → (slice_get fs i ≡ Some g) ⊎ (f ≡ g)
last_or [] f zero g h = inr (same_Some f g h)
last_or [] f (suc i) g h = absurd (none-some g h)
last_or (x ∷ fs) f zero g h = inl h
last_or (x ∷ fs) f (suc i) g h = last_or fs f i g h

-- one more is noted, of a node that had none
noted_more : (fs : List Faulted) (f : Faulted) (ks : List ℕ) (y : List LevelSymbol) → AreNoted fs ks y → IsNoted (fs ++ f ∷ []) ks y f → AreNoted (fs ++ f ∷ []) ks y
noted_more fs f ks y all own i g h = elim (last_or fs f i g h) [
  | inl old ↦
      let n = all i g old in
      record { place = n.place; line = n.line; own = n.own; there = n.there; stands = n.stands; is = fault_stays g.node fs f g.kind n.is }
  | inr e ↦ subst (λ (z : Faulted). IsNoted (fs ++ f ∷ []) ks y z) e own
]

-- one more is counted
count_more : (o : Nodes Kept) (rn : List ℕ) (node : ℕ) → count_by (λ k. is_none (answer_at o k)) (rn ++ node ∷ []) ≡ count_by (λ k. is_none (answer_at o k)) rn + cond (is_none (answer_at o node)) 1 0
count_more o rn node =
    let one = sum_by-cons (λ k. cond (is_none (answer_at o k)) 1 0) node [] in
    sum_by-append (λ k. cond (is_none (answer_at o k)) 1 0) rn (node ∷ []) ∙ ap (λ c. count_by (λ k. is_none (answer_at o k)) rn + c) (one ∙ omega arith)

-- 3. what was answered

pub record IsReplied {L : Type 0} (s : Stage) (t node p : ℕ) (st : Store) (r : Result (Asked L) AskRefusal) : Type 0 where
  pub there : slice_get (level_nodes s.now s.root t) p ≡ Some node
  pub here : IsHere s t node p
  pub answered : (naming : ℕ → List ℕ) → IsNamedAt naming s.next.seed (level_spots s.now s.root t) p node here.own
      → IsAnswered naming (by_definition s.next t (level_by naming (level_spots s.now s.root t)) p (naming node) here.own) st (answer_at s.now node) r
  pub store : KeepsStore s.store st (answer_at s.now node) r

module _ (s : Stage) (t node : ℕ) (n : Node Kept) (front back : List ℕ) (x : IsNext s t node n front back) (made : AllMade s.now s.store) (p : ℕ) where
  abbrev row : List Spotted
  row = level_spots s.now s.root t

  kept_is : answer_at s.now node ≡ n.answer
  kept_is = ap (option_and_then answer_of) x.is

  same_place : (q : ℕ) → slice_get (level_nodes s.now s.root t) p ≡ Some node → slice_get (level_nodes s.now s.root t) q ≡ Some node → q ≡ p
  same_place q there h = one_place (level_nodes s.now s.root t) q p node (level_apart s.root s.changes s.now x.sound t) h there

  named_here : (h : IsHere s t node p) → IsNamedAt (names s.now) s.next.seed row p node h.own
  named_here h = record { here = h.spot }

  -- an answer that is right by every naming is right there
  there_is : (h : IsHere s t node p) (st : Store) (a : Kept)
      → ((naming : ℕ → List ℕ) → IsNamedAt naming s.next.seed row p node h.own → IsAnswer naming (by_definition s.next t (level_by naming row) p (naming node) h.own) (answer_in st a))
      → IsAnswerThere s.next t row p node h.own (answer_in st a)
  there_is h st a told = record { line = names s.now node; here = h.spot; told = told }

  right_here : (h : IsHere s t node p) (st : Store) (a : Kept) (o : Option Kept) → o ≡ Some a → IsMade st a → IsAnswerThere s.next t row p node h.own (answer_in st a) → AnsweredIn s.next t row st p o
  right_here h st a o e m right y there =
      let same : record { seen = S.Module h.own; tag = node; key = key_of s.next.seed (names s.now node) } ≡ y = same_Some _ y (sym h.spot ∙ there) in
      subst (λ (z : Spotted). kept.IsAnsweredRight s.next t row st p z.tag z.seen o) same
      (kept_for (group s.next t h.own.name (length h.own.params)) (IsRight s.next t row st p node h.own) o a h.rules e (record { made = m; answer = right }))

  -- the outcome of a node that has no fault
  outcome_right : (fs : List Faulted) (st : Store) (o : Option Kept) → slice_get (level_nodes s.now s.root t) p ≡ Some node → fault_in node fs ≡ None → AnsweredIn s.next t row st p o
      → (q : ℕ) → slice_get (level_nodes s.now s.root t) q ≡ Some node → OutcomeBy (fault_in node fs) (AnsweredIn s.next t row st q o) (HasFault s.next t (level_to s.next s.limit t) q)
  outcome_right fs st o there none right q h =
      subst (λ f. OutcomeBy f (AnsweredIn s.next t row st q o) (HasFault s.next t (level_to s.next s.limit t) q)) (sym none)
      (subst (λ i. AnsweredIn s.next t row st i o) (sym (same_place q there h)) right)

  faultless : slice_get (level_nodes s.now s.root t) p ≡ Some node → fault_in node s.faults ≡ None
  faultless there = (is_open s t node n front back x p there).faultless

  -- whether the question is needed, as it stands there
  needed_of : (h : IsHere s t node p) → is_needed (questions s.system (levels_meant s.system s.limit)) (module_question s.next t (level_of s.now s.root t) p (names s.now node) h.own) ≡ false → IsNeededAt s t p → ⊥
  needed_of h unneeded i =
      let m = same_module (names s.now node) i.line h.own i.own (same_Some _ _ (sym h.stands ∙ i.stands)) in
      let same : module_question s.next t (level_of s.now s.root t) p (names s.now node) h.own ≡ module_question s.next t (level_of s.now s.root t) p i.line i.own =
      ap (λ l. module_question s.next t (level_of s.now s.root t) p l h.own) m.line ∙ ap (λ w. module_question s.next t (level_of s.now s.root t) p i.line w) m.own in
      let f : false ≡ true = sym unneeded ∙ ap (is_needed (questions s.system (levels_meant s.system s.limit))) same ∙ i.is in cc

  -- nothing is renewed
  renews_none : (o : Option Kept) (st : Store) (rd : Relations) (fs : List Faulted) → o ≡ n.answer → rd ≡ s.reads → AllStay s.now s.store st
      → ((q : ℕ) → slice_get (level_nodes s.now s.root t) q ≡ Some node → IsNeededAt s t q → fault_in node fs ≡ None → ⊥)
      → Renews s t node n o st rd fs s.renewed s.born
  renews_none o st rd fs e same stays all = record {
    old_in = λ k i. i;
    new_in = λ k i. inl i;
    kept = inl e;
    read = λ known reader seen. (
      λ q.
          let r = (x.at.lists.read known reader seen).0 (ap (λ (z : Relations). is_pending z reader seen) (sym same) ∙ q) in
          (r.0, subst (λ (m : Nodes Kept). HasRead m st reader seen) (sym again) (read_on s.store st s.now stays reader seen r.1)),
      λ q.
          ap (λ (z : Relations). is_pending z reader seen) same
          ∙ (x.at.lists.read known reader seen).1 (q.0, read_back s.store st s.now stays reader seen (subst (λ (m : Nodes Kept). HasRead m st reader seen) again q.1)),
    );
    unread = λ not. ap (λ (z : Relations). z.pending) same ∙ x.at.lists.unread not;
    apart = x.at.news.apart;
    needed = λ i q h. absurd (unrenewed s t node n front back x i);
    all = λ q h i. inr (all q h i);
    born = x.at.news.born;
  }
    where
      again : with_node s.now node (Some (with_answer o n)) ≡ s.now
      again = ap (λ y. with_node s.now node (Some (with_answer y n))) e ∙ put_again s.now node n x.is

  -- 4. the same answer

  same_told : (h : IsHere s t node p) (st : Store) (a : Kept) → answer_at s.now node ≡ Some a
      → ((naming : ℕ → List ℕ) → IsNamedAt naming s.next.seed row p node h.own → IsSomeAnd (answer_at s.now node) (λ a. IsAnswer naming (by_definition s.next t (level_by naming row) p (naming node) h.own) (answer_in st a)))
      → (naming : ℕ → List ℕ) → IsNamedAt naming s.next.seed row p node h.own → IsAnswer naming (by_definition s.next t (level_by naming row) p (naming node) h.own) (answer_in st a)
  same_told h st a e told naming named = subst (λ (o : Option Kept). IsSomeAnd o (λ a. IsAnswer naming (by_definition s.next t (level_by naming row) p (naming node) h.own) (answer_in st a))) e (told naming named)

  -- there is an old answer
  pub old_answer : (P : Kept → Type 0) → IsSomeAnd (answer_at s.now node) P → (a : Kept) × (answer_at s.now node ≡ Some a)
  old_answer P h = by (answer_at s.now node) refl h
    where
      by : (o : Option Kept) → answer_at s.now node ≡ o → IsSomeAnd o P → (a : Kept) × (answer_at s.now node ≡ Some a)
      by None e i = absurd i
      by (Some a) e i = (a, e)

  module _ {L : Type 0} (st : Store) (r : IsReplied {L = L} s t node p st (Ok Same)) where
    stay_same : (a : Kept) → IsMade s.store a → StaysMade s.store st a
    stay_same a m = stays_kept s.store st a r.store m

    old : (a : Kept) × (answer_at s.now node ≡ Some a)
    old = old_answer _ (r.answered (names s.now) (named_here r.here))

    told_same : (naming : ℕ → List ℕ) → IsNamedAt naming s.next.seed row p node r.here.own → IsAnswer naming (by_definition s.next t (level_by naming row) p (naming node) r.here.own) (answer_in st old.0)
    told_same = same_told r.here st old.0 old.1 r.answered

    -- the definitions ask what the old system asked
    pub unneeded : is_needed (questions s.system (levels_meant s.system s.limit)) (module_question s.next t (level_of s.now s.root t) p (names s.now node) r.here.own) ≡ false
    unneeded =
        same_unneeded s t node n front back x old.0 old.1 p r.there r.here.own
        (subst (IsAnswer (names s.now) (by_definition s.next t (level_of s.now s.root t) p (names s.now node) r.here.own)) (stay_same old.0 (made node old.0 old.1)).answer (told_same (names s.now) (named_here r.here)))

    -- the question has a successor
    pub successor_same : (zs : Kept) × (by_definition s.next t (level_of s.now s.root t) p (names s.now node) r.here.own).successor ≡ Ok (answer_in st zs).successor
    successor_same = (old.0, sym (told_same (names s.now) (named_here r.here)).successor)

    pub level_same : (cs : List (Change Kept)) → undone cs (with_node s.now node (Some (with_answer n.answer n))) ≡ was s
        → IsAtLevel (stepped s (with_node s.now node (Some (with_answer n.answer n))) cs st s.reads (front ++ back) s.faults s.renewed s.born) t
    level_same cs undo =
        at_level s t node n front back x n.answer cs st s.reads s.faults s.renewed s.born undo
        (record {
          stays = stay_same;
          made = made;
          settled = λ reader seen. refl;
          faults = λ k ne. refl;
          noted = x.at.answers.noted;
          outcome = outcome_right s.faults st n.answer r.there (faultless r.there)
              (right_here r.here st old.0 n.answer (sym kept_is ∙ old.1) (stay_same old.0 (made node old.0 old.1)).made (there_is r.here st old.0 told_same));
        })
        (renews_none n.answer st s.reads s.faults refl refl (λ k a e. stay_same a (made k a e)) (λ q h i none. needed_of r.here unneeded (subst (λ j. IsNeededAt s t j) (same_place q r.there h) i)))

  -- 5. a fault

  module _ {L : Type 0} (st : Store) (kind : FaultKind) (r : IsReplied {L = L} s t node p st (Err (refusals.Fault kind))) where
    stay_fault : (a : Kept) → IsMade s.store a → StaysMade s.store st a
    stay_fault a m = stays_kept s.store st a r.store m

    pub successor_fault : Err (fault_of kind) ≡ (by_definition s.next t (level_of s.now s.root t) p (names s.now node) r.here.own).successor
    successor_fault = r.answered (names s.now) (named_here r.here)

    has_fault : HasFault s.next t (level_to s.next s.limit t) p kind
    has_fault l m stands =
        let meant_is = level_is_meant s t x.at.tree in
        let same = same_module (names s.now node) l r.here.own m (same_Some _ _ (sym r.here.stands ∙ ap (λ (y : List LevelSymbol). slice_get y p) meant_is ∙ stands)) in
        ap (λ (y : List LevelSymbol). successor s.next t y p l m) (sym meant_is)
        ∙ ap (λ k. successor s.next t (level_of s.now s.root t) p k m) (sym same.line)
        ∙ ap (λ w. successor s.next t (level_of s.now s.root t) p (names s.now node) w) (sym same.own) ∙ sym successor_fault

    noted_is : fault_in node (s.faults ++ record { node = node; kind = kind } ∷ []) ≡ Some kind
    noted_is = fault_last node s.faults kind (faultless r.there)

    pub level_fault : (cs : List (Change Kept)) → undone cs (with_node s.now node (Some (with_answer n.answer n))) ≡ was s
        → IsAtLevel (stepped s (with_node s.now node (Some (with_answer n.answer n))) cs st s.reads (front ++ back) (s.faults ++ record { node = node; kind = kind } ∷ []) s.renewed s.born) t
    level_fault cs undo =
        at_level s t node n front back x n.answer cs st s.reads (s.faults ++ record { node = node; kind = kind } ∷ []) s.renewed s.born undo
        (record {
          stays = stay_fault;
          made = made;
          settled = λ reader seen. refl;
          faults = λ k ne. fault_after k s.faults (record { node = node; kind = kind }) ne;
          noted = noted_more s.faults (record { node = node; kind = kind }) (level_nodes s.now s.root t) (level_of s.now s.root t) x.at.answers.noted
              (record { place = p; line = names s.now node; own = r.here.own; there = r.there; stands = r.here.stands; is = noted_is });
          outcome = λ q h. subst (λ f. OutcomeBy f (AnsweredIn s.next t row st q n.answer) (HasFault s.next t (level_to s.next s.limit t) q)) (sym noted_is)
              (subst (λ i. HasFault s.next t (level_to s.next s.limit t) i kind) (sym (same_place q r.there h)) has_fault);
        })
        (renews_none n.answer st s.reads (s.faults ++ record { node = node; kind = kind } ∷ []) refl refl (λ k a e. stay_fault a (made k a e)) (λ q h i none. none-some kind (sym none ∙ noted_is)))

  -- 6. another answer

  module _ {L : Type 0} (st : Store) (a : Kept) (r : IsReplied {L = L} s t node p st (Ok (New a))) where
    pub stay_new : (b : Kept) → IsMade s.store b → StaysMade s.store st b
    stay_new b m = stays_new s.store st (answer_at s.now node) b a r.store m

    there_new : IsAnswerThere s.next t row p node r.here.own (answer_in st a)
    there_new = there_is r.here st a r.answered

    pub needed : is_needed (questions s.system (levels_meant s.system s.limit)) (module_question s.next t (level_of s.now s.root t) p (names s.now node) r.here.own) ≡ true
    needed = new_needed s t node n front back x p r.here.own st a r.here.stands r.there r.here.rules (named_here r.here) there_new (λ b e q. r.store.other b e q)

    pub successor_new : (by_definition s.next t (level_of s.now s.root t) p (names s.now node) r.here.own).successor ≡ Ok (answer_in st a).successor
    successor_new = sym (r.answered (names s.now) (named_here r.here)).successor

    read_new : s.listed ≡ true → (rd : Relations) → rd.pending ≡ s.reads.pending ++ pairs_of node (tags_read st a) → (reader seen : ℕ) → (is_pending rd reader seen ≡ true) ↔ (In reader (s.renewed ++ node ∷ []) × HasRead (with_node s.now node (Some (with_answer (Some a) n))) st reader seen)
    read_new known rd e reader seen = (to, from)
      where
        to : is_pending rd reader seen ≡ true → In reader (s.renewed ++ node ∷ []) × HasRead (with_node s.now node (Some (with_answer (Some a) n))) st reader seen
        to h = elim (have_cases s.reads.pending (pairs_of node (tags_read st a)) reader seen (ap (λ ps. pairs_have ps reader seen) (sym e) ∙ h)) [
          | inl old ↦
              let w = (x.at.lists.read known reader seen).0 old in
              let ne : reader ≢ node = λ q. unrenewed s t node n front back x (subst (λ k. In k s.renewed) q w.0) in
              let b = read_on s.store st s.now (λ k c f. stay_new c (made k c f)) reader seen w.1 in
              (In_left reader s.renewed (node ∷ []) w.0, record { answer = b.answer; kept = answer_other s.now node reader n (Some a) ne ∙ b.kept; among = b.among })
          | inr new ↦
              let w = of_reader node (tags_read st a) reader seen new in
              (In_right reader s.renewed (node ∷ []) (inl w.0), record { answer = a; kept = answer_put s.now node reader n (Some a) w.0; among = w.1 })
        ]

        from : In reader (s.renewed ++ node ∷ []) × HasRead (with_node s.now node (Some (with_answer (Some a) n))) st reader seen → is_pending rd reader seen ≡ true
        from q = ap (λ ps. pairs_have ps reader seen) e ∙ elim (In_append s.renewed (node ∷ []) reader q.0) [
          | inl i ↦
              let ne : reader ≢ node = λ f. unrenewed s t node n front back x (subst (λ k. In k s.renewed) f i) in
              let b : HasRead s.now st reader seen = record { answer = q.1.answer; kept = sym (answer_other s.now node reader n (Some a) ne) ∙ q.1.kept; among = q.1.among } in
              have_left s.reads.pending (pairs_of node (tags_read st a)) reader seen ((x.at.lists.read known reader seen).1 (i, read_back s.store st s.now (λ k c f. stay_new c (made k c f)) reader seen b))
          | inr i ↦ elim i [
            | inl f ↦
                let same : a ≡ q.1.answer = same_Some a q.1.answer (sym (answer_put s.now node reader n (Some a) f) ∙ q.1.kept) in
                have_right s.reads.pending (pairs_of node (tags_read st a)) reader seen
                (subst (λ k. pairs_have (pairs_of node (tags_read st a)) k seen ≡ true) (sym f)
                (has_reader node (tags_read st a) seen (subst (λ c. In seen (tags_read st c)) (sym same) q.1.among)))
            | inr none ↦ absurd none
          ]
        ]

    pub level_new : (cs : List (Change Kept)) (rd : Relations) (b : ℕ) (is_born : Bool) → undone cs (with_node s.now node (Some (with_answer (Some a) n))) ≡ was s
        → NotesPairs s.listed s.reads rd node (tags_read st a) → SettledStay s.reads rd → is_born ≡ is_none (answer_at s.now node) → b ≡ s.born + cond is_born 1 0
        → IsAtLevel (stepped s (with_node s.now node (Some (with_answer (Some a) n))) cs st rd (front ++ back) s.faults (s.renewed ++ node ∷ []) b) t
    level_new cs rd b is_born undo read settled born count =
        at_level s t node n front back x (Some a) cs st rd s.faults (s.renewed ++ node ∷ []) b undo
        (record {
          stays = stay_new;
          made = made;
          settled = settled;
          faults = λ k ne. refl;
          noted = x.at.answers.noted;
          outcome = outcome_right s.faults st (Some a) r.there (faultless r.there) (right_here r.here st a (Some a) refl r.store.made there_new);
        })
        (record {
          old_in = λ k i. In_left k s.renewed (node ∷ []) i;
          new_in = λ k i. elim (In_append s.renewed (node ∷ []) k i) [ inl j ↦ inl j | inr j ↦ elim j [ inl e ↦ inr e | inr none ↦ absurd none ] ];
          kept = inr (In_right node s.renewed (node ∷ []) (inl refl));
          read = λ known. read_new known rd (read.adds known);
          unread = λ not. read.stays not ∙ x.at.lists.unread not;
          apart = apart_append s.renewed (node ∷ []) x.at.news.apart (λ none. none, tt) (λ k i j. elim j [ inl e ↦ unrenewed s t node n front back x (subst (λ y. In y s.renewed) e i) | inr none ↦ none ]);
          needed = λ i q h. subst (λ j. IsNeededAt s t j) (sym (same_place q r.there h)) (record { line = names s.now node; own = r.here.own; stands = r.here.stands; rules = r.here.rules; is = needed });
          all = λ q h i. inl (In_right node s.renewed (node ∷ []) (inl refl));
          born = count ∙ ap (λ (c : ℕ). c + cond is_born 1 0) x.at.news.born ∙ ap (λ c. count_by (λ k. is_none (answer_at (was s) k)) s.renewed + cond c 1 0) (born ∙ ap (λ (o : Option Kept). is_none o) (is_open s t node n front back x p r.there).same) ∙ sym (count_more (was s) s.renewed node);
        })
