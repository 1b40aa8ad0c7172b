-- Who keeps which answer, after one is set and after all changes are undone.
use Rattle.std.proofs.Common.{◌≡◌, ◌≢◌, ◌⊎◌, ℕ, List, [], ◌∷◌, ◌++◌, length, Option, Some, None, refl, sym, ap, ◌∙◌, subst, arith, inl, inr}
use Rattle.std.specs.Prelude.{ℤ, IsSome, IfSome, cond, nat_eq, slice_get, option_map}
use Rattle.std.specs.Option.{option_and_then}
use Rattle.std.proofs.lemmas.Bool.{cases_eq}
use Rattle.std.proofs.lemmas.Grind.{common_steps}
use Rattle.std.proofs.lemmas.Option.{none-some, same_Some}
use Rattle.lsys_region.specs.Pool.{Pool, list_at, list_of, IsLiveRun}
use Rattle.lsys_region.proofs.ListLemmas.{slice_get-push_old, slice_get-push_new, slice_get-push_cases}
use Rattle.lsys_walks.specs.declared.entry.Entry.{Entry}
use Rattle.lsys_walks.specs.Stores.{Store, AreGone, OtherTracesStay}
use Rattle.lsys_match.specs.Kept.{Kept}
use Rattle.lsys_match.specs.Stored.{runs_of}
use Rattle.lsys_match.specs.Asks.{IsMade, IsNew, StaysAsKept}
use Rattle.lsys_match.specs.KeptAnswers.{HoldOwnRuns, StaysMade}
use Rattle.lsys_match.proofs.Staying.{stays_made, own_runs, stays_new}
use Rattle.lsys_forest.specs.Nodes.{Node, Nodes, with_node, with_answer}
use Rattle.lsys_forest.specs.Changes.{Change, OldAnswer, undone}
use Rattle.lsys_forest.specs.Answers.{AnswerKeeper, AtNode, AtChange, answer_of, old_answer, answers, kept_by, IsHeld, LiveApart, FreesAllBut}
use Rattle.lsys_forest.proofs.StockLemmas.{put_same, put_other}
use Rattle.lsys_forest.proofs.SoundLemmas.{IsSet, set_answer, set_sound, set_back, AreSound-push, AreSound-rest, AreSound-now, AreSound-then}
use Rattle.lsys_reads.specs.Names.{RunName, RunList, InTraces, InValues, Entries, Values, run_in, holds}
use Rattle.lsys_reads.specs.Levels.{answer_at}
use Rattle.lsys_pass.specs.Stages.{IsStored}
use Rattle.lsys_pass.proofs.Stores.{AllMade, AllStay}

-- 1. one answer is set

-- the note of what a node's answer was
abbrev pub note_of : ℕ → Node Kept → Change Kept
note_of node n = record { node = node; before = OldAnswer n.answer }

-- who kept an answer before the change with this place
abbrev source : ℕ → ℕ → AnswerKeeper → AnswerKeeper
source node last (AtNode k) = AtNode k
source node last (AtChange i) = cond (nat_eq i last) (AtNode node) (AtChange i)

source_cases : (node last i : ℕ) → ((i ≡ last) × (source node last (AtChange i) ≡ AtNode node)) ⊎ ((i ≢ last) × (source node last (AtChange i) ≡ AtChange i))
source_cases node last i = elim (cases_eq i last) [
  | inl e ↦ inl (e, grind (arith, common_steps))
  | inr ne ↦ inr (ne, grind (arith, common_steps))
]

node_change : (i j : ℕ) → AtNode i ≡ AtChange j → ⊥
node_change i j e = cc

node_node : (i j : ℕ) → AtNode i ≡ AtNode j → i ≡ j
node_node i j e = cc

change_change : (i j : ℕ) → AtChange i ≡ AtChange j → i ≡ j
change_change i j e = cc

source_once : (node last : ℕ) (h i : AnswerKeeper) → h ≢ AtNode node → i ≢ AtNode node → source node last h ≡ source node last i → h ≡ i
source_once node last (AtNode k) (AtNode j) a b e = e
source_once node last (AtNode k) (AtChange j) a b e = elim (source_cases node last j) [
  | inl s ↦ absurd (a (e ∙ s.1))
  | inr s ↦ absurd (node_change k j (e ∙ s.1))
]
source_once node last (AtChange i) (AtNode k) a b e = elim (source_cases node last i) [
  | inl s ↦ absurd (b (sym e ∙ s.1))
  | inr s ↦ absurd (node_change k i (sym e ∙ s.1))
]
source_once node last (AtChange i) (AtChange j) a b e = elim (source_cases node last i) [
  | inl s ↦ elim (source_cases node last j) [
    | inl r ↦ ap AtChange (s.0 ∙ sym r.0)
    | inr r ↦ absurd (node_change node j (sym s.1 ∙ e ∙ r.1))
  ]
  | inr s ↦ elim (source_cases node last j) [
    | inl r ↦ absurd (node_change node i (sym r.1 ∙ sym e ∙ s.1))
    | inr r ↦ sym s.1 ∙ e ∙ r.1
  ]
]

-- an answer that is kept is the new one, or was kept before
data Came (m : Nodes Kept) (changes : List (Change Kept)) (node : ℕ) (a : Kept) (h : AnswerKeeper) (b : Kept) : Type 0 where
  is_new : h ≡ AtNode node → a ≡ b → Came m changes node a h b
  is_old : h ≢ AtNode node → answers m changes (source node (length changes) h) ≡ Some b → Came m changes node a h b

came : (m : Nodes Kept) (changes : List (Change Kept)) (node : ℕ) (n : Node Kept) (a : Kept) → m node ≡ Some n → (h : AnswerKeeper) (b : Kept)
    → answers (with_node m node (Some (with_answer (Some a) n))) (changes ++ note_of node n ∷ []) h ≡ Some b → Came m changes node a h b
came m changes node n a is (AtNode k) b e = elim (cases_eq k node) [
  | inl s ↦ is_new (ap AtNode s) (same_Some a b (sym (ap (option_and_then answer_of) (put_same m node k (Some (with_answer (Some a) n)) s)) ∙ e))
  | inr ne ↦ is_old (λ q. ne (node_node k node q)) (sym (ap (option_and_then answer_of) (put_other m node k (Some (with_answer (Some a) n)) ne)) ∙ e)
]
came m changes node n a is (AtChange i) b e = go (slice_get (changes ++ note_of node n ∷ []) i) refl e
  where
    other : AtChange i ≢ AtNode node
    other q = node_change node i (sym q)

    go : (o : Option (Change Kept)) → slice_get (changes ++ note_of node n ∷ []) i ≡ o → option_and_then old_answer o ≡ Some b → Came m changes node a (AtChange i) b
    go None f g = absurd (none-some b g)
    go (Some x) f g = elim (slice_get-push_cases changes i (note_of node n) x f) [
      | inl new ↦ elim (source_cases node (length changes) i) [
        | inl s ↦ is_old other (ap (answers m changes) s.1 ∙ ap (option_and_then answer_of) is ∙ ap old_answer new.1 ∙ g)
        | inr s ↦ absurd (s.0 new.0)
      ]
      | inr old ↦ elim (source_cases node (length changes) i) [
        | inl s ↦ absurd (let l : i ≡ length changes = s.0 in omega (arith, l, old.0))
        | inr s ↦ is_old other (ap (answers m changes) s.1 ∙ ap (option_and_then old_answer) old.1 ∙ g)
      ]
    ]

-- each answer that was kept is kept still
kept_still : (m : Nodes Kept) (changes : List (Change Kept)) (node : ℕ) (n : Node Kept) (a : Kept) → m node ≡ Some n → (h : AnswerKeeper) (b : Kept)
    → answers m changes h ≡ Some b → (i : AnswerKeeper) × (answers (with_node m node (Some (with_answer (Some a) n))) (changes ++ note_of node n ∷ []) i ≡ Some b)
kept_still m changes node n a is (AtNode k) b e = elim (cases_eq k node) [
  | inl s ↦ (
    AtChange (length changes),
    ap (option_and_then old_answer) (slice_get-push_new changes (note_of node n)) ∙ sym (ap (option_and_then answer_of) (ap m s ∙ is)) ∙ e,
  )
  | inr ne ↦ (AtNode k, ap (option_and_then answer_of) (put_other m node k (Some (with_answer (Some a) n)) ne) ∙ e)
]
kept_still m changes node n a is (AtChange i) b e = go (slice_get changes i) refl e
  where
    go : (o : Option (Change Kept)) → slice_get changes i ≡ o → option_and_then old_answer o ≡ Some b
        → (j : AnswerKeeper) × (answers (with_node m node (Some (with_answer (Some a) n))) (changes ++ note_of node n ∷ []) j ≡ Some b)
    go None f g = absurd (none-some b g)
    go (Some x) f g = (AtChange i, ap (option_and_then old_answer) (slice_get-push_old changes i x (note_of node n) f) ∙ g)

-- a run that the answer doesn't hold is live or not as it was
other_run : (old new : Store) (a : Kept) → OtherTracesStay old new (runs_of a) → (r : RunName) → (holds a r → ⊥) → run_in new r ≡ run_in old r
other_run old new a others (InTraces n) not = ap (option_map (λ xs. Entries xs)) (others.0 (Some n) (λ e. not (sym e)))
other_run old new a others (InValues n) not = ap (option_map (λ xs. Values xs)) (others.1 (Some n) (λ e. not (sym e)))

no_run : (a b : Kept) → HoldOwnRuns a b → (r : RunName) → holds a r → holds b r → ⊥
no_run a b own (InTraces n) h i = own.entries n h i
no_run a b own (InValues n) h i = own.values n h i

pub stored_set : (m : Nodes Kept) (changes : List (Change Kept)) (root node : ℕ) (n : Node Kept) (old new : Store) (asked : Option Kept) (a : Kept)
    → m node ≡ Some n → IsNew old new asked a → IsStored m changes root old
    → IsStored (with_node m node (Some (with_answer (Some a) n))) (changes ++ note_of node n ∷ []) root new
stored_set m changes root node n old new asked a is news h = record {
  sound =
      AreSound-push root changes (changes ++ note_of node n ∷ []) (note_of node n) m (with_node m node (Some (with_answer (Some a) n))) refl
      (set_back root changes (note_of node n) m node n (with_answer (Some a) n) set)
      (set_sound root changes (note_of node n) m node n (with_answer (Some a) n) set (AreSound-now root changes m h.sound)) h.sound;
  made = λ k b e. made_by k b (came m changes node n a is k b e);
  once = λ k i b c r e f hb hc. once_by k i b c r (came m changes node n a is k b e) (came m changes node n a is i c f) hb hc;
  freed = λ r not.
      other_run old new a news.others r (λ of. not (AtNode node, a, ap (option_and_then answer_of) (put_same m node node (Some (with_answer (Some a) n)) refl), of))
      ∙ h.freed r (λ of. not (let k = kept_still m changes node n a is of.0 of.1 of.2 in (k.0, of.1, k.1, of.3)));
}
  where
    set : IsSet root changes (note_of node n) m node n (with_answer (Some a) n)
    set = set_answer root changes m node n (Some a) (AreSound-now root changes m h.sound) is

    made_by : (k : AnswerKeeper) (b : Kept) → Came m changes node a k b → IsMade new b
    made_by k b (is_new e f) = subst (IsMade new) f news.made
    made_by k b (is_old e f) = (stays_new old new asked b a news (h.made (source node (length changes) k) b f)).made

    once_by : (k i : AnswerKeeper) (b c : Kept) (r : RunName) → Came m changes node a k b → Came m changes node a i c → holds b r → holds c r → k ≡ i
    once_by k i b c r (is_new e f) (is_new e' f') hb hc = e ∙ sym e'
    once_by k i b c r (is_new e f) (is_old e' f') hb hc =
        absurd (no_run a c (own_runs old new asked c a news (h.made (source node (length changes) i) c f')) r (subst (λ x. holds x r) (sym f) hb) hc)
    once_by k i b c r (is_old e f) (is_new e' f') hb hc =
        absurd (no_run a b (own_runs old new asked b a news (h.made (source node (length changes) k) b f)) r (subst (λ x. holds x r) (sym f') hc) hb)
    once_by k i b c r (is_old e f) (is_old e' f') hb hc =
        source_once node (length changes) k i e e' (h.once (source node (length changes) k) (source node (length changes) i) b c r f f' hb hc)

-- no run comes to live
abbrev pub NoneComes : Store → Store → Type 0
NoneComes old new = (r : RunName) → run_in old r ≡ None → run_in new r ≡ None

pub none_kept : (old new : Store) → StaysAsKept old new → NoneComes old new
none_kept old new stays (InTraces n) e = ap (λ slots. option_map (λ xs. Entries xs) (option_and_then (λ slot. slot.list) (slice_get slots n))) stays.traces.runs ∙ e
none_kept old new stays (InValues n) e = ap (λ slots. option_map (λ xs. Values xs) (option_and_then (λ slot. slot.list) (slice_get slots n))) stays.values.runs ∙ e

-- where the runs of an answer came to live, and are gone again
pub none_back : (old mid new : Store) (a : Kept) → OtherTracesStay old mid (runs_of a) → AreGone new (runs_of a) → OtherTracesStay mid new (runs_of a)
    → NoneComes old new
none_back old mid new a came gone others (InTraces n) e = by a.entries refl
  where
    other : (a.entries ≡ Some n → ⊥) → run_in new (InTraces n) ≡ None
    other ne = other_run mid new a others (InTraces n) ne ∙ other_run old mid a came (InTraces n) ne ∙ e

    by : (o : Option ℕ) → a.entries ≡ o → run_in new (InTraces n) ≡ None
    by None f = other (λ g. none-some n (sym f ∙ g))
    by (Some j) f = elim (cases_eq j n) [
      | inl s ↦
          let is : a.entries ≡ Some n = f ∙ ap (λ k. Some k) s in
          ap (option_map (λ xs. Entries xs)) (subst (λ (o : Option ℕ). IfSome o (λ k. list_at new.traces k ≡ None)) is gone.0)
      | inr ne ↦ other (λ g. ne (same_Some j n (sym f ∙ g)))
    ]
none_back old mid new a came gone others (InValues n) e = by a.values refl
  where
    other : (a.values ≡ Some n → ⊥) → run_in new (InValues n) ≡ None
    other ne = other_run mid new a others (InValues n) ne ∙ other_run old mid a came (InValues n) ne ∙ e

    by : (o : Option ℕ) → a.values ≡ o → run_in new (InValues n) ≡ None
    by None f = other (λ g. none-some n (sym f ∙ g))
    by (Some j) f = elim (cases_eq j n) [
      | inl s ↦
          let is : a.values ≡ Some n = f ∙ ap (λ k. Some k) s in
          ap (option_map (λ xs. Values xs)) (subst (λ (o : Option ℕ). IfSome o (λ k. list_at new.values k ≡ None)) is gone.1)
      | inr ne ↦ other (λ g. ne (same_Some j n (sym f ∙ g)))
    ]

-- nothing changes but the store
pub stored_in : (m : Nodes Kept) (changes : List (Change Kept)) (root : ℕ) (old new : Store)
    → ((a : Kept) → IsMade old a → StaysMade old new a) → NoneComes old new → IsStored m changes root old → IsStored m changes root new
stored_in m changes root old new stays none h = record {
  sound = h.sound;
  made = λ k a e. (stays a (h.made k a e)).made;
  once = h.once;
  freed = λ r not. none r (h.freed r not);
}

pub all_made : (m : Nodes Kept) (changes : List (Change Kept)) (root : ℕ) (store : Store) → IsStored m changes root store → AllMade m store
all_made m changes root store h k a e = h.made (AtNode k) a e

-- 2. as the forest asks for it

some_run : {A B : Type 0} (f : A → B) (o : Option A) → IsSome o → IsSome (option_map f o)
some_run f None h = h
some_run f (Some a) h = refl

live_at : {T : Type 0} (pool : Pool T) (run : Option ℕ) (n : ℕ) → run ≡ Some n → IsLiveRun pool run → IsSome (list_at pool n)
live_at pool run n e h = subst (λ r. IsLiveRun pool r) e h

pub live_run : (s : Store) (a : Kept) → IsMade s a → (r : RunName) → holds a r → IsSome (run_in s r)
live_run s a h (InTraces n) e = some_run (λ xs. Entries xs) (list_at s.traces n) (live_at s.traces a.entries n e h.live.0)
live_run s a h (InValues n) e = some_run (λ xs. Values xs) (list_at s.values n) (live_at s.values a.values n e h.live.1)

pub are_made : (m : Nodes Kept) (changes : List (Change Kept)) (root : ℕ) (store : Store) → IsStored m changes root store
    → LiveApart run_in holds store (answers m changes)
are_made m changes root store h = record {
  made = λ k a r e held. live_run store a (h.made k a e) r held;
  once = λ k i a b r e f ha hb. h.once k i a b r e f ha hb;
}

-- 3. all changes are undone

entries_same : (x y : Option (List Entry)) → option_map (λ xs. Entries xs) x ≡ option_map (λ xs. Entries xs) y → x ≡ y
entries_same None None e = refl
entries_same None (Some y) e = cc
entries_same (Some x) None e = cc
entries_same (Some x) (Some y) e = cc

values_same : (x y : Option (List ℤ)) → option_map (λ xs. Values xs) x ≡ option_map (λ xs. Values xs) y → x ≡ y
values_same None None e = refl
values_same None (Some y) e = cc
values_same (Some x) None e = cc
values_same (Some x) (Some y) e = cc

same_entries : (old new : Store) (a : Kept) → ((r : RunName) → holds a r → run_in new r ≡ run_in old r) → list_of new.traces a.entries ≡ list_of old.traces a.entries
same_entries old new a h = by a.entries refl
  where
    by : (o : Option ℕ) → a.entries ≡ o → list_of new.traces o ≡ list_of old.traces o
    by None e = refl
    by (Some n) e = entries_same (list_at new.traces n) (list_at old.traces n) (h (InTraces n) e)

same_values : (old new : Store) (a : Kept) → ((r : RunName) → holds a r → run_in new r ≡ run_in old r) → list_of new.values a.values ≡ list_of old.values a.values
same_values old new a h = by a.values refl
  where
    by : (o : Option ℕ) → a.values ≡ o → list_of new.values o ≡ list_of old.values o
    by None e = refl
    by (Some n) e = values_same (list_at new.values n) (list_at old.values n) (h (InValues n) e)

-- the answers of these nodes stay, where all others' runs are given back
pub stay_kept : (m : Nodes Kept) (held : AnswerKeeper → Option Kept) (old new : Store) → AllMade m old → FreesAllBut run_in holds held (kept_by m) old new → AllStay m old new
stay_kept m held old new made frees k a e =
    let same : (r : RunName) → holds a r → run_in new r ≡ run_in old r = λ r h. frees.kept_runs r (AtNode k, a, e, h) in
    stays_made old new a (same_entries old new a same) (same_values old new a same) (made k a e)

-- where all runs but these were given back, a run that is none of these isn't live
pub freed_all : (held kept : AnswerKeeper → Option Kept) (old new : Store) → FreesAllBut run_in holds held kept old new
    → ((r : RunName) → (IsHeld run_in holds held r → ⊥) → run_in old r ≡ None)
    → (r : RunName) → (IsHeld run_in holds kept r → ⊥) → run_in new r ≡ None
freed_all held kept old new frees all r not = by (run_in new r) refl
  where
    by : (o : Option RunList) → run_in new r ≡ o → run_in new r ≡ None
    by None e = e
    by (Some x) e =
        let none : IsHeld run_in holds held r → ⊥ = λ is. none-some x (sym (frees.freed r is not) ∙ e) in
        absurd (none-some x (sym (frees.others r none ∙ all r none) ∙ e))

pub only_node : (m : Nodes Kept) (h : AnswerKeeper) (a : Kept) → answers m [] h ≡ Some a → (k : ℕ) × (answer_at m k ≡ Some a)
only_node m (AtNode k) a e = (k, e)
only_node m (AtChange i) a e = absurd (none-some a e)

pub stored_rest : (m : Nodes Kept) (changes : List (Change Kept)) (root : ℕ) (old new : Store) → IsStored m changes root old
    → AllMade (undone changes m) old → AllStay (undone changes m) old new → LiveApart run_in holds new (answers (undone changes m) [])
    → FreesAllBut run_in holds (answers m changes) (kept_by (undone changes m)) old new → IsStored (undone changes m) [] root new
stored_rest m changes root old new h made stays are frees = record {
  sound = AreSound-rest root (undone changes m) (AreSound-then root changes m h.sound);
  made = λ k a e. let n = only_node (undone changes m) k a e in (stays n.0 a n.1).made;
  once = λ k i a b r e f ha hb. are.once k i a b r e f ha hb;
  freed = freed_all (answers m changes) (kept_by (undone changes m)) old new frees h.freed;
}
