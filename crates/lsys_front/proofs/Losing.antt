-- Answers that are kept no more.
use Rattle.std.proofs.Common.{◌≡◌, ◌≢◌, ◌⊎◌, ◌≤◌, ℕ, List, [], ◌∷◌, ◌++◌, length, slice_get, Option, Some, None, refl, sym, ap, ◌∙◌, subst, arith, inl, inr}
use Rattle.std.specs.Prelude.{cond, nat_eq}
use Rattle.std.specs.Option.{option_and_then}
use Rattle.std.proofs.lemmas.Bool.{cases_eq}
use Rattle.std.proofs.lemmas.Grind.{common_steps}
use Rattle.std.proofs.lemmas.Option.{none-some}
use Rattle.lsys_region.proofs.ListLemmas.{slice_get-push_old, slice_get-push_new, slice_get-push_cases}
use Rattle.lsys_forest.specs.Nodes.{Node, Nodes, with_node, with_answer}
use Rattle.lsys_forest.specs.Changes.{Change, OldAnswer}
use Rattle.lsys_forest.specs.Answers.{AnswerKeeper, AtNode, AtChange, answer_of, old_answer, answers}
use Rattle.lsys_forest.specs.Groves.{Grove, Sets, now_of, rest_of, changes_in, kept_in, live_nodes}
use Rattle.lsys_forest.proofs.StockLemmas.{put_same, put_other}
use Rattle.lsys_front.specs.Losses.{KeepsOld, LosesOnly}

-- 1. keepers

-- who kept an answer before the change with this place, by which that of a node was taken
abbrev source : ℕ → ℕ → AnswerKeeper → AnswerKeeper
source node last (AtNode k) = AtNode k
source node last (AtChange i) = cond (nat_eq i last) (AtNode node) (AtChange i)

source_cases : (node last i : ℕ) → ((i ≡ last) × (source node last (AtChange i) ≡ AtNode node)) ⊎ ((i ≢ last) × (source node last (AtChange i) ≡ AtChange i))
source_cases node last i = elim (cases_eq i last) [
  | inl e ↦ inl (e, grind (arith, common_steps))
  | inr ne ↦ inr (ne, grind (arith, common_steps))
]

node_change : (i j : ℕ) → AtNode i ≡ AtChange j → ⊥
node_change i j e = cc

node_node : (i j : ℕ) → AtNode i ≡ AtNode j → i ≡ j
node_node i j e = cc

source_once : (node last : ℕ) (h i : AnswerKeeper) → h ≢ AtNode node → i ≢ AtNode node → source node last h ≡ source node last i → h ≡ i
source_once node last (AtNode k) (AtNode j) a b e = e
source_once node last (AtNode k) (AtChange j) a b e = elim (source_cases node last j) [
  | inl s ↦ absurd (a (e ∙ s.1))
  | inr s ↦ absurd (node_change k j (e ∙ s.1))
]
source_once node last (AtChange i) (AtNode k) a b e = elim (source_cases node last i) [
  | inl s ↦ absurd (b (sym e ∙ s.1))
  | inr s ↦ absurd (node_change k i (sym e ∙ s.1))
]
source_once node last (AtChange i) (AtChange j) a b e = elim (source_cases node last i) [
  | inl s ↦ elim (source_cases node last j) [
    | inl r ↦ ap AtChange (s.0 ∙ sym r.0)
    | inr r ↦ absurd (node_change node j (sym s.1 ∙ e ∙ r.1))
  ]
  | inr s ↦ elim (source_cases node last j) [
    | inl r ↦ absurd (node_change node i (sym r.1 ∙ sym e ∙ s.1))
    | inr r ↦ sym s.1 ∙ e ∙ r.1
  ]
]

module _ {A : Type 0} where
  pub keeps_same : (kept : AnswerKeeper → Option A) → KeepsOld kept kept
  keeps_same kept = record { from = λ h. h; came = λ h a e. e; apart = λ h i a b e f same. same; still = λ h a e. (h, e) }

  pub keeps_on : (old mid new : AnswerKeeper → Option A) → KeepsOld old mid → KeepsOld mid new → KeepsOld old new
  keeps_on old mid new one two = record {
    from = λ h. one.from (two.from h);
    came = λ h a e. one.came (two.from h) a (two.came h a e);
    apart = λ h i a b e f same. two.apart h i a b e f (one.apart (two.from h) (two.from i) a b (two.came h a e) (two.came i b f) same);
    still = λ h a e. let k = one.still h a e in two.still k.0 a k.1;
  }

  -- 2. the answer of a node is taken

  -- the note of what a node's answer was
  abbrev pub note_of : ℕ → Node A → Change A
  note_of node n = record { node = node; before = OldAnswer n.answer }

  record IsOther (m : Nodes A) (changes : List (Change A)) (node : ℕ) (h : AnswerKeeper) (a : A) : Type 0 where
    other : h ≢ AtNode node
    was : answers m changes (source node (length changes) h) ≡ Some a

  is_other : (m : Nodes A) (changes : List (Change A)) (node : ℕ) (n : Node A) → m node ≡ Some n → (h : AnswerKeeper) (a : A)
      → answers (with_node m node (Some (with_answer None n))) (changes ++ note_of node n ∷ []) h ≡ Some a → IsOther m changes node h a
  is_other m changes node n is (AtNode k) a e = elim (cases_eq k node) [
    | inl s ↦ absurd (none-some a (sym (ap (option_and_then answer_of) (put_same m node k (Some (with_answer None n)) s)) ∙ e))
    | inr ne ↦ record {
      other = λ q. ne (node_node k node q);
      was = sym (ap (option_and_then answer_of) (put_other m node k (Some (with_answer None n)) ne)) ∙ e;
    }
  ]
  is_other m changes node n is (AtChange i) a e = go (slice_get (changes ++ note_of node n ∷ []) i) refl e
    where
      other : AtChange i ≢ AtNode node
      other q = node_change node i (sym q)

      go : (o : Option (Change A)) → slice_get (changes ++ note_of node n ∷ []) i ≡ o → option_and_then old_answer o ≡ Some a → IsOther m changes node (AtChange i) a
      go None f g = absurd (none-some a g)
      go (Some x) f g = elim (slice_get-push_cases changes i (note_of node n) x f) [
        | inl new ↦ elim (source_cases node (length changes) i) [
          | inl s ↦ record { other = other; was = ap (answers m changes) s.1 ∙ ap (option_and_then answer_of) is ∙ ap old_answer new.1 ∙ g }
          | inr s ↦ absurd (s.0 new.0)
        ]
        | inr old ↦ elim (source_cases node (length changes) i) [
          | inl s ↦ absurd (let l : i ≡ length changes = s.0 in omega (arith, l, old.0))
          | inr s ↦ record { other = other; was = ap (answers m changes) s.1 ∙ ap (option_and_then old_answer) old.1 ∙ g }
        ]
      ]

  -- each answer that was kept is kept still
  kept_still : (m : Nodes A) (changes : List (Change A)) (node : ℕ) (n : Node A) → m node ≡ Some n → (h : AnswerKeeper) (a : A) → answers m changes h ≡ Some a
      → (i : AnswerKeeper) × (answers (with_node m node (Some (with_answer None n))) (changes ++ note_of node n ∷ []) i ≡ Some a)
  kept_still m changes node n is (AtNode k) a e = elim (cases_eq k node) [
    | inl s ↦ (
      AtChange (length changes),
      ap (option_and_then old_answer) (slice_get-push_new changes (note_of node n)) ∙ sym (ap (option_and_then answer_of) (ap m s ∙ is)) ∙ e,
    )
    | inr ne ↦ (AtNode k, ap (option_and_then answer_of) (put_other m node k (Some (with_answer None n)) ne) ∙ e)
  ]
  kept_still m changes node n is (AtChange i) a e = go (slice_get changes i) refl e
    where
      go : (o : Option (Change A)) → slice_get changes i ≡ o → option_and_then old_answer o ≡ Some a
          → (j : AnswerKeeper) × (answers (with_node m node (Some (with_answer None n))) (changes ++ note_of node n ∷ []) j ≡ Some a)
      go None f g = absurd (none-some a g)
      go (Some x) f g = (AtChange i, ap (option_and_then old_answer) (slice_get-push_old changes i x (note_of node n) f) ∙ g)

  pub keeps_others : (m : Nodes A) (changes : List (Change A)) (node : ℕ) (n : Node A) → m node ≡ Some n
      → KeepsOld (answers m changes) (answers (with_node m node (Some (with_answer None n))) (changes ++ note_of node n ∷ []))
  keeps_others m changes node n is = record {
    from = source node (length changes);
    came = λ h a e. (is_other m changes node n is h a e).was;
    apart = λ h i a b e f same. source_once node (length changes) h i (is_other m changes node n is h a e).other (is_other m changes node n is i b f).other same;
    still = kept_still m changes node n is;
  }

  -- 3. forests

  pub loses_none : (f : Grove A) → LosesOnly f f
  loses_none f = record { kept = keeps_same (kept_in f); rest = refl; root = refl; live = omega arith }

  pub loses_on : (f g h : Grove A) → LosesOnly f g → LosesOnly g h → LosesOnly f h
  loses_on f g h one two = record {
    kept = keeps_on (kept_in f) (kept_in g) (kept_in h) one.kept two.kept;
    rest = two.rest ∙ one.rest;
    root = two.root ∙ one.root;
    live = omega (arith, one.live, two.live);
  }

  -- an answer of a node is taken
  pub loses_answer : (f h : Grove A) (node : ℕ) (n : Node A) → now_of f node ≡ Some n → Sets f h node (with_answer None n)
      → changes_in h ≡ changes_in f ++ note_of node n ∷ [] → live_nodes h ≤ live_nodes f → LosesOnly f h
  loses_answer f h node n is sets noted live = record {
    kept =
        subst (λ (m : Nodes A). KeepsOld (kept_in f) (answers m (changes_in h))) (sym sets.now)
        (subst (λ (cs : List (Change A)). KeepsOld (kept_in f) (answers (with_node (now_of f) node (Some (with_answer None n))) cs)) (sym noted) (keeps_others (now_of f) (changes_in f) node n is));
    rest = sets.rest;
    root = sets.root;
    live = live;
  }

  -- who keeps which answer stays
  pub loses_no_answer : (f h : Grove A) → kept_in h ≡ kept_in f → rest_of h ≡ rest_of f → h.root ≡ f.root → live_nodes h ≤ live_nodes f → LosesOnly f h
  loses_no_answer f h kept rest root live = record {
    kept = subst (KeepsOld (kept_in f)) (sym kept) (keeps_same (kept_in f));
    rest = rest;
    root = root;
    live = live;
  }
