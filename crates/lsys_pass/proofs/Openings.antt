-- A pass at rest: the opening system, and the last rest.
use Rattle.std.proofs.Common.{◌≡◌, ◌≢◌, ℕ, zero, suc, ◌<◌, Bool, true, false, List, [], ◌∷◌, map, length, Option, Some, None, refl, sym, ap, ◌∙◌, subst, inl, inr, arith}
use Rattle.std.specs.Prelude.{ℤ, Ok, nat_lt, slice_get, get_or, option_map}
use Rattle.std.specs.Option.{option_and_then}
use Rattle.std.proofs.lemmas.Bool.{cases_eq}
use Rattle.std.proofs.lemmas.Option.{none-some, same_Some}
use Rattle.std.proofs.lemmas.Bool.Decides.{nat_tests}
use Rattle.lsys_spec.specs.Draws.{number_base}
use Rattle.lsys_spec.specs.Systems.{opening}
use Rattle.lsys_spec.specs.Meaning.{meaning}
use Rattle.lsys_spec.specs.Questions.{questions}
use Rattle.lsys_laws.proofs.KeptPlain.{opening_well}
use Rattle.lsys_spec.specs.Levels.{LevelSymbol, level_balanced}
use Rattle.lsys_level.specs.Spots.{level_by}
use Rattle.lsys_reads.specs.Rows.{has}
use Rattle.lsys_region.specs.Pool.{Pool, empty_pool, list_at}
use Rattle.lsys_walks.specs.declared.entry.Entry.{Entry}
use Rattle.lsys_walks.specs.Stores.{Store}
use Rattle.lsys_match.specs.Kept.{Kept}
use Rattle.lsys_reads.specs.Relations.{Relations, is_settled}
use Rattle.lsys_laws.specs.Nodes.{Kin}
use Rattle.lsys_forest.specs.Nodes.{Node, Nodes, root_node}
use Rattle.lsys_forest.specs.Answers.{AnswerKeeper, AtNode, AtChange, answer_of, answers}
use Rattle.lsys_forest.specs.Groves.{AreKids, HasFew, IsRooted}
use Rattle.lsys_forest.specs.Rows.{kids_in, kids_below, spot_in, level_nodes, level_spots}
use Rattle.lsys_forest.proofs.SoundLemmas.{AreSound-rest}
use Rattle.lsys_reads.specs.declared.seat.Seat.{Seat}
use Rattle.lsys_reads.specs.Names.{RunName, InTraces, InValues, Entries, Values, run_in}
use Rattle.lsys_reads.specs.Lineages.{kin_of, kins, names}
use Rattle.lsys_reads.specs.Levels.{answer_at}
use Rattle.lsys_reads.specs.Meant.{levels_meant}
use Rattle.lsys_pass.specs.Rests.{IsResting}
use Rattle.lsys_pass.specs.Stages.{IsStored}

none_over : (m : ℕ) → nat_lt m 0 ≡ false
none_over m = grind (arith, nat_tests)

-- the forest of the root alone
pub record IsAlone (m : Nodes Kept) (root : ℕ) : Type 0 where
  pub others : (k : ℕ) → k ≢ root → m k ≡ None
  pub alone : m root ≡ Some (root_node root)

pub only_root : (m : Nodes Kept) (root k : ℕ) (n : Node Kept) → IsAlone m root → m k ≡ Some n → (k ≡ root) × (n ≡ root_node root)
only_root m root k n h e = elim (cases_eq k root) [
  | inl s ↦ (s, same_Some n (root_node root) (sym e ∙ ap m s ∙ h.alone))
  | inr ne ↦ absurd (none-some n (sym (h.others k ne) ∙ e))
]

no_answer : (m : Nodes Kept) (root k : ℕ) → IsAlone m root → answer_at m k ≡ None
no_answer m root k h = by (m k) refl
  where
    by : (o : Option (Node Kept)) → m k ≡ o → option_and_then answer_of o ≡ None
    by None e = refl
    by (Some n) e = ap (λ (n : Node Kept). n.answer) (only_root m root k n h e).1

pub alone_sound : (m : Nodes Kept) (root : ℕ) → IsAlone m root → IsRooted root [] m
alone_sound m root h = record {
  root_lives = (root_node root, h.alone, refl);
  held = λ x n e other. absurd (other (only_root m root x n h e).0);
  own = λ p n e. subst (λ (q : Node Kept). AreKids m root p q.kids) (sym (only_root m root p n h e).1) (record { under = λ x i. absurd i; apart = tt });
  few = λ k n e. subst (λ (q : Node Kept). HasFew q.seen) (sym (only_root m root k n h e).1) tt;
}

pub no_levels : (m : Nodes Kept) (root t : ℕ) → IsAlone m root → level_nodes m root t ≡ []
no_levels m root zero h = ap kids_in h.alone
no_levels m root (suc t) h = ap (kids_below m) (no_levels m root t h)

nothing : {A : Type 0} (p : ℕ) (xs : List A) (k : A) → xs ≡ [] → slice_get xs p ≡ Some k → ⊥
nothing p xs k e f = let n : None ≡ Some k = ap (λ ys. slice_get ys p) (sym e) ∙ f in none-some k n

pub alone_rests : {listed : Bool} (m : Nodes Kept) (root limit : ℕ) (store : Store) (reads : Relations) (seats : List Seat) → IsAlone m root → reads.settled ≡ [] → IsResting listed opening limit m root store reads seats
alone_rests m root limit store reads seats h none = record {
  spelled = opening_well.1;
  is = is;
  levels = record {
    each = λ t l. ap (level_by (names m)) (spots t) ∙ sym (level t l);
    keys = λ t p a l e. absurd (nothing p (level_spots m root t) a (spots t) e);
    balanced = λ t l. ap (λ xs. level_balanced 0 (level_by (λ tag. []) xs)) (spots t);
  };
  ends = no_levels m root (length (levels_meant opening limit)) h;
  counts = λ k n e. (let z = ap (λ (q : Node Kept). q.count) (only_root m root k n h e).1 in let b : number_base ≡ 4096 = refl in omega (arith, z, b));
  once = record {
    root_lives = (kin_of {A = Kept} (root_node root), ap (option_map (kin_of {A = Kept})) h.alone, refl);
    held = λ k n e other. absurd (other (kin_root k n e));
    once = λ j k a b e f other other' p n. absurd (other (kin_root j a e));
  };
  reached = λ k n e. (zero, (only_root m root k n h e).0);
  answered = λ t p k l e. absurd (nothing p (level_nodes m root t) k (no_levels m root t h) e);
  others = λ k i. no_answer m root k h;
  made = λ k a e. absurd (none-some a (sym (no_answer m root k h) ∙ e));
  read = λ known reader seen. (
    λ e. absurd (let f : false ≡ true = sym (unsettled reader seen) ∙ e in cc),
    λ r. absurd (none-some r.answer (sym (no_answer m root reader h) ∙ r.kept)),
  );
  seated = λ t p k e. absurd (nothing p (level_nodes m root t) k (no_levels m root t h) e);
}
  where
    is : meaning opening limit ≡ Ok (levels_meant opening limit)
    is = rw (none_over limit) refl

    spots : (t : ℕ) → level_spots m root t ≡ []
    spots t = ap (map (λ k. spot_in k (m k))) (no_levels m root t h)

    meant_is : levels_meant opening limit ≡ [] ∷ []
    meant_is = rw (none_over limit) refl

    level : (t : ℕ) → t < length (levels_meant opening limit) → get_or (levels_meant opening limit) t [] ≡ []
    level t l = ap (λ xs. get_or xs t []) meant_is ∙ by t
      where
        by : (u : ℕ) → get_or {A = List LevelSymbol} ([] ∷ []) u [] ≡ []
        by zero = refl
        by (suc u) = refl

    kin_root : (k : ℕ) (n : Kin) → kins m k ≡ Some n → k ≡ root
    kin_root k n e = by (m k) refl e
      where
        by : (o : Option (Node Kept)) → m k ≡ o → option_map kin_of o ≡ Some n → k ≡ root
        by None f g = absurd (none-some n g)
        by (Some q) f g = (only_root m root k q h f).0

    unsettled : (reader seen : ℕ) → is_settled reads reader seen ≡ false
    unsettled reader seen = ap (λ (xs : List (List ℕ)). has (get_or xs seen []) reader) none ∙ by seen
      where
        by : (u : ℕ) → has (get_or {A = List ℕ} [] u []) reader ≡ false
        by zero = refl
        by (suc u) = refl

-- no run of a new store is live
pub none_live : (store : Store) → store.traces ≡ empty_pool → store.values ≡ empty_pool → (r : RunName) → run_in store r ≡ None
none_live store traces values (InTraces n) = ap (λ (p : Pool Entry). option_map (λ xs. Entries xs) (list_at p n)) traces
none_live store traces values (InValues n) = ap (λ (p : Pool ℤ). option_map (λ xs. Values xs) (list_at p n)) values

pub alone_stored : (m : Nodes Kept) (root : ℕ) (store : Store) → IsAlone m root → ((r : RunName) → run_in store r ≡ None) → IsStored m [] root store
alone_stored m root store h bare = record {
  sound = AreSound-rest root m (alone_sound m root h);
  made = λ k a e. absurd (none k a e);
  once = λ k i a b r e f ha hb. absurd (none k a e);
  freed = λ r not. bare r;
}
  where
    none : (k : AnswerKeeper) (a : Kept) → answers m [] k ≡ Some a → ⊥
    none (AtNode k) a e = none-some a (sym (no_answer m root k h) ∙ e)
    none (AtChange i) a e = none-some a e

-- the opening system has one level, and so no questions
pub opening_questions : (limit : ℕ) → questions opening (levels_meant opening limit) ≡ []
opening_questions limit = ap (questions opening) meant_is
  where
    meant_is : levels_meant opening limit ≡ [] ∷ []
    meant_is = rw (none_over limit) refl
