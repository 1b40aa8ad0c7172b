-- What is told of the level that was made last stays while only answers change.
use Rattle.std.proofs.Common.{◌≡◌, ◌<◌, ◌≤◌, ℕ, List, [], ◌∷◌, ◌++◌, length, Some, None, sym, ap, ◌∙◌, subst, inl, inr, arith}
use Rattle.std.specs.Prelude.{take, drop}
use Rattle.std.proofs.lemmas.List.{length-append, take-append-le, drop-append-le}
use Rattle.lsys_spec.specs.Rows.{In}
use Rattle.lsys_walks.specs.Stores.{Store}
use Rattle.lsys_match.specs.Kept.{Kept}
use Rattle.lsys_forest.specs.Nodes.{Nodes}
use Rattle.lsys_forest.specs.Groves.{Grove, IsRooted, now_of, rest_of, changes_in}
use Rattle.lsys_forest.specs.Rows.{level_nodes, level_spots}
use Rattle.lsys_forest.proofs.RowLemmas.{In_append}
use Rattle.lsys_reads.specs.Levels.{answer_at}
use Rattle.lsys_reads.specs.declared.seat.Seat.{Seat}
use Rattle.lsys_forest.specs.Pairs.{seen_at}
use Rattle.lsys_front.specs.Repairs.{Repair, now, rest, were, are}
use Rattle.lsys_front.specs.Turned.{AreTurnedBy}
use Rattle.lsys_front.proofs.TurnedLemmas.{same_turned}
use Rattle.lsys_front.specs.Fronts.{Differences, IsLevelFront}

-- 1. what differs

-- In this forest the level of a repair has the same nodes, with the same symbols.
pub record KeepsNodes (r : Repair) (h : Grove Kept) : Type 0 where
  pub sound : IsRooted h.root (changes_in h) (now_of h)
  pub root : h.root ≡ r.forest.root
  pub rest : rest_of h ≡ rest r
  pub nodes : level_nodes (now_of h) h.root r.level ≡ are r
  pub spots : level_spots (now_of h) h.root r.level ≡ level_spots (now r) r.forest.root r.level
  pub seen : (k : ℕ) → seen_at (now_of h) k ≡ seen_at (now r) k

-- and none lost its answer
pub record KeepsLevel (r : Repair) (h : Grove Kept) : Type 0 where
  pub sound : IsRooted h.root (changes_in h) (now_of h)
  pub root : h.root ≡ r.forest.root
  pub rest : rest_of h ≡ rest r
  pub nodes : level_nodes (now_of h) h.root r.level ≡ are r
  pub spots : level_spots (now_of h) h.root r.level ≡ level_spots (now r) r.forest.root r.level
  pub seen : (k : ℕ) → seen_at (now_of h) k ≡ seen_at (now r) k
  pub bare : (k : ℕ) → answer_at (now_of h) k ≡ None → answer_at (now r) k ≡ None

module _ (r : Repair) (h : Grove Kept) (st : Store) (x : KeepsNodes r h) where
  abbrev r' : Repair
  r' = record r { forest = h; store = st }

  were_same : were r' ≡ were r
  were_same = ap (λ (m : Nodes Kept). level_nodes m h.root r.level) x.rest ∙ ap (λ k. level_nodes (rest r) k r.level) x.root

  are_on : (k : ℕ) → In k (are r) → In k (are r')
  are_on k = subst (In k) (sym x.nodes)

  are_back : (k : ℕ) → In k (are r') → In k (are r)
  are_back k = subst (In k) x.nodes

  were_on : (k : ℕ) → In k (were r) → In k (were r')
  were_on k = subst (In k) (sym were_same)

  were_back : (k : ℕ) → In k (were r') → In k (were r)
  were_back k = subst (In k) were_same

  rest_seen : (k : ℕ) → seen_at (rest r') k ≡ seen_at (rest r) k
  rest_seen k = ap (λ (m : Nodes Kept). seen_at m k) x.rest

  rest_answer : (k : ℕ) → answer_at (rest r') k ≡ answer_at (rest r) k
  rest_answer k = ap (λ (m : Nodes Kept). answer_at m k) x.rest

  -- of some it is told that they lost their answers
  pub front_loses : (seats : List Seat) (d : Differences) (bare : List ℕ) → IsLevelFront r seats d → ((k : ℕ) → In k bare → In k (are r))
      → ((k : ℕ) (a : Kept) → In k (are r) → answer_at (rest r) k ≡ Some a → answer_at (now_of h) k ≡ None → In k bare)
      → IsLevelFront (record r { forest = h; store = st }) seats (record d { bare = bare })
  front_loses seats d bare f within all = record {
    differs = record {
      came = λ k. (
        λ i. let w = (f.differs.came k).0 i in (are_on k w.0, λ j. w.1 (were_back k j)),
        λ w. (f.differs.came k).1 (are_back k w.0, λ j. w.1 (were_on k j)),
      );
      gone = λ k. (
        λ i. let w = (f.differs.gone k).0 i in (were_on k w.0, λ j. w.1 (are_back k j)),
        λ w. (f.differs.gone k).1 (were_back k w.0, λ j. w.1 (are_on k j)),
      );
      changed = λ k. (
        λ i. let w = (f.differs.changed k).0 i in (are_on k w.0, were_on k w.1, λ e. w.2 (sym (x.seen k) ∙ e ∙ rest_seen k)),
        λ w. (f.differs.changed k).1 (are_back k w.0, were_back k w.1, λ e. w.2 (x.seen k ∙ e ∙ sym (rest_seen k))),
      );
    };
    gone_once = f.gone_once;
    turned =
        subst (λ (m : Nodes Kept). AreTurnedBy m h r.level seats (d.changes.came ++ d.turned)) (sym x.rest)
        (same_turned (rest r) r.forest h r.level seats (d.changes.came ++ d.turned) x.sound (record { root = x.root; nodes = x.nodes; spots = x.spots }) f.turned);
    turned_are = λ k i. are_on k (f.turned_are k i);
    bare_are = λ k i. are_on k (within k i);
    bare = λ k a i e n. all k a (are_back k i) (sym (rest_answer k) ∙ e) n;
  }

pub front_stays : (r : Repair) (h : Grove Kept) (st : Store) → KeepsLevel r h → (seats : List Seat) (d : Differences) → IsLevelFront r seats d → IsLevelFront (record r { forest = h; store = st }) seats d
front_stays r h st x seats d f =
    front_loses r h st (record { sound = x.sound; root = x.root; rest = x.rest; nodes = x.nodes; spots = x.spots; seen = x.seen }) seats d d.bare f f.bare_are (λ k a i e n. f.bare k a i e (x.bare k n))

-- 2. the nodes with another answer

-- Of these nodes the first ones, so many, are on levels above level t; and those after them on level t.
pub record AreByLevel (levels : ℕ → List ℕ) (t first : ℕ) (nodes : List ℕ) : Type 0 where
  pub within : first ≤ length nodes
  pub before : (k : ℕ) → In k (take first nodes) → (u : ℕ) × (u < t) × In k (levels u)
  pub here : (k : ℕ) → In k (drop first nodes) → In k (levels t)

pub one_here : (levels : ℕ → List ℕ) (t first : ℕ) (nodes : List ℕ) (k : ℕ) → In k (levels t) → AreByLevel levels t first nodes → AreByLevel levels t first (nodes ++ k ∷ [])
one_here levels t first nodes k on h = record {
  within = (let w = h.within in let l = length-append nodes (k ∷ []) in omega (arith, w, l));
  before = λ j i. h.before j (subst (In j) (take-append-le first nodes (k ∷ []) h.within) i);
  here = λ j i. elim (In_append (drop first nodes) (k ∷ []) j (subst (In j) (drop-append-le first nodes (k ∷ []) h.within) i)) [
    | inl o ↦ h.here j o
    | inr n ↦ elim n [ inl e ↦ subst (λ y. In y (levels t)) (sym e) on | inr none ↦ absurd none ]
  ];
}

pub by_same : (levels levels' : ℕ → List ℕ) (t first first' : ℕ) (nodes nodes' : List ℕ) → ((u : ℕ) → levels' u ≡ levels u) → first' ≡ first → nodes' ≡ nodes → AreByLevel levels t first nodes → AreByLevel levels' t first' nodes'
by_same levels levels' t first first' nodes nodes' same e f h =
    subst (λ n. AreByLevel levels' t n nodes') (sym e) (subst (AreByLevel levels' t first) (sym f) (record {
      within = h.within;
      before = λ k i. let w = h.before k i in (w.0, w.1, subst (In k) (sym (same w.0)) w.2);
      here = λ k i. subst (In k) (sym (same t)) (h.here k i);
    }))
