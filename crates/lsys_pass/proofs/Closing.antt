-- A pass that is closed: the nodes that are reached are the levels of the new system.
use Rattle.std.proofs.Common.{◌≡◌, ◌≢◌, ◌⊎◌, ◌+◌, ◌<◌, ◌≤◌, ◌&&◌, ◌||◌, ℕ, zero, suc, Bool, true, false, List, [], ◌∷◌, ◌++◌, length, map, Option, Some, None, refl, sym, ap, ◌∙◌, subst, inl, inr, arith, slice_get}
use Rattle.std.specs.Prelude.{◌-◌, IsSome, not, option_map}
use Rattle.std.specs.Option.{option_and_then}
use Rattle.std.proofs.lemmas.Bool.{cases_lt}
use Rattle.std.proofs.lemmas.Option.{none-some, same_Some}
use Rattle.lsys_spec.specs.Rows.{In, first_in, flat}
use Rattle.lsys_spec.specs.Draws.{key_of}
use Rattle.lsys_spec.specs.Levels.{level_balanced}
use Rattle.lsys_spec.specs.Levels as L
use Rattle.lsys_spec.specs.Standings.{mate_at}
use Rattle.lsys_level.specs.Spots.{Spotted, with_lineage, named, level_by}
use Rattle.lsys_laws.specs.Nodes.{Kin, AreOnce, Extends}
use Rattle.lsys_laws.specs.Seams.{node_before}
use Rattle.lsys_laws.proofs.KeptLineages.{stays}
use Rattle.lsys_laws.proofs.UpTo.{level_count}
use Rattle.lsys_walks.specs.Stores.{Store}
use Rattle.lsys_match.specs.Kept.{Kept}
use Rattle.lsys_match.specs.KeptAnswers.{StaysMade}
use Rattle.lsys_reads.specs.Rows.{has}
use Rattle.lsys_reads.specs.Relations.{Relations, is_settled, is_pending}
use Rattle.lsys_forest.specs.Nodes.{Node, Nodes}
use Rattle.lsys_forest.specs.Changes.{Change}
use Rattle.lsys_forest.specs.Answers.{answer_of}
use Rattle.lsys_forest.specs.Groves.{IsRooted, ReachedIn, Reached}
use Rattle.lsys_forest.specs.Rows.{kids_in, spot_in, level_nodes, level_spots}
use Rattle.lsys_forest.proofs.RowLemmas.{flat_In, level_depth}
use Rattle.lsys_forest.proofs.WalkLemmas.{get_In}
use Rattle.lsys_reads.specs.Lineages.{kin_of, kins, names}
use Rattle.lsys_reads.specs.Levels.{HaveLevels, AnsweredAt, AnsweredIn, level_of, answer_at, tags_read, HasRead}
use Rattle.lsys_reads.specs.Meant.{levels_meant}
use Rattle.lsys_reads.specs.declared.seat.Seat.{Seat}
use Rattle.lsys_reads.specs.Neighbours.{Neighbours, neighbours_on}
use Rattle.lsys_reads.specs.Seats.{neighbours_at}
use Rattle.lsys_pass.specs.Readers.{AreReaders}
use Rattle.lsys_pass.specs.Rests.{IsResting}
use Rattle.lsys_pass.specs.Stages.{Stage, was, IsDone}
use Rattle.lsys_pass.proofs.Stores.{answered_stays, tags_stay}
use Rattle.lsys_pass.proofs.Before.{no_more, answer_lives}
use Rattle.lsys_pass.proofs.Settling.{has_in, in_has, In_cases}

-- 1. what is the same for some nodes

flat_same : (f g : ℕ → List ℕ) (xs : List ℕ) → ((k : ℕ) → In k xs → f k ≡ g k) → flat f xs ≡ flat g xs
flat_same f g [] h = refl
flat_same f g (x ∷ xs) h = ap (λ (l : List ℕ). l ++ flat f xs) (h x (inl refl)) ∙ ap (λ (l : List ℕ). g x ++ l) (flat_same f g xs (λ k i. h k (inr i)))

map_same : {B : Type 0} (f g : ℕ → B) (xs : List ℕ) → ((k : ℕ) → In k xs → f k ≡ g k) → map f xs ≡ map g xs
map_same f g [] h = refl
map_same f g (x ∷ xs) h = ap (λ b. b ∷ map f xs) (h x (inl refl)) ∙ ap (λ l. g x ∷ l) (map_same f g xs (λ k i. h k (inr i)))

tag_is : (k : ℕ) (o : Option (Node Kept)) → (spot_in k o).tag ≡ k
tag_is k None = refl
tag_is k (Some n) = refl

-- a node of a level is reached
level_reached : (m : Nodes Kept) (root t k : ℕ) → In k (level_nodes m root t) → ReachedIn m root (suc t) k
level_reached m root zero k h = by (m root) refl h
  where
    by : (o : Option (Node Kept)) → m root ≡ o → In k (kids_in o) → ReachedIn m root 1 k
    by None e i = absurd i
    by (Some n) e i = (root, n, refl, e, i)
level_reached m root (suc t) k h =
    let from = flat_In (λ i. kids_in (m i)) (level_nodes m root t) k h in
    by (m from.0) refl from.2 (level_reached m root t from.0 from.1)
  where
    by : {p : ℕ} (o : Option (Node Kept)) → m p ≡ o → In k (kids_in o) → ReachedIn m root (suc t) p → ReachedIn m root (suc (suc t)) k
    by None e i r = absurd i
    by {p = p} (Some n) e i r = (p, n, r, e, i)

pub on_reached : (m : Nodes Kept) (root t k : ℕ) → In k (level_nodes m root t) → Reached m root k
on_reached m root t k h = (suc t, level_reached m root t k h)

-- 2. the nodes that are reached

module _ (m m' : Nodes Kept) (root : ℕ) (changes : List (Change Kept)) (sound : IsRooted root changes m) (stay : (k : ℕ) → Reached m root k → m' k ≡ m k) (only : (k : ℕ) → IsSome (m' k) → Reached m root k) where
  -- what lives now lived
  pub lived : (k : ℕ) (n : Node Kept) → m' k ≡ Some n → m k ≡ Some n
  lived k n e = sym (stay k (only k (subst IsSome (sym e) refl))) ∙ e

  parent_reached : (d k : ℕ) → ReachedIn m root d k → (n : Node Kept) → m k ≡ Some n → k ≢ root → (p : Node Kept) × (m' n.parent ≡ Some p) × In k p.kids × (n.depth ≡ p.depth + 1)
  parent_reached zero k h n e other = absurd (other h)
  parent_reached (suc d) k h n e other =
      let under = (sound.own h.0 h.1 h.3).under k h.4 in
      let same : under.node ≡ n = same_Some under.node n (sym under.is ∙ e) in
      let parent_is : n.parent ≡ h.0 = ap (λ (q : Node Kept). q.parent) (sym same) ∙ under.parent_is in
      let held = sound.held k n e other in
      let above : held.parent ≡ h.1 = same_Some held.parent h.1 (sym held.is ∙ ap m parent_is ∙ h.3) in
      (h.1, ap m' parent_is ∙ stay h.0 (d, h.2) ∙ h.3, h.4, held.depth ∙ ap (λ (q : Node Kept). q.depth + 1) above)

  pub closed_sound : IsRooted root [] m'
  closed_sound = record {
    root_lives = (sound.root_lives.0, stay root (0, refl) ∙ sound.root_lives.1, sound.root_lives.2);
    held = λ k n e other.
        let r = only k (subst IsSome (sym e) refl) in
        let p = parent_reached r.0 k r.1 n (lived k n e) other in
        record { parent = p.0; is = p.1; depth = p.3; linked = inl p.2 };
    own = λ p n e.
        let r = only p (subst IsSome (sym e) refl) in
        let are = sound.own p n (lived p n e) in
        record {
          under = λ k i.
              let u = are.under k i in
              record { node = u.node; is = stay k (suc r.0, (p, n, r.1, lived p n e, i)) ∙ u.is; parent_is = u.parent_is; other = u.other };
          apart = are.apart;
        };
    few = λ k n e. sound.few k n (lived k n e);
  }

  pub closed_nodes : (t : ℕ) → level_nodes m' root t ≡ level_nodes m root t
  closed_nodes zero = ap kids_in (stay root (0, refl))
  closed_nodes (suc t) =
      ap (flat (λ k. kids_in (m' k))) (closed_nodes t) ∙ flat_same (λ k. kids_in (m' k)) (λ k. kids_in (m k)) (level_nodes m root t) (λ k i. ap kids_in (stay k (on_reached m root t k i)))

  same_on : (t k : ℕ) → In k (level_nodes m root t) → m' k ≡ m k
  same_on t k i = stay k (on_reached m root t k i)

  pub closed_spots : (t : ℕ) → level_spots m' root t ≡ level_spots m root t
  closed_spots t =
      ap (map (λ k. spot_in k (m' k))) (closed_nodes t) ∙ map_same (λ k. spot_in k (m' k)) (λ k. spot_in k (m k)) (level_nodes m root t) (λ k i. ap (spot_in k) (same_on t k i))

  pub closed_reached : (d k : ℕ) → ReachedIn m root d k → ReachedIn m' root d k
  closed_reached zero k h = h
  closed_reached (suc d) k h = (h.0, h.1, closed_reached d h.0 h.2, stay h.0 (d, h.2) ∙ h.3, h.4)

  pub extends : Extends (kins m') (kins m)
  extends k n e = by (m' k) refl e
    where
      by : (o : Option (Node Kept)) → m' k ≡ o → option_map kin_of o ≡ Some n → kins m k ≡ Some n
      by None f g = absurd (none-some n g)
      by (Some q) f g = ap (option_map kin_of) (lived k q f) ∙ g

  node_of_kin : (k : ℕ) (n : Kin) → kins m' k ≡ Some n → (q : Node Kept) × (m' k ≡ Some q) × (kin_of q ≡ n)
  node_of_kin k n e = by (m' k) refl e
    where
      by : (o : Option (Node Kept)) → m' k ≡ o → option_map kin_of o ≡ Some n → (q : Node Kept) × (m' k ≡ Some q) × (kin_of q ≡ n)
      by None f g = absurd (none-some n g)
      by (Some q) f g = (q, f, same_Some (kin_of q) n g)

  module _ (once : AreOnce (kins m) root) where
    pub closed_once : AreOnce (kins m') root
    closed_once = record {
      root_lives = (once.root_lives.0, ap (option_map kin_of) (stay root (0, refl)) ∙ once.root_lives.1, once.root_lives.2);
      held = λ k n e other.
          let q = node_of_kin k n e in
          let h = closed_sound.held k q.0 q.1 other in
          let par : q.0.parent ≡ n.parent = ap (λ (x : Kin). x.parent) q.2 in
          (kin_of h.parent, ap (option_map kin_of) (ap m' (sym par) ∙ h.is), ap (λ (x : Kin). x.depth) (sym q.2) ∙ h.depth);
      once = λ j k a b e f oj ok p n. once.once j k a b (extends j a e) (extends k b f) oj ok p n;
    }

    -- a node that lives has the lineage that it had
    pub closed_name : (t k : ℕ) → In k (level_nodes m root t) → names m' k ≡ names m k
    closed_name t k i =
        let d = level_depth root changes m sound t k i in
        sym (stays (kins m') (kins m) root k (kin_of d.0) closed_once extends (ap (option_map kin_of) (same_on t k i ∙ d.1)))

    closed_named : (t : ℕ) → level_by (names m') (level_spots m root t) ≡ level_by (names m) (level_spots m root t)
    closed_named t = by (level_nodes m root t) (λ k i. closed_name t k i)
      where
        by : (ks : List ℕ) → ((k : ℕ) → In k ks → names m' k ≡ names m k) → level_by (names m') (map (λ k. spot_in k (m k)) ks) ≡ level_by (names m) (map (λ k. spot_in k (m k)) ks)
        by [] h = refl
        by (k ∷ ks) h =
            let one : named (names m') (spot_in k (m k)) ≡ named (names m) (spot_in k (m k)) = ap (λ l. with_lineage l (spot_in k (m k)).seen) (ap (names m') (tag_is k (m k)) ∙ h k (inl refl) ∙ ap (names m) (sym (tag_is k (m k)))) in
            ap (λ a. a ∷ level_by (names m') (map (λ k. spot_in k (m k)) ks)) one
            ∙ ap (λ (l : List L.LevelSymbol). named (names m) (spot_in k (m k)) ∷ l) (by ks (λ j i. h j (inr i)))

    pub closed_level : (t : ℕ) → level_of m' root t ≡ level_of m root t
    closed_level t = ap (level_by (names m')) (closed_spots t) ∙ closed_named t

    tag_in : (ks : List ℕ) (p : ℕ) (a : Spotted) → slice_get (map (λ i. spot_in i (m i)) ks) p ≡ Some a → In a.tag ks
    tag_in [] p a h = absurd (none-some a h)
    tag_in (i ∷ ks) zero a h = let f : spot_in i (m i) ≡ a = same_Some (spot_in i (m i)) a h in inl (ap (λ (b : Spotted). b.tag) (sym f) ∙ tag_is i (m i))
    tag_in (i ∷ ks) (suc p) a h = inr (tag_in ks p a h)

    pub closed_levels : (seed : ℕ) (xs : List (List L.LevelSymbol)) → HaveLevels m root seed xs → HaveLevels m' root seed xs
    closed_levels seed xs h = record {
      each = λ t l. closed_level t ∙ h.each t l;
      keys = λ t p a l e.
          let there = ap (λ (r : List Spotted). slice_get r p) (sym (closed_spots t)) ∙ e in
          h.keys t p a l there ∙ ap (key_of seed) (sym (closed_name t a.tag (tag_in (level_nodes m root t) p a there)));
      balanced = λ t l. ap (λ (r : List Spotted). level_balanced 0 (level_by (λ tag. []) r)) (closed_spots t) ∙ h.balanced t l;
    }

  -- the neighbours, by what is seen of the level's nodes
  abbrev neighbours_by : List ℕ → ℕ → List Spotted → Neighbours
  neighbours_by xs p row = record {
    left = node_before xs p;
    right = slice_get xs (p + 1);
    mate = option_and_then first_in (mate_at (map (named (λ k. k ∷ [])) row) p (slice_get (map (named (λ k. k ∷ [])) row) p));
  }

  pub closed_neighbours : (t p : ℕ) → neighbours_on m' (level_nodes m' root t) p ≡ neighbours_on m (level_nodes m root t) p
  closed_neighbours t p =
      ap (λ (xs : List ℕ). neighbours_by xs p (level_spots m' root t)) (closed_nodes t) ∙ ap (neighbours_by (level_nodes m root t) p) (closed_spots t)

-- 3. who read what

data Way (g d o p : Bool) : Type 0 where
  pending : p ≡ true → Way g d o p
  old : g ≡ false → d ≡ false → o ≡ true → Way g d o p

way : (g d o p : Bool) → ((not g && (not d && o)) || p) ≡ true → Way g d o p
way g d o true h = pending refl
way true d o false h = cc
way false true o false h = cc
way false false true false h = old refl refl refl
way false false false false h = cc

from_old : (g d o p : Bool) → g ≡ false → d ≡ false → o ≡ true → ((not g && (not d && o)) || p) ≡ true
from_old true d o p e f h = cc
from_old false true o p e f h = cc
from_old false false false p e f h = cc
from_old false false true p e f h = refl

from_pending : (g d o p : Bool) → p ≡ true → ((not g && (not d && o)) || p) ≡ true
from_pending g d o false h = cc
from_pending true d o true h = refl
from_pending false true o true h = refl
from_pending false false true true h = refl
from_pending false false false true h = refl

module _ (s : Stage) (d : IsDone s) (m' : Nodes Kept) (st : Store) (rd : Relations)
    (settle : (reader seen : ℕ) → is_settled rd reader seen ≡ ((not (has s.renewed reader) && (not (has s.dropped reader) && is_settled s.reads reader seen)) || is_pending s.reads reader seen))
    (stay : (k : ℕ) → Reached s.now s.root k → m' k ≡ s.now k) (only : (k : ℕ) → IsSome (m' k) → Reached s.now s.root k)
    (same : (k : ℕ) (a : Kept) → answer_at m' k ≡ Some a → StaysMade s.store st a) (known : s.listed ≡ true) where
  moved : (reader seen : ℕ) (a : Kept) → Reached s.now s.root reader → answer_at s.now reader ≡ Some a → In seen (tags_read s.store a) → HasRead m' st reader seen
  moved reader seen a r e i =
      let here : answer_at m' reader ≡ Some a = ap (option_and_then answer_of) (stay reader r) ∙ e in
      record { answer = a; kept = here; among = subst (In seen) (sym (tags_stay s.store st a (same reader a here))) i }

  not_in : (xs : List ℕ) (k : ℕ) → has xs k ≡ false → In k xs → ⊥
  not_in xs k e i = let f : true ≡ false = sym (in_has xs k i) ∙ e in cc

  none_in : (xs : List ℕ) (k : ℕ) → (In k xs → ⊥) → has xs k ≡ false
  none_in xs k h = by (has xs k) refl
    where
      by : (b : Bool) → has xs k ≡ b → has xs k ≡ false
      by true e = absurd (h (has_in xs k e))
      by false e = e

  old_read : (reader seen : ℕ) → has s.renewed reader ≡ false → has s.dropped reader ≡ false → (w : HasRead (was s) s.store reader seen)
      → In reader s.renewed ⊎ In reader s.dropped ⊎ (Reached s.now s.root reader × (answer_at s.now reader ≡ Some w.answer)) → HasRead m' st reader seen
  old_read reader seen g e w (inl i) = absurd (not_in s.renewed reader g i)
  old_read reader seen g e w (inr (inl i)) = absurd (not_in s.dropped reader e i)
  old_read reader seen g e w (inr (inr i)) = moved reader seen w.answer i.0 i.1 w.among

  to : (reader seen : ℕ) → Way (has s.renewed reader) (has s.dropped reader) (is_settled s.reads reader seen) (is_pending s.reads reader seen) → HasRead m' st reader seen
  to reader seen (pending p) =
      let r = (d.read known reader seen).0 p in
      let u = d.renewed_are reader r.0 in
      moved reader seen r.1.answer (on_reached s.now s.root u.0 reader u.2) r.1.kept r.1.among
  to reader seen (old g e o) = let w = (d.rest.read refl reader seen).0 o in old_read reader seen g e w (d.kept reader w.answer w.kept)

  from_by : (reader seen : ℕ) (a : Kept) → Reached s.now s.root reader → answer_at s.now reader ≡ Some a → In seen (tags_read s.store a) → In reader s.renewed ⊎ (In reader s.renewed → ⊥) → In reader s.renewed ⊎ (answer_at (was s) reader ≡ Some a)
      → ((not (has s.renewed reader) && (not (has s.dropped reader) && is_settled s.reads reader seen)) || is_pending s.reads reader seen) ≡ true
  from_by reader seen a r e i (inl j) q = from_pending (has s.renewed reader) (has s.dropped reader) (is_settled s.reads reader seen) (is_pending s.reads reader seen) ((d.read known reader seen).1 (j, record { answer = a; kept = e; among = i }))
  from_by reader seen a r e i (inr out) (inl j) = absurd (out j)
  from_by reader seen a r e i (inr out) (inr w) =
      from_old (has s.renewed reader) (has s.dropped reader) (is_settled s.reads reader seen) (is_pending s.reads reader seen) (none_in s.renewed reader out)
      (none_in s.dropped reader (λ j. none-some a (sym (d.dropped_are reader j r) ∙ e))) ((d.rest.read refl reader seen).1 (record { answer = a; kept = w; among = i }))

  pub closed_reads : AreReaders m' st rd
  closed_reads reader seen = (
    λ h. to reader seen (way (has s.renewed reader) (has s.dropped reader) (is_settled s.reads reader seen) (is_pending s.reads reader seen) (sym (settle reader seen) ∙ h)),
    λ h.
        let live = answer_lives m' reader h.answer h.kept in
        let r = only reader (subst IsSome (sym live.1) refl) in
        let there : answer_at s.now reader ≡ Some h.answer = sym (ap (option_and_then answer_of) (stay reader r)) ∙ h.kept in
        let among : In seen (tags_read s.store h.answer) = subst (In seen) (tags_stay s.store st h.answer (same reader h.answer h.kept)) h.among in
        settle reader seen ∙ from_by reader seen h.answer r there among (In_cases s.renewed reader) (d.fresh reader h.answer there),
  )

-- 4. at rest

module _ (s : Stage) (d : IsDone s) (changes : List (Change Kept)) (sound : IsRooted s.root changes s.now) where
  -- the root keeps no answer
  pub root_none : answer_at s.now s.root ≡ None
  root_none = by (answer_at s.now s.root) refl
    where
      by : (o : Option Kept) → answer_at s.now s.root ≡ o → answer_at s.now s.root ≡ None
      by None e = e
      by (Some a) e = elim (d.fresh s.root a e) [
        | inl i ↦
            let u = d.renewed_are s.root i in
            let deep = level_depth s.root changes s.now sound u.0 s.root u.2 in
            let z = ap (λ (n : Node Kept). n.depth) (same_Some deep.0 sound.root_lives.0 (sym deep.1 ∙ sound.root_lives.1)) in
            absurd (omega (arith, z, deep.2, sound.root_lives.2))
        | inr w ↦ absurd (none-some a (sym (d.rest.others s.root (inl refl)) ∙ w))
      ]

module _ {listed : Bool} (s : Stage) (d : IsDone s) (m' : Nodes Kept) (st : Store) (rd : Relations) (seats : List Seat) (changes : List (Change Kept)) (sound : IsRooted s.root changes s.now)
    (stay : (k : ℕ) → Reached s.now s.root k → m' k ≡ s.now k) (only : (k : ℕ) → IsSome (m' k) → Reached s.now s.root k)
    (same : (k : ℕ) (a : Kept) → answer_at m' k ≡ Some a → StaysMade s.store st a)
    (read : listed ≡ true → AreReaders m' st rd)
    (seated : (t p k : ℕ) → t ≤ s.next.depth → slice_get (level_nodes s.now s.root t) p ≡ Some k → In k s.moved → neighbours_at seats k ≡ neighbours_on s.now (level_nodes s.now s.root t) p)
    (others : (k : ℕ) → (In k s.moved → ⊥) → neighbours_at seats k ≡ neighbours_at s.seats k) where
  there : (t p k : ℕ) → slice_get (level_nodes m' s.root t) p ≡ Some k → slice_get (level_nodes s.now s.root t) p ≡ Some k
  there t p k e = ap (λ (l : List ℕ). slice_get l p) (sym (closed_nodes s.now m' s.root changes sound stay only t)) ∙ e

  kept_at : (t k : ℕ) → In k (level_nodes s.now s.root t) → answer_at m' k ≡ answer_at s.now k
  kept_at t k i = ap (option_and_then answer_of) (stay k (on_reached s.now s.root t k i))

  right : (t p k : ℕ) → t < s.next.depth → slice_get (level_nodes s.now s.root t) p ≡ Some k → AnsweredAt s.next t m' s.root st p k
  right t p k below e =
      subst (λ (row : List Spotted). AnsweredIn s.next t row st p (answer_at m' k)) (sym (closed_spots s.now m' s.root changes sound stay only t))
      (answered_stays s.store st s.next t (level_spots s.now s.root t) p (answer_at m' k) (same k)
      (subst (AnsweredIn s.next t (level_spots s.now s.root t) s.store p) (sym (kept_at t k (get_In (level_nodes s.now s.root t) p k e))) (d.answered t p k below e)))

  seat_of : (t p k : ℕ) → slice_get (level_nodes s.now s.root t) p ≡ Some k → neighbours_at seats k ≡ neighbours_on s.now (level_nodes s.now s.root t) p
  seat_of t p k e = elim (cases_lt s.next.depth t) [
    | inl far ↦
        let c = level_count s.next s.limit s.next.depth (levels_meant s.next s.limit) d.spelled d.is in
        let back : length (levels_meant s.next s.limit) + (t - length (levels_meant s.next s.limit)) ≡ t = omega (arith, c, far) in
        let none : level_nodes s.now s.root t ≡ [] = sym (ap (level_nodes s.now s.root) back) ∙ no_more s.now s.root (length (levels_meant s.next s.limit)) (t - length (levels_meant s.next s.limit)) d.ends in
        absurd (none-some k (ap (λ (l : List ℕ). slice_get l p) (sym none) ∙ e))
    | inr near ↦ elim (In_cases s.moved k) [
      | inl i ↦ seated t p k near e i
      | inr out ↦ elim (d.seats.seated t p k near e) [ inl i ↦ absurd (out i) | inr f ↦ others k out ∙ f ]
    ]
  ]

  pub closed_rests : IsResting listed s.next s.limit m' s.root st rd seats
  closed_rests = record {
    spelled = d.spelled;
    is = d.is;
    levels = closed_levels s.now m' s.root changes sound stay only d.once s.next.seed (levels_meant s.next s.limit) d.levels;
    ends = closed_nodes s.now m' s.root changes sound stay only (length (levels_meant s.next s.limit)) ∙ d.ends;
    counts = λ k n e. d.counts k n (lived s.now m' s.root changes sound stay only k n e);
    once = closed_once s.now m' s.root changes sound stay only d.once;
    reached = λ k n e. let r = only k (subst IsSome (sym e) refl) in (r.0, closed_reached s.now m' s.root changes sound stay only r.0 k r.1);
    answered = λ t p k below e. right t p k below (there t p k e);
    others = λ k i. elim i [
      | inl e ↦ ap (answer_at m') e ∙ ap (option_and_then answer_of) (stay s.root (0, refl)) ∙ root_none s d changes sound
      | inr j ↦
          let on = subst (In k) (closed_nodes s.now m' s.root changes sound stay only s.next.depth) j in
          kept_at s.next.depth k on ∙ d.last k on
    ];
    made = λ k a e. (same k a e).made;
    read = read;
    seated = λ t p k e. seat_of t p k (there t p k e) ∙ sym (closed_neighbours s.now m' s.root changes sound stay only t p);
  }
