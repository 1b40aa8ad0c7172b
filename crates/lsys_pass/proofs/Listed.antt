-- Who read what, listed at rest from the answers that nodes keep.
use Rattle.std.proofs.Common.{◌≡◌, ◌+◌, ◌<◌, ◌≤◌, ◌^◌, ◌||◌, ◌&&◌, ℕ, zero, suc, Bool, true, false, List, [], ◌∷◌, ◌++◌, length, Option, Some, None, refl, sym, ap, ◌∙◌, subst, inl, inr, arith}
use Rattle.std.specs.Prelude.{MatchOption, not}
use Rattle.std.proofs.lemmas.Bool.{cases_lt}
use Rattle.std.proofs.lemmas.Grind.{flat_map-append}
use Rattle.std.proofs.lemmas.List.{append_assoc, append-nil}
use Rattle.lsys_spec.specs.Rows.{In}
use Rattle.lsys_level.specs.Spots.{spots_at}
use Rattle.lsys_walks.specs.Stores.{Store}
use Rattle.lsys_match.specs.Kept.{Kept}
use Rattle.lsys_reads.specs.declared.Pair.{Pair}
use Rattle.lsys_reads.specs.Rows.{has}
use Rattle.lsys_reads.specs.Relations.{Relations, is_settled, is_pending, pairs_have, SettledStay, SettlesGone}
use Rattle.lsys_forest.specs.Nodes.{Nodes}
use Rattle.lsys_forest.specs.Changes.{Change, undone}
use Rattle.lsys_forest.specs.Groves.{Grove, IsRooted, now_of, changes_in}
use Rattle.lsys_forest.specs.Rows.{index_in, level_nodes, complete_levels, level_of_node, place_of_node}
use Rattle.lsys_forest.proofs.RowLemmas.{In_left, In_right}
use Rattle.lsys_forest.proofs.ViewLemmas.{are_told}
use Rattle.lsys_forest.proofs.WalkLemmas.{get_In}
use Rattle.lsys_forest.proofs.SoundLemmas.{AreSound-now}
use Rattle.lsys_reads.proofs.LevelLemmas.{get_index}
use Rattle.lsys_reads.specs.Levels.{answer_at, HasRead}
use Rattle.lsys_children.proofs.Listed.{nodes_on, Listing, list_begins, list_goes_on, list_ends, spot_is}
use Rattle.lsys_front.proofs.Standing.{live_at}
use Rattle.lsys_pass.specs.declared.state.PassState.TheVariants.{Rest}
use Rattle.lsys_pass.specs.Readers.{AreReaders}
use Rattle.lsys_pass.specs.Read.{pairs_of}
use Rattle.lsys_pass.specs.Rests.{IsResting}
use Rattle.lsys_pass.specs.Stages.{RestsAs, Rests}
use Rattle.lsys_pass.specs.Passes.{PassView, stage_of, now_in, rest_in, HoldsAt, IsStill, FrontAt, IsPass}
use Rattle.lsys_pass.specs.Listings.{tags_if_any, tags_read_at, pairs_at, ListsOne, ListsOn, HaveAnswersTo}
use Rattle.lsys_pass.proofs.Reading.{have_cases, have_left, have_right, of_reader, has_reader}
use Rattle.lsys_pass.proofs.Before.{count_is, is_below, placed, answer_lives}

-- 1. what the answers of nodes read

module _ (m : Nodes Kept) (store : Store) where
  was_read : (k seen : ℕ) → In seen (tags_read_at m store k) → HasRead m store k seen
  was_read k seen i = by (answer_at m k) refl i
    where
      by : (o : Option Kept) → answer_at m k ≡ o → In seen (tags_if_any store o) → HasRead m store k seen
      by None e i = absurd i
      by (Some a) e i = record { answer = a; kept = e; among = i }

  is_read : (k seen : ℕ) → HasRead m store k seen → In seen (tags_read_at m store k)
  is_read k seen h = subst (λ (o : Option Kept). In seen (tags_if_any store o)) (sym h.kept) h.among

  -- what one of them read
  abbrev own : ℕ → List Pair
  own k = pairs_of k (tags_read_at m store k)

  pairs_read : (ks : List ℕ) (reader seen : ℕ) → pairs_have (pairs_at m store ks) reader seen ≡ true
      → In reader ks × HasRead m store reader seen
  pairs_read [] reader seen e = cc
  pairs_read (k ∷ ks) reader seen e = elim (have_cases (own k) (pairs_at m store ks) reader seen e) [
    | inl h ↦ (let r = of_reader k (tags_read_at m store k) reader seen h in
        (inl r.0, subst (λ j. HasRead m store j seen) (sym r.0) (was_read k seen r.1)))
    | inr h ↦ (let r = pairs_read ks reader seen h in (inr r.0, r.1))
  ]

  read_pairs : (ks : List ℕ) (reader seen : ℕ) → In reader ks → HasRead m store reader seen
      → pairs_have (pairs_at m store ks) reader seen ≡ true
  read_pairs [] reader seen i h = absurd i
  read_pairs (k ∷ ks) reader seen (inl e) h =
      have_left (own k) (pairs_at m store ks) reader seen
      (subst (λ j. pairs_have (own k) j seen ≡ true) (sym e)
      (has_reader k (tags_read_at m store k) seen (is_read k seen (subst (λ j. HasRead m store j seen) e h))))
  read_pairs (k ∷ ks) reader seen (inr i) h = have_right (own k) (pairs_at m store ks) reader seen (read_pairs ks reader seen i h)

  -- after the nodes before it, one more
  pairs_more : (js ks : List ℕ) → pairs_at m store (js ++ ks) ≡ pairs_at m store js ++ pairs_at m store ks
  pairs_more js ks = flat_map-append own js ks

-- 2. a level, from the left

-- of the nodes before a spot it is pending what they read, after what was
pub record AreListedTo (f : Grove Kept) (store : Store) (t : ℕ) (old : Relations) (at : Option ℕ)
    (new : Relations) : Type 0 where
  pub passed : List ℕ
  pub listing : Listing f t passed at
  pub pending : new.pending ≡ old.pending ++ pairs_at (now_of f) store passed
  pub settled : SettledStay old new

module _ (f : Grove Kept) (store : Store) (t : ℕ) (old : Relations) where
  -- how many spots a level has
  abbrev many : ℕ → ℕ
  many u = length (spots_at (complete_levels f) u)

  pub listed_begins : (o : Option ℕ) → t < length (complete_levels f)
      → MatchOption o (many t ≡ 0) (λ k. (level_of_node f k ≡ t) × (place_of_node f k ≡ 0) × (0 < many t))
      → AreListedTo f store t old o old
  listed_begins o complete first = record {
    passed = [];
    listing = list_begins f t complete o first;
    pending = sym (append-nil old.pending);
    settled = λ reader seen. refl;
  }

  module _ (k : ℕ) (mid : Relations) (complete : t < length (complete_levels f))
      (a : AreListedTo f store t old (Some k) mid) where
    pub listed_spot : place_of_node f k < many (level_of_node f k)
    listed_spot = spot_is f t k a.passed complete a.listing

    pub listed_on : In k (nodes_on f t)
    listed_on =
        let on : nodes_on f (level_of_node f k) ≡ nodes_on f t = ap (λ u. nodes_on f u) a.listing.next.0 in
        let same : index_in k (nodes_on f t) ≡ place_of_node f k = ap (index_in k) (sym on) in
        get_In (nodes_on f t) (index_in k (nodes_on f t)) k
        (get_index k (nodes_on f t) (subst (λ p. p < length (nodes_on f t)) (sym same) a.listing.next.2))

    pub listed_goes_on : (o : Option ℕ) (new : Relations) → ListsOne f store k mid new
        → SettledStay mid new
        → MatchOption o (place_of_node f k + 1 ≡ many (level_of_node f k))
        (λ n. (level_of_node f n ≡ level_of_node f k) × (place_of_node f n ≡ place_of_node f k + 1)
        × (place_of_node f n < many (level_of_node f k)))
        → AreListedTo f store t old o new
    listed_goes_on o new adds settled next = record {
      passed = a.passed ++ k ∷ [];
      listing = list_goes_on f t k a.passed o complete a.listing next;
      pending = adds ∙ ap (λ (ps : List Pair). ps ++ here) a.pending ∙ append_assoc old.pending before here
          ∙ ap (λ (ps : List Pair). old.pending ++ ps)
          (ap (λ (ps : List Pair). before ++ ps) (sym (append-nil here)) ∙ sym (pairs_more (now_of f) store a.passed (k ∷ [])));
      settled = λ reader seen. settled reader seen ∙ a.settled reader seen;
    }
      where
        before : List Pair
        before = pairs_at (now_of f) store a.passed

        here : List Pair
        here = pairs_of k (tags_read_at (now_of f) store k)

  pub listed_ends : (new : Relations) → AreListedTo f store t old None new → ListsOn f store t old new
  listed_ends new a = a.pending ∙ ap (λ (ks : List ℕ). old.pending ++ pairs_at (now_of f) store ks) (list_ends f t a.passed a.listing)

-- 3. level by level

-- the nodes of so many levels
abbrev pub nodes_to : Grove Kept → ℕ → List ℕ
nodes_to f zero = []
nodes_to f (suc t) = nodes_to f t ++ nodes_on f t

nodes_among : (f : Grove Kept) (depth t k : ℕ) → t < depth → In k (nodes_on f t) → In k (nodes_to f depth)
nodes_among f zero t k l i = absurd (omega (arith, l))
nodes_among f (suc depth) t k l i = elim (cases_lt t depth) [
  | inl less ↦ In_left k (nodes_to f depth) (nodes_on f depth) (nodes_among f depth t k less i)
  | inr ge ↦
      let same : t ≡ depth = omega (arith, l, ge) in
      In_right k (nodes_to f depth) (nodes_on f depth) (subst (λ u. In k (nodes_on f u)) same i)
]

-- what the nodes of so many levels read is pending, and nothing is settled
pub record AreListedAbove (f : Grove Kept) (store : Store) (depth level : ℕ) (reads : Relations) : Type 0 where
  pub within : level ≤ depth
  pub pending : reads.pending ≡ pairs_at (now_of f) store (nodes_to f level)
  pub unsettled : (reader seen : ℕ) → is_settled reads reader seen ≡ false

-- nothing is settled where there are no rows
pub none_settled : (reads : Relations) → reads.settled ≡ [] → (reader seen : ℕ) → is_settled reads reader seen ≡ false
none_settled reads none reader seen =
    ap (λ (rows : List (List ℕ)). is_settled (record { settled = rows; pending = [] }) reader seen) none ∙ by seen
  where
    by : (u : ℕ) → is_settled (record { settled = []; pending = [] }) reader u ≡ false
    by zero = refl
    by (suc u) = refl

module _ (f : Grove Kept) (store : Store) (depth : ℕ) where
  pub above_begins : (reads : Relations) → reads.settled ≡ [] → reads.pending ≡ [] → AreListedAbove f store depth 0 reads
  above_begins reads none quiet = record { within = omega arith; pending = quiet; unsettled = none_settled reads none }

  pub above_goes_on : (level : ℕ) (old new : Relations) → AreListedAbove f store depth level old → level < depth
      → SettledStay old new → ListsOn f store level old new → AreListedAbove f store depth (level + 1) new
  above_goes_on level old new a less settled lists =
      let next : suc level ≡ level + 1 = omega arith in
      subst (λ u. AreListedAbove f store depth u new) next (record {
        within = omega (arith, less);
        pending = lists ∙ ap (λ (ps : List Pair). ps ++ pairs_at (now_of f) store (nodes_on f level)) a.pending
            ∙ sym (pairs_more (now_of f) store (nodes_to f level) (nodes_on f level));
        unsettled = λ reader seen. settled reader seen ∙ a.unsettled reader seen;
      })

  -- all that is pending is settled
  pub readers_listed : (level : ℕ) (old new : Relations) (none : List ℕ) → HaveAnswersTo f store depth
      → AreListedAbove f store depth level old → depth ≤ level → none ≡ [] → SettlesGone none old new
      → AreReaders (now_of f) store new
  readers_listed level old new none answers a all nobody settles reader seen = (
    λ e. (pairs_read (now_of f) store (nodes_to f depth) reader seen (sym pending ∙ sym settled ∙ e)).1,
    λ h.
        let t = answers.there reader h.answer h.kept in
        settled ∙ pending
        ∙ read_pairs (now_of f) store (nodes_to f depth) reader seen (nodes_among f depth t.0 reader t.1 t.2) h,
  )
    where
      whole : level ≡ depth
      whole = let w = a.within in omega (arith, all, w)

      pending : is_pending old reader seen ≡ pairs_have (pairs_at (now_of f) store (nodes_to f depth)) reader seen
      pending = ap (λ ps. pairs_have ps reader seen) (a.pending ∙ ap (λ u. pairs_at (now_of f) store (nodes_to f u)) whole)

      settled : is_settled new reader seen ≡ is_pending old reader seen
      settled = settles reader seen ∙ by none (is_settled old reader seen) nobody (a.unsettled reader seen)
        where
          by : (gone : List ℕ) (b : Bool) → gone ≡ [] → b ≡ false
              → ((not (has gone reader) && b) || is_pending old reader seen) ≡ is_pending old reader seen
          by [] false e f = refl
          by [] true e f = cc
          by (g ∷ gone) b e f = cc

-- 4. a pass at rest

module _ (v : PassView) (h : IsPass v) (state : v.state ≡ Rest) where
  still : IsStill (stage_of v)
  still = subst (HoldsAt (stage_of v)) state h.holds

  was_now : rest_in v ≡ now_in v
  was_now = ap (λ (cs : List (Change Kept)). undone cs (now_in v)) still.changes

  abbrev AsResting : Nodes Kept → Type 0
  AsResting m = IsResting v.listed v.system v.limit m v.forest.root v.store v.reads v.seats

  rests : AsResting (now_in v)
  rests = subst AsResting was_now still.rest

  -- a node with an answer stands above the depth
  stands : (k : ℕ) (a : Kept) → answer_at (now_in v) k ≡ Some a
      → (t : ℕ) × (t < v.system.depth) × In k (level_nodes (now_in v) v.forest.root t)
  stands k a e =
      let n = answer_lives (now_in v) k a e in
      let p = placed v.system v.limit (now_in v) v.forest.root v.store v.reads v.seats rests k n.0 a n.1 e in
      (p.level, is_below v.system v.limit (now_in v) v.forest.root v.store v.reads v.seats rests p.level k a p.on e, p.on)

  -- its nodes keep answers above the depth of its system
  pub answers_to : (depth : ℕ) → depth ≡ v.system.depth → depth < 2 ^ 32 → HaveAnswersTo v.forest v.store depth
  answers_to depth is small = record {
    complete = (let c = complete in omega (arith, c));
    nodes = λ t l k i. live_at v.forest t k sound i;
    live = λ k a e. (rests.made k a e).live;
    there = λ k a e. (let w = stands k a e in let below = w.1 in (w.0, omega (arith, below, is), w.2));
  }
    where
      sound : IsRooted v.forest.root (changes_in v.forest) (now_in v)
      sound = AreSound-now v.forest.root (changes_in v.forest) (now_in v) h.stored.sound

      complete : depth < length (complete_levels v.forest)
      complete = are_told v.forest depth small (λ u l. rests.levels.balanced u (
          let c = count_is v.system v.limit (now_in v) v.forest.root v.store v.reads v.seats rests in
          omega (arith, c, l, is)))

  -- where nothing is answered, nobody read anything
  pub nobody_read : (reads : Relations) → v.system.depth ≡ 0 → reads.settled ≡ [] → AreReaders (now_in v) v.store reads
  nobody_read reads none empty reader seen = (
    λ e. absurd (let f : false ≡ true = sym (none_settled reads empty reader seen) ∙ e in cc),
    λ r. absurd (let w = stands reader r.answer r.kept in let below = w.1 in omega (arith, below, none)),
  )

  module _ (reads : Relations) (listed : Bool) where
    abbrev v' : PassView
    v' = record v { reads = reads; listed = listed }

    rests_with : (b : Bool) → (b ≡ true → AreReaders (now_in v) v.store reads) → RestsAs b (stage_of v')
    rests_with b known = record {
      spelled = still.rest.spelled;
      is = still.rest.is;
      levels = still.rest.levels;
      ends = still.rest.ends;
      counts = still.rest.counts;
      once = still.rest.once;
      reached = still.rest.reached;
      answered = still.rest.answered;
      others = still.rest.others;
      made = still.rest.made;
      read = λ is. subst (λ (m : Nodes Kept). AreReaders m v.store reads) (sym was_now) (known is);
      seated = still.rest.seated;
    }

    pub listed_rests : AreReaders (now_in v) v.store reads → Rests (stage_of v')
    listed_rests known = rests_with true (λ is. known)

    pub listed_pass : reads.pending ≡ [] → AreReaders (now_in v) v.store reads → IsPass v'
    listed_pass quiet known = record {
      stored = h.stored;
      few = h.few;
      unmarked = h.unmarked;
      counted = h.counted;
      sized = h.sized;
      made_sized = h.made_sized;
      holds = subst (HoldsAt (stage_of v')) (sym state) (record {
        rest = rests_with listed (λ is. known);
        runs = still.runs;
        changes = still.changes;
        next = still.next;
        reads = quiet;
        pending = still.pending;
        faults = still.faults;
        renewed = still.renewed;
        born = still.born;
        dropped = still.dropped;
        moved = still.moved;
      });
      front = subst (FrontAt v') (sym state) tt;
      room = h.room;
    }
