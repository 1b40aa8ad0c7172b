-- A pass when a step is over.
use Rattle.std.proofs.Common.{◌≡◌, ◌≢◌, ◌+◌, ◌≤◌, ℕ, Bool, List, [], ◌∷◌, ◌++◌, Option, Some, None, Ok, Err, Result, refl, sym, ap, ◌∙◌, subst, inl, inr, arith, cond}
use Rattle.std.specs.Prelude.{is_none}
use Rattle.std.proofs.lemmas.Bool.{cases_eq}
use Rattle.std.proofs.lemmas.Option.{none-some}
use Rattle.lsys_spec.specs.Rows.{In}
use Rattle.lsys_level.specs.Spots.{Spotted}
use Rattle.lsys_walks.specs.Stores.{Store}
use Rattle.lsys_match.specs.declared.asked.Asked.{Asked}
use Rattle.lsys_match.specs.declared.asked.Asked.TheVariants.{Same, New}
use Rattle.lsys_match.specs.declared.refusal.AskRefusal.{AskRefusal}
use Rattle.lsys_match.specs.declared.refusal.AskRefusal.TheVariants as refusals
use Rattle.lsys_match.specs.Kept.{Kept}
use Rattle.lsys_match.specs.KeptAnswers.{StaysMade}
use Rattle.lsys_match.specs.Asks.{IsMade, KeepsStore}
use Rattle.lsys_match.proofs.Staying.{stays_kept}
use Rattle.lsys_reads.specs.Relations.{Relations, SettledStay}
use Rattle.lsys_forest.specs.Nodes.{Nodes, with_node, with_answer}
use Rattle.lsys_forest.specs.Changes.{Change, undone}
use Rattle.lsys_forest.specs.Groves.{Grove, IsRooted, now_of, rest_of, changes_in, live_nodes}
use Rattle.lsys_forest.proofs.SoundLemmas.{AreSound-now}
use Rattle.lsys_forest.proofs.StockLemmas.{put_other}
use Rattle.lsys_reads.specs.Levels.{level_of, answer_at}
use Rattle.lsys_pass.specs.declared.fault.Faulted.{Faulted}
use Rattle.lsys_pass.specs.declared.state.PassState.TheVariants.{Level}
use Rattle.lsys_pass.specs.declared.work.Work.{Work}
use Rattle.lsys_pass.specs.Stages.{Stage, fault_in, IsStored, IsAtLevel}
use Rattle.lsys_pass.specs.Passes as P
use Rattle.lsys_pass.specs.Passes.{PassView, stage_of, now_in, HoldsAt, repair_of, AllHaveSeats, HasFront, FrontAt, IsPass}
use Rattle.lsys_pass.specs.Steps.{AddsNoAnswer, KeepsOutcome, KeepsNothing}
use Rattle.lsys_pass.specs.Moves.{StepsOver}
use Rattle.lsys_pass.proofs.Keepers.{note_of, NoneComes, none_kept, stored_set, stored_in}
use Rattle.lsys_pass.proofs.Alike.{AreAlike, alike_put, nodes_alike, spots_alike, level_alike, put_again, put_from, answer_put, answer_other}
use Rattle.lsys_pass.proofs.Stepping.{stepped, on_level, other_level}
use Rattle.lsys_pass.proofs.Fronting.{KeepsLevel, front_stays, AreByLevel, one_here, by_same}
use Rattle.lsys_pass.proofs.Sized.{made_stays}
use Rattle.lsys_pass.specs.Sizes.{HaveSizes, HaveSizesTo, SizesAt}
use Rattle.lsys_reads.proofs.LevelLemmas.{place_in}
use Rattle.lsys_forest.specs.Pairs.{seen_at}
use Rattle.lsys_front.specs.Fronts.{IsLevelFront}
use Rattle.lsys_forest.specs.Rows.{level_nodes, level_spots}
use Rattle.lsys_pass.proofs.Asking.{IsSameForest, IsAsked, asked, at, made_now, same_sound, same_nodes, same_spots, sound_now}
use Rattle.lsys_pass.proofs.Waiting.{stays_refused, none_refused, level_waits}
use Rattle.lsys_pass.proofs.Outcomes.{IsReplied, fault_after, level_same, level_fault, level_new}

-- 1. the parts of a stage, one by one

abbrev stage_with : Stage → Nodes Kept → List (Change Kept) → ℕ → Store → Relations → Bool → List ℕ → List Faulted → List ℕ → ℕ → List ℕ → List ℕ → Stage
stage_with s m cs r st rd ls ps fs rn b ds mv =
    record s { now = m; changes = cs; root = r; store = st; reads = rd; listed = ls; pending = ps; faults = fs; renewed = rn; born = b; dropped = ds; moved = mv }

same_stage : (s : Stage) (m m' : Nodes Kept) (cs : List (Change Kept)) (r : ℕ) (st st' : Store) (rd rd' : Relations) (ls : Bool) (ps ps' : List ℕ) (fs fs' : List Faulted) (rn rn' : List ℕ) (b b' : ℕ) (ds mv : List ℕ)
    → m' ≡ m → r ≡ s.root → st' ≡ st → rd' ≡ rd → ls ≡ s.listed → ps' ≡ ps → fs' ≡ fs → rn' ≡ rn → b' ≡ b → ds ≡ s.dropped → mv ≡ s.moved
    → ◌≡◌ {A = Stage} (stage_with s m' cs r st' rd' ls ps' fs' rn' b' ds mv) (stepped s m cs st rd ps fs rn b)
same_stage s m m' cs r st st' rd rd' ls ps ps' fs fs' rn rn' b b' ds mv e1 e2 e3 e4 el e5 e6 e7 e8 e9 e10 =
    λ i. stage_with s (e1 i) cs (e2 i) (e3 i) (e4 i) (el i) (e5 i) (e6 i) (e7 i) (e8 i) (e9 i) (e10 i)

stored_same : (m m' : Nodes Kept) (cs cs' : List (Change Kept)) (r r' : ℕ) (st st' : Store) → m' ≡ m → cs' ≡ cs → r' ≡ r → st' ≡ st → IsStored m cs r st → IsStored m' cs' r' st'
stored_same m m' cs cs' r r' st st' e1 e2 e3 e4 h =
    subst (IsStored m' cs' r') (sym e4) (subst (λ k. IsStored m' cs' k st) (sym e3) (subst (λ (c : List (Change Kept)). IsStored m' c r st) (sym e2) (subst (λ (n : Nodes Kept). IsStored n cs r st) (sym e1) h)))

-- 2. the pass

-- with these nodes pending, and the other lists as they are here
abbrev pub after : PassView → Grove Kept → Store → Relations → Bool → List ℕ → Work → PassView
after v f st rd ls ps w = record v {
  forest = f;
  store = st;
  reads = rd;
  listed = ls;
  pending = ps;
  faults = w.faults.items;
  renewed = w.renewed.items;
  born = w.born;
  first_renewed = w.first_renewed;
  dropped = w.dropped.items;
  moved = w.moved.items;
  front = w.front;
}

-- the lists of the pass, before and after what was kept, and after the node was taken off
pub record HasWork (v : PassView) (w w' : Work) : Type 0 where
  pub faults : w.faults.items ≡ v.faults
  pub renewed : w.renewed.items ≡ v.renewed
  pub born : w.born ≡ v.born
  pub first_renewed : w'.first_renewed ≡ v.first_renewed
  pub dropped : w'.dropped.items ≡ v.dropped
  pub moved : w'.moved.items ≡ v.moved
  pub front : w'.front ≡ v.front

pub record IsStepped (v v' : PassView) (node : ℕ) : Type 0 where
  pub pass : IsPass v'
  pub steps : StepsOver v v' node

module _ (v : PassView) (t : ℕ) (h : IsPass v) (state : v.state ≡ Level t) (node : ℕ) (pending : In node v.pending) (g : Grove Kept) (same : IsSameForest v.forest g) (live : live_nodes g ≡ live_nodes v.forest)
    (st : Store) (g' : Grove Kept) (st' : Store) (rd' : Relations) (ls : Bool) (w w' : Work) (work : HasWork v w w') (is_born : Bool) (born_is : is_born ≡ is_none (answer_at (now_in v) node)) (ps : List ℕ) where
  abbrev a : IsAsked v t h state node
  a = asked v t h state node pending

  abbrev s : Stage
  s = stage_of v

  abbrev v' : PassView
  v' = after v g' st' rd' ls ps w'

  rest_same : rest_of g ≡ P.rest_in v
  rest_same = ap (λ (cs : List (Change Kept)). undone cs (now_of g)) same.changes ∙ ap (undone (changes_in v.forest)) same.now

  abbrev set : Option Kept → Nodes Kept
  set o = with_node (now_in v) node (Some (with_answer o a.n))

  again : set a.n.answer ≡ now_in v
  again = put_again (now_in v) node a.n a.next.is

  -- the sizes of the levels stay
  made_set : (o : Option Kept) → HaveSizesTo (now_in v) v.forest.root v.made t → HaveSizesTo (set o) v.forest.root v.made t
  made_set o made =
      made_stays (now_in v) (set o) v.forest.root v.made t (nodes_alike (now_in v) (set o) v.forest.root (alike_put (now_in v) node a.n o a.next.is))
      (λ u k l i. (
      let p = place_in k (level_nodes (now_in v) v.forest.root u) i in
      put_other (now_in v) node k (Some (with_answer o a.n)) (other_level s t node a.n a.front a.back a.next u p.0 k l p.1)
      )) made

  -- what is told of the level stays
  told : HasFront v t
  told = subst (FrontAt v) state h.front

  by_level : AreByLevel (level_nodes (now_in v) v.forest.root) t v.first_renewed v.renewed
  by_level = record { within = told.within; before = told.before; here = told.here }

  front_set : (o : Option Kept) (rn : List ℕ) → IsRooted g'.root (changes_in g') (now_of g') → now_of g' ≡ set o → rest_of g' ≡ P.rest_in v → g'.root ≡ v.forest.root → w'.renewed.items ≡ rn
      → ((k : ℕ) → answer_at (set o) k ≡ None → answer_at (now_in v) k ≡ None) → AreByLevel (level_nodes (now_in v) v.forest.root) t v.first_renewed rn → HasFront v' t
  front_set o rn sound nodes rest root renewed bare levels = record {
    front = subst (IsLevelFront (repair_of v' t) v.seats) (sym work.front) (front_stays (repair_of v t) g' st' keeps v.seats v.front told.front);
    within = by.within;
    before = by.before;
    here = by.here;
    room = subst (λ (m : Nodes Kept). AllHaveSeats m v.seats) (sym nodes) (λ k x e. let f = put_from (now_in v) node a.n o a.next.is k x e in told.room k f.node f.is);
  }
    where
      alike : AreAlike (now_in v) (set o)
      alike = alike_put (now_in v) node a.n o a.next.is

      level : (u : ℕ) → level_nodes (now_of g') g'.root u ≡ level_nodes (now_in v) v.forest.root u
      level u = ap (λ (m : Nodes Kept). level_nodes m g'.root u) nodes ∙ ap (λ r. level_nodes (set o) r u) root ∙ nodes_alike (now_in v) (set o) v.forest.root alike u

      by : AreByLevel (level_nodes (now_of g') g'.root) t w'.first_renewed w'.renewed.items
      by = by_same (level_nodes (now_in v) v.forest.root) (level_nodes (now_of g') g'.root) t v.first_renewed w'.first_renewed rn w'.renewed.items level work.first_renewed renewed levels

      keeps : KeepsLevel (repair_of v t) g'
      keeps = record {
        sound = sound;
        root = root;
        rest = rest;
        nodes = level t;
        spots = ap (λ (m : Nodes Kept). level_spots m g'.root t) nodes ∙ ap (λ r. level_spots (set o) r t) root ∙ spots_alike (now_in v) (set o) v.forest.root alike t;
        seen = λ k. ap (λ (m : Nodes Kept). seen_at m k) nodes ∙ ap (λ (f : ℕ → Spotted). (f k).seen) alike.spots;
        bare = λ k e. bare k (sym (ap (λ (m : Nodes Kept). answer_at m k) nodes) ∙ e);
      }

  -- from what the parts become to the pass
  over : (o : Option Kept) (fs : List Faulted) (rn : List ℕ) (b : ℕ) (rd : Relations) → ls ≡ v.listed → ps ≡ a.front ++ a.back
      → now_of g' ≡ set o → rest_of g' ≡ P.rest_in v → g'.root ≡ v.forest.root → st' ≡ st → rd' ≡ rd → w'.faults.items ≡ fs → w'.renewed.items ≡ rn → w'.born ≡ b
      → live_nodes g' ≤ live_nodes v.forest → IsStored (now_of g') (changes_in g') g'.root st'
      → ((k : ℕ) → k ≢ node → fault_in k fs ≡ fault_in k v.faults)
      → ((k : ℕ) → answer_at (set o) k ≡ None → answer_at (now_in v) k ≡ None) → AreByLevel (level_nodes (now_in v) v.forest.root) t v.first_renewed rn
      → (undone (changes_in g') (set o) ≡ P.rest_in v → IsAtLevel (stepped s (set o) (changes_in g') st rd (a.front ++ a.back) fs rn b) t)
      → IsStepped v v' node
  over o fs rn b rd same_listed less nodes rest root store reads faults renewed born few stored others bare levels level = record {
    pass = record {
      stored = stored;
      few = (let f = h.few in omega (arith, few, f));
      unmarked = h.unmarked;
      counted = h.counted;
      sized = subst (λ (w : Nodes Kept). HaveSizes w g'.root v.sizes) (sym rest) (subst (λ r. HaveSizes (P.rest_in v) r v.sizes) (sym root) h.sized);
      made_sized = subst (SizesAt (now_of g') g'.root v.next.depth v.made) (sym state) (subst (λ (m : Nodes Kept). HaveSizesTo m g'.root v.made t) (sym nodes) (subst (λ r. HaveSizesTo (set o) r v.made t) (sym root)
          (made_set o (subst (SizesAt (now_in v) v.forest.root v.next.depth v.made) state h.made_sized))));
      holds = subst (HoldsAt (stage_of v')) (sym state) (subst (λ (z : Stage). IsAtLevel z t) (sym whole) (level (ap (undone (changes_in g')) (sym nodes) ∙ rest)));
      front = subst (FrontAt v') (sym state) (front_set o rn (AreSound-now g'.root (changes_in g') (now_of g') stored.sound) nodes rest root renewed bare levels);
      room = subst (λ (m : Nodes Kept). AllHaveSeats m v.seats) (sym rest) h.room;
    };
    steps = record {
      run = record { system = refl; next = refl; limit = refl; root = root; was = rest };
      state = refl;
      before = a.front;
      after = a.back;
      pending_old = a.next.whole;
      pending = less;
      nodes = λ k ne. ap (λ (m : Nodes Kept). m k) nodes ∙ put_other (now_in v) node k (Some (with_answer o a.n)) ne;
      levels = λ u.
          ap (λ (m : Nodes Kept). level_of m g'.root u) nodes ∙ ap (λ r. level_of (set o) r u) root
          ∙ level_alike (now_in v) (set o) v.forest.root (alike_put (now_in v) node a.n o a.next.is) u;
      faults = λ k ne. ap (fault_in k) faults ∙ others k ne;
    };
  }
    where
      whole : ◌≡◌ {A = Stage} (stage_of v') (stepped s (set o) (changes_in g') st rd (a.front ++ a.back) fs rn b)
      whole = same_stage s (set o) (now_of g') (changes_in g') g'.root st st' rd rd' ls (a.front ++ a.back) ps fs w'.faults.items rn w'.renewed.items b w'.born w'.dropped.items w'.moved.items
          nodes root store reads same_listed less faults renewed born work.dropped work.moved

  -- no answer is new
  still : (fs : List Faulted) → ps ≡ a.front ++ a.back → AddsNoAnswer (record { forest = g; store = st; reads = v.reads; listed = v.listed; work = w }) (record { forest = g'; store = st'; reads = rd'; listed = ls; work = w' }) → w'.faults.items ≡ fs
      → ((b : Kept) → IsMade v.store b → StaysMade v.store st b) → NoneComes v.store st → ((k : ℕ) → k ≢ node → fault_in k fs ≡ fault_in k v.faults)
      → (undone (changes_in g') (set a.n.answer) ≡ P.rest_in v → IsAtLevel (stepped s (set a.n.answer) (changes_in g') st v.reads (a.front ++ a.back) fs v.renewed v.born) t) → IsStepped v v' node
  still fs less k faults stays none others level =
      over a.n.answer fs v.renewed v.born v.reads k.listed less
      (ap now_of k.forest ∙ same.now ∙ sym again) (ap rest_of k.forest ∙ rest_same) (ap (λ (f : Grove Kept). f.root) k.forest ∙ same.root) k.store k.reads faults (k.renewed ∙ work.renewed) (k.born ∙ work.born)
      (let l = ap live_nodes k.forest in omega (arith, l, live))
      (stored_same (now_in v) (now_of g') (changes_in v.forest) (changes_in g') v.forest.root g'.root st st' (ap now_of k.forest ∙ same.now) (ap changes_in k.forest ∙ same.changes) (ap (λ (f : Grove Kept). f.root) k.forest ∙ same.root) k.store
      (stored_in (now_in v) (changes_in v.forest) v.forest.root v.store st stays none h.stored))
      others (λ j e. sym (ap (λ (m : Nodes Kept). answer_at m j) again) ∙ e) by_level level

  module _ {L : Type 0} (p : ℕ) where
    pub over_all : (r : Result (Asked L) AskRefusal) → IsReplied s t node p st r → ps ≡ a.front ++ a.back
        → KeepsOutcome node is_born (record { forest = g; store = st; reads = v.reads; listed = v.listed; work = w }) (record { forest = g'; store = st'; reads = rd'; listed = ls; work = w' }) r → IsStepped v v' node
    over_all (Ok Same) r less k =
        still v.faults less k.0 (k.1 ∙ work.faults) (λ b m. stays_kept v.store st b r.store m) (none_kept v.store st r.store) (λ j ne. refl)
        (level_same s t node a.n a.front a.back a.next (made_now v t h state) p st r (changes_in g'))
    over_all (Err (refusals.Fault kind)) r less k =
        still (v.faults ++ record { node = node; kind = kind } ∷ []) less k.0 (k.1 ∙ ap (λ (fs : List Faulted). fs ++ record { node = node; kind = kind } ∷ []) work.faults) (λ b m. stays_kept v.store st b r.store m)
        (none_kept v.store st r.store) (λ j ne. fault_after j v.faults (record { node = node; kind = kind }) ne)
        (level_fault s t node a.n a.front a.back a.next (made_now v t h state) p st kind r (changes_in g'))
    over_all (Err refusals.Memory) r less k = absurd k
    over_all (Ok (New b)) r less k =
        let t' = k.kept a.n (ap (λ (m : Nodes Kept). m node) same.now ∙ a.next.is) in
        let nodes : now_of g' ≡ set (Some b) = t'.sets.now ∙ ap (λ (m : Nodes Kept). with_node m node (Some (with_answer (Some b) a.n))) same.now in
        let root : g'.root ≡ v.forest.root = t'.sets.root ∙ same.root in
        let changes : changes_in g' ≡ changes_in v.forest ++ note_of node a.n ∷ [] = t'.noted ∙ ap (λ (cs : List (Change Kept)). cs ++ note_of node a.n ∷ []) same.changes in
        over (Some b) v.faults (v.renewed ++ node ∷ []) w'.born rd' k.listed less nodes (t'.sets.rest ∙ rest_same) root k.store refl (k.faults ∙ work.faults)
        (k.renewed ∙ ap (λ (l : List ℕ). l ++ node ∷ []) work.renewed) refl
        (let l = t'.live in omega (arith, l, live))
        (stored_same (set (Some b)) (now_of g') (changes_in v.forest ++ note_of node a.n ∷ []) (changes_in g') v.forest.root g'.root st st' nodes changes root k.store
        (stored_set (now_in v) (changes_in v.forest) v.forest.root node a.n v.store st (answer_at (now_in v) node) b a.next.is r.store h.stored))
        (λ j ne. refl)
        (λ j e. elim (cases_eq j node) [
          | inl q ↦ absurd (none-some b (sym e ∙ answer_put (now_in v) node j a.n (Some b) q))
          | inr ne ↦ sym (answer_other (now_in v) node j a.n (Some b) ne) ∙ e
        ])
        (one_here (level_nodes (now_in v) v.forest.root) t v.first_renewed v.renewed node (on_level s t node a.n a.front a.back a.next) by_level)
        (λ undo. level_new s t node a.n a.front a.back a.next (made_now v t h state) p st b r (changes_in g') rd' w'.born is_born undo k.read k.settled born_is (k.born ∙ ap (λ c. c + cond is_born 1 0) work.born))

-- 3. nothing was kept

module _ (v : PassView) (t : ℕ) (h : IsPass v) (state : v.state ≡ Level t) where
  -- the forest and the lists are what they were, and answers stay
  kept_pass : (g : Grove Kept) (st : Store) (rd : Relations) (ls : Bool) (w : Work) (ps : List ℕ) → IsSameForest v.forest g → live_nodes g ≡ live_nodes v.forest
      → ((a : Kept) → IsMade v.store a → StaysMade v.store st a) → NoneComes v.store st → SettledStay v.reads rd → rd.pending ≡ v.reads.pending → ls ≡ v.listed → HasWork v w w → ps ≡ v.pending → IsPass (after v g st rd ls ps w)
  kept_pass g st rd ls w ps same live stays none settled quiet same_listed work less = record {
    stored = stored_same (now_in v) (now_of g) (changes_in v.forest) (changes_in g) v.forest.root g.root st st same.now same.changes same.root refl (stored_in (now_in v) (changes_in v.forest) v.forest.root v.store st stays none h.stored);
    few = (let f = h.few in omega (arith, f, live));
    unmarked = h.unmarked;
    counted = h.counted;
    sized = subst (λ (m : Nodes Kept). HaveSizes m g.root v.sizes) (sym rest) (subst (λ r. HaveSizes (P.rest_in v) r v.sizes) (sym same.root) h.sized);
    made_sized = subst (SizesAt (now_of g) g.root v.next.depth v.made) (sym state) (subst (λ (m : Nodes Kept). HaveSizesTo m g.root v.made t) (sym same.now) (subst (λ r. HaveSizesTo (now_in v) r v.made t) (sym same.root)
        (subst (SizesAt (now_in v) v.forest.root v.next.depth v.made) state h.made_sized)));
    holds = subst (HoldsAt (stage_of (after v g st rd ls ps w))) (sym state)
        (subst (λ (z : Stage). IsAtLevel z t) (sym whole) (level_waits (stage_of v) t st rd (made_now v t h state) stays settled quiet (at v t h state)));
    front = subst (FrontAt (after v g st rd ls ps w)) (sym state) (record {
      front = subst (IsLevelFront (repair_of (after v g st rd ls ps w) t) v.seats) (sym work.front) (front_stays (repair_of v t) g st same_level v.seats v.front told.front);
      within = by.within;
      before = by.before;
      here = by.here;
      room = subst (λ (m : Nodes Kept). AllHaveSeats m v.seats) (sym same.now) told.room;
    });
    room = subst (λ (m : Nodes Kept). AllHaveSeats m v.seats) (sym rest) h.room;
  }
    where
      rest : rest_of g ≡ P.rest_in v
      rest = ap (λ (cs : List (Change Kept)). undone cs (now_of g)) same.changes ∙ ap (undone (changes_in v.forest)) same.now

      whole : ◌≡◌ {A = Stage} (stage_of (after v g st rd ls ps w)) (record (stage_of v) { store = st; reads = rd })
      whole = λ i. record (stage_of v) {
        now = same.now i;
        changes = same.changes i;
        root = same.root i;
        store = st;
        reads = rd;
        listed = same_listed i;
        pending = less i;
        faults = work.faults i;
        renewed = work.renewed i;
        born = work.born i;
        dropped = work.dropped i;
        moved = work.moved i;
      }

      told : HasFront v t
      told = subst (FrontAt v) state h.front

      by : AreByLevel (level_nodes (now_of g) g.root) t w.first_renewed w.renewed.items
      by =
          by_same (level_nodes (now_in v) v.forest.root) (level_nodes (now_of g) g.root) t v.first_renewed w.first_renewed v.renewed w.renewed.items (same_nodes v.forest g same) work.first_renewed work.renewed
          (record { within = told.within; before = told.before; here = told.here })

      same_level : KeepsLevel (repair_of v t) g
      same_level = record {
        sound = same_sound v.forest g same (sound_now v t h state);
        root = same.root;
        rest = rest;
        nodes = same_nodes v.forest g same t;
        spots = same_spots v.forest g same t;
        seen = λ j. ap (λ (m : Nodes Kept). seen_at m j) same.now;
        bare = λ j e. sym (ap (λ (m : Nodes Kept). answer_at m j) same.now) ∙ e;
      }

  module _ (g : Grove Kept) (same : IsSameForest v.forest g) (live : live_nodes g ≡ live_nodes v.forest) where
    -- there is more room
    pub roomy_pass : (w : Work) (ps : List ℕ) → HasWork v w w → ps ≡ v.pending → IsPass (after v g v.store v.reads v.listed ps w)
    roomy_pass w ps work less = kept_pass g v.store v.reads v.listed w ps same live (λ a m. record { made = m; answer = refl }) (λ r e. e) (λ reader seen. refl) refl refl work less

    pub waits_pass : {L : Type 0} (g' : Grove Kept) (st : Store) (st' : Store) (rd' : Relations) (ls : Bool) (w w' : Work) (o : Option Kept) (r : Result (Asked L) AskRefusal) (ps : List ℕ) → HasWork v w w' → ps ≡ v.pending → KeepsStore v.store st o r
        → KeepsNothing (record { forest = g; store = st; reads = v.reads; listed = v.listed; work = w }) (record { forest = g'; store = st'; reads = rd'; listed = ls; work = w' }) r → IsPass (after v g' st' rd' ls ps w')
    waits_pass g' st st' rd' ls w w' o r ps work less keeps k =
        kept_pass g' st' rd' ls w' ps (record { now = ap now_of k.forest ∙ same.now; changes = ap changes_in k.forest ∙ same.changes; root = ap (λ (f : Grove Kept). f.root) k.forest ∙ same.root }) (ap live_nodes k.forest ∙ live)
        (stays_refused v.store st st' o r keeps k.store) (none_refused v.store st st' o r keeps k.store) k.settled k.read k.listed
        (record { faults = k.faults ∙ work.faults; renewed = k.renewed ∙ work.renewed; born = k.born ∙ work.born; first_renewed = work.first_renewed; dropped = work.dropped; moved = work.moved; front = work.front })
        less

pub steps_at : (v w v' : PassView) (node : ℕ) → v ≡ w → StepsOver v v' node → StepsOver w v' node
steps_at v w v' node e = subst (λ (z : PassView). StepsOver z v' node) e
