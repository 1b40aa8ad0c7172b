-- A pass that is at rest again, and a new one.
use Rattle.std.proofs.Common.{◌≡◌, ℕ, ◌<◌, ◌≤◌, ◌^◌, Bool, false, List, [], length, Option, None, refl, sym, ap, ◌∙◌, subst, arith}
use Rattle.std.specs.Option.{unwrap_or}
use Rattle.lsys_spec.specs.Systems.{System, opening}
use Rattle.lsys_spec.specs.Questions.{questions}
use Rattle.lsys_walks.specs.Stores.{Store}
use Rattle.lsys_match.specs.Kept.{Kept}
use Rattle.lsys_reads.specs.Relations.{Relations, SettledStay}
use Rattle.lsys_forest.specs.Changes.{undone}
use Rattle.lsys_forest.specs.Answers.{answers, kept_by, LiveApart, FreesAllBut}
use Rattle.lsys_forest.specs.Groves.{Grove, now_of, rest_of, changes_in, live_nodes, kept_in}
use Rattle.lsys_reads.specs.Names.{RunName, run_in, holds}
use Rattle.lsys_reads.specs.Meant.{levels_meant}
use Rattle.lsys_reads.specs.declared.seat.Seat.{Seat}
use Rattle.lsys_reads.specs.Seats.{is_marked, HasSeat}
use Rattle.lsys_pass.specs.declared.work.Work.{Work}
use Rattle.lsys_pass.specs.Works.{IsCleared}
use Rattle.lsys_pass.specs.declared.sizes.Sizes.{Sizes}
use Rattle.lsys_pass.specs.declared.state.PassState.{PassState}
use Rattle.lsys_pass.specs.declared.state.PassState.TheVariants.{Rest, Level, Done, Failed}
use Rattle.lsys_pass.specs.Rests.{IsResting}
use Rattle.lsys_pass.specs.Stages.{Stage, IsStored, RestsAs, Rests}
use Rattle.lsys_pass.specs.Passes.{PassView, stage_of, now_in, rest_in, HoldsAt, AllHaveSeats, IsPass}
use Rattle.lsys_pass.specs.Moves.{AtLevel}
use Rattle.lsys_pass.specs.Sizes.{HaveSizes}
use Rattle.lsys_pass.proofs.Runs.{own_runs}
use Rattle.lsys_pass.proofs.Stores.{AllStay, rest_stays}
use Rattle.lsys_pass.proofs.Sized.{none_sized}
use Rattle.lsys_pass.proofs.Keepers.{are_made, stay_kept, stored_rest}
use Rattle.lsys_pass.proofs.Openings.{IsAlone, only_root, no_levels, alone_rests, alone_stored, opening_questions}

-- where it is known who read what, it is so too where that is listed
known_as : (listed : Bool) (s : Stage) → Rests s → RestsAs listed s
known_as listed s h = record {
  spelled = h.spelled;
  is = h.is;
  levels = h.levels;
  ends = h.ends;
  counts = h.counts;
  once = h.once;
  reached = h.reached;
  answered = h.answered;
  others = h.others;
  made = h.made;
  read = λ known. h.read refl;
  seated = h.seated;
}

pub rests_at : (s : Stage) (state : PassState) → HoldsAt s state → RestsAs s.listed s
rests_at s Rest h = h.rest
rests_at s (Level t) h = known_as s.listed s h.rest
rests_at s Done h = known_as s.listed s h.rest
rests_at s Failed h = known_as s.listed s h

pub known_at : (s : Stage) (state : PassState) → AtLevel state → HoldsAt s state → Rests s
known_at s Rest at h = absurd at
known_at s (Level t) at h = h.rest
known_at s Done at h = absurd at
known_at s Failed at h = absurd at

-- the forest's answers were made with the store
pub held : (v : PassView) → IsPass v → LiveApart run_in holds v.store (kept_in v.forest)
held v h = are_made (now_in v) (changes_in v.forest) v.forest.root v.store h.stored

-- at rest, with these parts
abbrev pub resting : Grove Kept → Store → Relations → Bool → List Seat → Sizes → System → ℕ → Work → ℕ → PassView
resting f st reads listed seats z system limit w answers = record {
  forest = f;
  store = st;
  reads = reads;
  listed = listed;
  seats = seats;
  sizes = z.rest.items;
  made = z.made.items;
  system = system;
  next = system;
  limit = limit;
  state = Rest;
  pending = w.pending;
  faults = w.faults.items;
  renewed = w.renewed.items;
  born = w.born;
  first_renewed = w.first_renewed;
  dropped = w.dropped.items;
  moved = w.moved.items;
  front = w.front;
  answers = answers;
}

-- no node is marked
abbrev pub AreUnmarked : List Seat → Type 0
AreUnmarked seats = (k : ℕ) → is_marked seats k ≡ false

pub is_resting : (f : Grove Kept) (st : Store) (reads : Relations) (listed : Bool) (seats : List Seat) (z : Sizes) (system : System) (limit : ℕ) (w : Work) (answers : ℕ)
    → IsStored (now_of f) (changes_in f) f.root st → live_nodes f < 2 ^ 32 → AreUnmarked seats → answers ≡ length (questions system (levels_meant system limit))
    → IsResting listed system limit (rest_of f) f.root st reads seats → changes_in f ≡ [] → reads.pending ≡ [] → IsCleared w
    → HaveSizes (rest_of f) f.root z.rest.items → z.made.items ≡ [] → AllHaveSeats (rest_of f) seats → IsPass (resting f st reads listed seats z system limit w answers)
is_resting f st reads listed seats z system limit w answers stored few unmarked counted rest still quiet clear sized none room = record {
  stored = stored;
  few = few;
  unmarked = unmarked;
  counted = counted;
  sized = sized;
  made_sized = none;
  holds = record {
    rest = rest;
    runs = own_runs (now_of f) (changes_in f) f.root st stored still;
    changes = still;
    next = refl;
    reads = quiet;
    pending = clear.pending;
    faults = clear.faults;
    renewed = clear.renewed;
    born = clear.born;
    dropped = clear.dropped;
    moved = clear.moved;
  };
  front = tt;
  room = room;
}

-- it came to rest, and no other system is being made
pub none_next : (f : Grove Kept) (st : Store) (rd : Relations) (listed : Bool) (seats : List Seat) (z : Sizes) (nx : Option System) (sys : System) (limit : ℕ) (state : PassState) (w : Work) (answers : ℕ) → nx ≡ None → state ≡ Rest
    → IsPass (resting f st rd listed seats z sys limit w answers) → IsPass (record (resting f st rd listed seats z sys limit w answers) { next = unwrap_or nx sys; state = state })
none_next f st rd listed seats z nx sys limit state w answers e r h =
    subst (λ (p : PassState). IsPass (record (resting f st rd listed seats z sys limit w answers) { next = unwrap_or nx sys; state = p })) (sym r)
    (subst (λ (o : Option System). IsPass (record (resting f st rd listed seats z sys limit w answers) { next = unwrap_or o sys })) (sym e) h)

pub back_pass : (v : PassView) (f : Grove Kept) (st : Store) (reads : Relations) (z : Sizes) (w : Work) → IsPass v
    → now_of f ≡ rest_of v.forest → changes_in f ≡ [] → f.root ≡ v.forest.root → live_nodes f ≤ live_nodes v.forest
    → FreesAllBut run_in holds (kept_in v.forest) (kept_by (rest_of v.forest)) v.store st → LiveApart run_in holds st (kept_in f)
    → SettledStay v.reads reads → reads.pending ≡ [] → IsCleared w → z.rest.items ≡ v.sizes → z.made.items ≡ [] → IsPass (resting f st reads v.listed v.seats z v.system v.limit w v.answers)
back_pass v f st reads z w h is still root live frees are settled quiet clear same none =
    is_resting f st reads v.listed v.seats z v.system v.limit w v.answers stored (let b = h.few in omega (arith, live, b)) h.unmarked h.counted rests still quiet clear
    (subst (HaveSizes (rest_of f) f.root) (sym same) (subst (λ k. HaveSizes (rest_of f) k v.sizes) (sym root) (subst (λ m. HaveSizes m v.forest.root v.sizes) (sym rest_is) h.sized))) none
    (subst (λ m. AllHaveSeats m v.seats) (sym rest_is) h.room)
  where
    rest : IsResting v.listed v.system v.limit (rest_in v) v.forest.root v.store v.reads v.seats
    rest = rests_at (stage_of v) v.state h.holds

    stays : AllStay (rest_in v) v.store st
    stays = stay_kept (rest_in v) (kept_in v.forest) v.store st rest.made frees

    made : LiveApart run_in holds st (answers (rest_in v) [])
    made = subst (λ m. LiveApart run_in holds st (answers m [])) is (subst (λ cs. LiveApart run_in holds st (answers (now_of f) cs)) still are)

    was_stored : IsStored (rest_in v) [] v.forest.root st
    was_stored = stored_rest (now_in v) (changes_in v.forest) v.forest.root v.store st h.stored rest.made stays made frees

    stored : IsStored (now_of f) (changes_in f) f.root st
    stored = subst (λ k. IsStored (now_of f) (changes_in f) k st) (sym root) (subst (λ cs. IsStored (now_of f) cs v.forest.root st) (sym still) (subst (λ m. IsStored m [] v.forest.root st) (sym is) was_stored))

    was_rests : IsResting v.listed v.system v.limit (rest_in v) v.forest.root st reads v.seats
    was_rests = rest_stays v.system v.limit (rest_in v) v.forest.root v.store st v.reads reads v.seats stays settled rest

    rest_is : rest_of f ≡ rest_in v
    rest_is = ap (λ cs. undone cs (now_of f)) still ∙ is

    rests : IsResting v.listed v.system v.limit (rest_of f) f.root st reads v.seats
    rests = subst (λ k. IsResting v.listed v.system v.limit (rest_of f) k st reads v.seats) (sym root) (subst (λ m. IsResting v.listed v.system v.limit m v.forest.root st reads v.seats) (sym rest_is) was_rests)

pub new_pass : (f : Grove Kept) (st : Store) (reads : Relations) (listed : Bool) (seats : List Seat) (z : Sizes) (system : System) (limit : ℕ) (w : Work)
    → IsAlone (now_of f) f.root → ((r : RunName) → run_in st r ≡ None) → changes_in f ≡ [] → live_nodes f ≡ 1 → system ≡ opening → reads.settled ≡ [] → reads.pending ≡ [] → AreUnmarked seats → HasSeat seats f.root → IsCleared w → z.rest.items ≡ [] → z.made.items ≡ []
    → IsPass (resting f st reads listed seats z system limit w 0)
new_pass f st reads listed seats z system limit w alone bare still live opens none quiet unmarked seated clear sizes made =
    is_resting f st reads listed seats z system limit w 0
    (subst (λ cs. IsStored (now_of f) cs f.root st) (sym still) (alone_stored (now_of f) f.root st alone bare)) (omega (arith, live)) unmarked
    (sym (ap (λ s. length (questions s (levels_meant s limit))) opens ∙ ap length (opening_questions limit)))
    (subst (λ s. IsResting listed s limit (rest_of f) f.root st reads seats) (sym opens)
    (subst (λ m. IsResting listed opening limit m f.root st reads seats) (sym (ap (λ cs. undone cs (now_of f)) still)) (alone_rests (now_of f) f.root limit st reads seats alone none)))
    still quiet clear
    (subst (HaveSizes (rest_of f) f.root) (sym sizes) (subst (λ m. HaveSizes m f.root []) (sym (ap (λ cs. undone cs (now_of f)) still)) (none_sized (now_of f) f.root (λ t. no_levels (now_of f) f.root t alone)))) made
    (λ k n e. subst (HasSeat seats) (sym (only_root (now_of f) f.root k n alone (sym (ap (λ cs. undone cs (now_of f) k) still) ∙ e)).0) seated)
