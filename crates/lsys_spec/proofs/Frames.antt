-- The frames of each lattice, as tables that are tested by computing.
use Rattle.std.proofs.Common.{◌≡◌, zero, suc, Bool, true, not, ◌&&◌, List, [], ◌∷◌, fold, refl, ap, subst, arith, slice_index_or}
use Rattle.std.specs.Prelude.{Contains, AllPairs, ◌≢◌}
use Rattle.std.specs.Bool.{Decides}
use Rattle.std.specs.List.{list_any, list_all}
use Rattle.std.specs.Ordering.{int_eq}
use Rattle.std.proofs.lemmas.Bool.Decides.{Decides-and, Decides-int_eq, Decides-like, nat_tests}
use Rattle.std.proofs.lemmas.List.Folds.{Any-from_list_any}
use Rattle.std.proofs.lemmas.List.Sums.{AllPass-from_list_all}
use Rattle.lsys_spec.specs.Lattices.{Lattice, square, hexagonal, cubic, Vector, cross, Frame, IsUpright, first_frame, Turn, turn_left, turn_right, pitch_down, pitch_up, roll_left, roll_right, turn_round, turned, frame_after, frames}
use Rattle.lsys_spec.proofs.Turns.{same_vector, same_frame}

-- 1. Whether two frames are the same.

abbrev pub vector_eq : Vector → Vector → Bool
vector_eq v w = int_eq v.x w.x && (int_eq v.y w.y && int_eq v.z w.z)

pub vector_decides : (v w : Vector) → Decides (vector_eq v w) (v ≡ w)
vector_decides v w =
    Decides-like _ (λ h. same_vector v.x w.x v.y w.y v.z w.z h.0 h.1.0 h.1.1) (λ e. (ap (λ u. u.x) e, (ap (λ u. u.y) e, ap (λ u. u.z) e)))
    (Decides-and _ _ (Decides-int_eq v.x w.x) (Decides-and _ _ (Decides-int_eq v.y w.y) (Decides-int_eq v.z w.z)))

abbrev pub frame_eq : Frame → Frame → Bool
frame_eq f g = vector_eq f.heading g.heading && (vector_eq f.left g.left && vector_eq f.up g.up)

pub frame_decides : (f g : Frame) → Decides (frame_eq f g) (f ≡ g)
frame_decides f g =
    Decides-like _ (λ h. same_frame f.heading g.heading f.left g.left f.up g.up h.0 h.1.0 h.1.1) (λ e. (ap (λ u. u.heading) e, (ap (λ u. u.left) e, ap (λ u. u.up) e)))
    (Decides-and _ _ (vector_decides f.heading g.heading) (Decides-and _ _ (vector_decides f.left g.left) (vector_decides f.up g.up)))

abbrev pub is_among : List Frame → Frame → Bool
is_among fs f = list_any (λ g. frame_eq g f) fs

pub among : (fs : List Frame) (f : Frame) → is_among fs f ≡ true → Contains fs f
among fs f t =
    let found = Any-from_list_any (λ g. frame_eq g f) fs t in
    let same : found.1 ≡ f = (frame_decides found.1 f).0 found.4 in
    (found.0, found.2, subst (λ g. slice_index_or fs found.0 g ≡ g) same found.3)

-- 2. No turn leads out of the frames.

turn_stays : (lattice : Lattice) (turn : Turn) → list_all (λ f. is_among (frames lattice) (turned lattice turn f)) (frames lattice) ≡ true
turn_stays square turn_left = refl
turn_stays square turn_right = refl
turn_stays square pitch_down = refl
turn_stays square pitch_up = refl
turn_stays square roll_left = refl
turn_stays square roll_right = refl
turn_stays square turn_round = refl
turn_stays hexagonal turn_left = refl
turn_stays hexagonal turn_right = refl
turn_stays hexagonal pitch_down = refl
turn_stays hexagonal pitch_up = refl
turn_stays hexagonal roll_left = refl
turn_stays hexagonal roll_right = refl
turn_stays hexagonal turn_round = refl
turn_stays cubic turn_left = refl
turn_stays cubic turn_right = refl
turn_stays cubic pitch_down = refl
turn_stays cubic pitch_up = refl
turn_stays cubic roll_left = refl
turn_stays cubic roll_right = refl
turn_stays cubic turn_round = refl

-- what a test tells of each of the frames
tells : (test : Frame → Bool) (fs : List Frame) (f : Frame) → list_all test fs ≡ true → Contains fs f → test f ≡ true
tells test fs f all found =
    subst (λ g. test g ≡ true) found.2 (AllPass-from_list_all test fs all found.0 f found.1)

pub turned_among : (lattice : Lattice) (turn : Turn) (f : Frame) → Contains (frames lattice) f → Contains (frames lattice) (turned lattice turn f)
turned_among lattice turn f found =
    among (frames lattice) (turned lattice turn f) (tells (λ g. is_among (frames lattice) (turned lattice turn g)) (frames lattice) f (turn_stays lattice turn) found)

all_among : (lattice : Lattice) (f : Frame) (turns : List Turn) → Contains (frames lattice) f
    → Contains (frames lattice) (fold (λ g turn. turned lattice turn g) f turns)
all_among lattice f [] found = found
all_among lattice f (turn ∷ turns) found = all_among lattice (turned lattice turn f) turns (turned_among lattice turn f found)

first_among : (lattice : Lattice) → is_among (frames lattice) (first_frame lattice) ≡ true
first_among square = refl
first_among hexagonal = refl
first_among cubic = refl

pub frame_after-among : (lattice : Lattice) (turns : List Turn) → Contains (frames lattice) (frame_after lattice turns)
frame_after-among lattice turns = all_among lattice (first_frame lattice) turns (among (frames lattice) (first_frame lattice) (first_among lattice))

-- 3. The frames are upright.

abbrev pub upright : Frame → Bool
upright f = vector_eq (cross f.heading f.left) f.up

all_upright : (lattice : Lattice) → list_all upright (frames lattice) ≡ true
all_upright square = refl
all_upright hexagonal = refl
all_upright cubic = refl

pub upright_among : (lattice : Lattice) (f : Frame) → Contains (frames lattice) f → IsUpright f
upright_among lattice f found =
    (vector_decides (cross f.heading f.left) f.up).0 (tells upright (frames lattice) f (all_upright lattice) found)

pub frame_after-upright : (lattice : Lattice) (turns : List Turn) → IsUpright (frame_after lattice turns)
frame_after-upright lattice turns = upright_among lattice (frame_after lattice turns) (frame_after-among lattice turns)

-- 4. No two frames are the same.

abbrev apart : List Frame → Bool
apart [] = true
apart (f ∷ fs) = list_all (λ g. not (frame_eq f g)) fs && apart fs

all_apart : (lattice : Lattice) → apart (frames lattice) ≡ true
all_apart square = refl
all_apart hexagonal = refl
all_apart cubic = refl

apart_pairs : (fs : List Frame) → apart fs ≡ true → AllPairs (λ f g. f ≢ g) fs
apart_pairs [] t i j d lt below e = absurd (omega arith)
apart_pairs (f ∷ fs) t i zero d lt below e = absurd (omega arith)
apart_pairs (f ∷ fs) t zero (suc j) d lt below e =
    let other : not (frame_eq f (slice_index_or fs j d)) ≡ true =
    AllPass-from_list_all (λ g. not (frame_eq f g)) fs (grind (arith, nat_tests)) j d (omega arith) in
    let same : frame_eq f (slice_index_or fs j d) ≡ true = (frame_decides f (slice_index_or fs j d)).1 e in
    grind (arith, nat_tests)
apart_pairs (f ∷ fs) t (suc i) (suc j) d lt below e =
    apart_pairs fs (grind (arith, nat_tests)) i j d (omega arith) (omega arith) e

pub frames-apart : (lattice : Lattice) → AllPairs (λ f g. f ≢ g) (frames lattice)
frames-apart lattice = apart_pairs (frames lattice) (all_apart lattice)
