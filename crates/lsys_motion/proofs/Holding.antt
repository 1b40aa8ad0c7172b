-- What is kept holds the stands so far.
use Rattle.std.proofs.Common.{◌≡◌, ◌≤◌, ◌<◌, ◌+◌, ◌-◌, ℕ, suc, Option, Some, None, List, [], ◌∷◌, ◌++◌, length, map, length-append, append_assoc, refl, ap, sym, ◌∙◌, subst, slice_set, arith}
use Rattle.std.proofs.lemmas.List.{append-nil, length-map, map-append, map-id}
use Rattle.std.proofs.Math.Seq.{set-append_seam}
use Rattle.lsys_spec.specs.Lattices.{Lattice}
use Rattle.lsys_lattice.specs.Effects.{Stand, first_walker, stand_from}
use Rattle.lsys_motion.specs.Pieces.{ImagePiece, IsNear}
use Rattle.lsys_motion.specs.Trees.{Trees, none, symbol, tree, stands_of, pieces_of, beside, AreNear}
use Rattle.lsys_motion.specs.Keepers.{OpenMark, through, up, unended, HoldsIn, Holds}
use Rattle.lsys_motion.proofs.Seeing.{seen_start}

-- 1. trees beside trees

stands_beside : (l : Lattice) (t u : Trees) → stands_of l (beside t u) ≡ stands_of l t ++ stands_of l u
stands_beside l none u = refl
stands_beside l (symbol h rest) u = ap (λ hs. h ∷ hs) (stands_beside l rest u)
stands_beside l (tree h inner rest) u =
    ap (λ hs. map (stand_from l h) (stands_of l inner) ++ hs) (stands_beside l rest u)
    ∙ sym (append_assoc (map (stand_from l h) (stands_of l inner)) (stands_of l rest) (stands_of l u))

pieces_beside : (l : Lattice) (t u : Trees) → pieces_of l (beside t u) ≡ pieces_of l t ++ pieces_of l u
pieces_beside l none u = refl
pieces_beside l (symbol h rest) u = ap (λ ps. record { symbols = 1; pieces = 1; start = h } ∷ ps) (pieces_beside l rest u)
pieces_beside l (tree h inner rest) u =
    ap (λ ps. record { symbols = length (stands_of l inner); pieces = suc (length (pieces_of l inner)); start = h } ∷ (pieces_of l inner ++ ps)) (pieces_beside l rest u)
    ∙ ap (λ ps. record { symbols = length (stands_of l inner); pieces = suc (length (pieces_of l inner)); start = h } ∷ ps) (sym (append_assoc (pieces_of l inner) (pieces_of l rest) (pieces_of l u)))

near_beside : (l : Lattice) (seen : Stand → Stand) (t u : Trees) → AreNear l seen t → AreNear l seen u → AreNear l seen (beside t u)
near_beside l seen none u h k = k
near_beside l seen (symbol g rest) u h k = (h.0, near_beside l seen rest u h.1 k)
near_beside l seen (tree g inner rest) u h k = (h.0, h.1, near_beside l seen rest u h.2 k)

-- 2. trees after what is held

map-map : {A B C : Type 0} (f : B → C) (g : A → B) (xs : List A) → map f (map g xs) ≡ map (λ x. f (g x)) xs
map-map f g [] = refl
map-map f g (x ∷ xs) = ap (λ ys. f (g x) ∷ ys) (map-map f g xs)

after : {A : Type 0} (all before more xs : List A) → all ≡ before ++ more → all ++ xs ≡ before ++ (more ++ xs)
after all before more xs e = ap (λ ys. ys ++ xs) e ∙ append_assoc before more xs

more_in : (l : Lattice) (p : Option ℕ) (m : OpenMark) (seen : Stand → Stand) (below : List ImagePiece → List Stand → Type 0) (ps : List ImagePiece) (hs : List Stand) (t : Trees)
    → ((qs : List ImagePiece) (gs : List Stand) → AreNear l seen t → below qs gs → below (qs ++ pieces_of l t) (gs ++ map seen (stands_of l t)))
    → AreNear l (λ h. seen (through l p m.stand h)) t → HoldsIn l p m seen below ps hs
    → HoldsIn l p m seen below (ps ++ pieces_of l t) (hs ++ map (λ h. seen (through l p m.stand h)) (stands_of l t))
more_in l None m seen below ps hs t more near h = more ps hs near h
more_in l (Some i) m seen below ps hs t more near h =
    let o = h.0 in
    let view : Stand → Stand = λ g. seen (stand_from l m.stand g) in (
      record {
        trees = beside o.trees t;
        before = o.before;
        stands = o.stands;
        pieces_are = after ps o.before (unended m.stand ∷ pieces_of l o.trees) (pieces_of l t) o.pieces_are ∙ ap (λ qs. o.before ++ unended m.stand ∷ qs) (sym (pieces_beside l o.trees t));
        stands_are =
            after hs o.stands (map (λ g. seen (stand_from l m.stand g)) (stands_of l o.trees)) (map (λ g. seen (stand_from l m.stand g)) (stands_of l t)) o.stands_are
            ∙ ap (λ gs. o.stands ++ gs) (sym (map-append (λ g. seen (stand_from l m.stand g)) (stands_of l o.trees) (stands_of l t)) ∙ ap (map (λ g. seen (stand_from l m.stand g))) (sym (stands_beside l o.trees t)));
        number = o.number;
        count = o.count;
        near_start = o.near_start;
        near = near_beside l (λ g. seen (stand_from l m.stand g)) o.trees t o.near near;
      },
      h.1,
    )

pub held_more : (l : Lattice) (ms : List OpenMark) (ps : List ImagePiece) (hs : List Stand) (t : Trees) → AreNear l (λ h. up l ms h) t → Holds l ms ps hs
    → Holds l ms (ps ++ pieces_of l t) (hs ++ map (λ h. up l ms h) (stands_of l t))
held_more l [] ps hs t near w = record {
  trees = beside w.trees t;
  pieces_are = ap (λ qs. qs ++ pieces_of l t) w.pieces_are ∙ sym (pieces_beside l w.trees t);
  stands_are = ap (λ gs. gs ++ map (λ h. h) (stands_of l t)) w.stands_are ∙ ap (λ gs. stands_of l w.trees ++ gs) (map-id (stands_of l t)) ∙ sym (stands_beside l w.trees t);
  near = near_beside l (λ h. h) w.trees t w.near near;
}
held_more l (m ∷ ms) ps hs t near h =
    more_in l m.piece m (λ g. up l ms g) (λ qs gs. Holds l ms qs gs) ps hs t (λ qs gs n k. held_more l ms qs gs t n k) near h

-- 3. where the last piece that is open began

origin_near : (l : Lattice) → IsNear (first_walker l).here
origin_near l = record { x = omega arith; y = omega arith; z = omega arith }

base_in : (l : Lattice) (p : Option ℕ) (m : OpenMark) (seen : Stand → Stand) (below : List ImagePiece → List Stand → Type 0) (ps : List ImagePiece) (hs : List Stand)
    → ((qs : List ImagePiece) (gs : List Stand) → below qs gs → IsNear (seen (first_walker l).here)) → HoldsIn l p m seen below ps hs → IsNear (seen (through l p m.stand (first_walker l).here))
base_in l None m seen below ps hs near h = near ps hs h
base_in l (Some i) m seen below ps hs near h = subst (λ g. IsNear (seen g)) (sym (seen_start l m.stand)) h.0.near_start

pub base_near : (l : Lattice) (ms : List OpenMark) (ps : List ImagePiece) (hs : List Stand) → Holds l ms ps hs → IsNear (up l ms (first_walker l).here)
base_near l [] ps hs w = origin_near l
base_near l (m ∷ ms) ps hs h = base_in l m.piece m (λ g. up l ms g) (λ qs gs. Holds l ms qs gs) ps hs (λ qs gs k. base_near l ms qs gs k) h

-- 4. a piece begins, and ends

pub held_begun : (l : Lattice) (ms : List OpenMark) (ps : List ImagePiece) (hs : List Stand) (here : Stand) → Holds l ms ps hs → IsNear (up l ms here)
    → Holds l (record { piece = Some (length ps); before = length hs; stand = here } ∷ ms) (ps ++ unended here ∷ []) hs
held_begun l ms ps hs here h near = (
  record { trees = none; before = ps; stands = hs; pieces_are = refl; stands_are = sym (append-nil hs); number = refl; count = refl; near_start = near; near = tt },
  h,
)

abbrev ended_piece : Stand → ℕ → ℕ → ImagePiece
ended_piece h symbols pieces = record { symbols = symbols; pieces = pieces; start = h }

same_piece : (h : Stand) (a b c d : ℕ) → a ≡ c → b ≡ d → ended_piece h a b ≡ ended_piece h c d
same_piece h a b c d e f = cc

ended_in : (l : Lattice) (i : ℕ) (m : OpenMark) (ms : List OpenMark) (ps : List ImagePiece) (hs : List Stand) → HoldsIn l (Some i) m (λ g. up l ms g) (λ qs gs. Holds l ms qs gs) ps hs
    → Holds l ms (slice_set ps i (ended_piece m.stand (length hs - m.before) (length ps - i))) hs
ended_in l i m ms ps hs h =
    let o = h.0 in
    let t : Trees = tree m.stand o.trees none in
    let all : length ps ≡ length o.before + suc (length (pieces_of l o.trees)) = ap length o.pieces_are ∙ length-append o.before (unended m.stand ∷ pieces_of l o.trees) in
    let count : length hs ≡ length o.stands + length (stands_of l o.trees) =
    ap length o.stands_are ∙ length-append o.stands (map (λ g. up l ms (stand_from l m.stand g)) (stands_of l o.trees)) ∙ ap (λ n. length o.stands + n) (length-map (stands_of l o.trees) (λ g. up l ms (stand_from l m.stand g))) in
    let piece : ImagePiece = ended_piece m.stand (length hs - m.before) (length ps - i) in
    let is = same_piece m.stand (length hs - m.before) (length ps - i) (length (stands_of l o.trees)) (suc (length (pieces_of l o.trees))) (omega (arith, count, o.count)) (omega (arith, all, o.number)) in
    let pieces : slice_set ps i piece ≡ o.before ++ pieces_of l t =
    ap (λ j. slice_set ps j piece) (sym o.number)
    ∙ ap (λ qs. slice_set qs (length o.before) piece) o.pieces_are
    ∙ set-append_seam o.before (unended m.stand) (pieces_of l o.trees) piece
    ∙ ap (λ p. o.before ++ p ∷ pieces_of l o.trees) is
    ∙ ap (λ qs. o.before ++ ended_piece m.stand (length (stands_of l o.trees)) (suc (length (pieces_of l o.trees))) ∷ qs) (sym (append-nil (pieces_of l o.trees))) in
    let stands : o.stands ++ map (λ g. up l ms g) (stands_of l t) ≡ hs =
    ap (λ gs. o.stands ++ map (λ g. up l ms g) gs) (append-nil (map (stand_from l m.stand) (stands_of l o.trees)))
    ∙ ap (λ gs. o.stands ++ gs) (map-map (λ g. up l ms g) (stand_from l m.stand) (stands_of l o.trees))
    ∙ sym o.stands_are in
    subst (λ qs. Holds l ms qs hs) (sym pieces)
    (subst (λ gs. Holds l ms (o.before ++ pieces_of l t) gs) stands (held_more l ms o.before o.stands t (o.near_start, o.near, tt) h.1))

pub held_ended : (l : Lattice) (i : ℕ) (m : OpenMark) (ms : List OpenMark) (ps : List ImagePiece) (hs : List Stand) → m.piece ≡ Some i → Holds l (m ∷ ms) ps hs
    → Holds l ms (slice_set ps i (ended_piece m.stand (length hs - m.before) (length ps - i))) hs
held_ended l i m ms ps hs is h = ended_in l i m ms ps hs (subst (λ p. HoldsIn l p m (λ g. up l ms g) (λ qs gs. Holds l ms qs gs) ps hs) is h)

-- it has its number, and so many symbols stand before it
pub record IsNumbered (i : ℕ) (m : OpenMark) (ps : List ImagePiece) (hs : List Stand) : Type 0 where
  pub number : i < length ps
  pub before : m.before ≤ length hs

numbered_in : (l : Lattice) (i : ℕ) (m : OpenMark) (ms : List OpenMark) (ps : List ImagePiece) (hs : List Stand) → HoldsIn l (Some i) m (λ g. up l ms g) (λ qs gs. Holds l ms qs gs) ps hs → IsNumbered i m ps hs
numbered_in l i m ms ps hs h =
    let o = h.0 in
    let all : length ps ≡ length o.before + suc (length (pieces_of l o.trees)) = ap length o.pieces_are ∙ length-append o.before (unended m.stand ∷ pieces_of l o.trees) in
    let count : length hs ≡ length o.stands + length (map (λ g. up l ms (stand_from l m.stand g)) (stands_of l o.trees)) =
    ap length o.stands_are ∙ length-append o.stands (map (λ g. up l ms (stand_from l m.stand g)) (stands_of l o.trees)) in
    record { number = omega (arith, all, o.number); before = omega (arith, count, o.count) }

pub held_numbered : (l : Lattice) (i : ℕ) (m : OpenMark) (ms : List OpenMark) (ps : List ImagePiece) (hs : List Stand) → m.piece ≡ Some i → Holds l (m ∷ ms) ps hs → IsNumbered i m ps hs
held_numbered l i m ms ps hs is h = numbered_in l i m ms ps hs (subst (λ p. HoldsIn l p m (λ g. up l ms g) (λ qs gs. Holds l ms qs gs) ps hs) is h)

pub held_below : (l : Lattice) (m : OpenMark) (ms : List OpenMark) (ps : List ImagePiece) (hs : List Stand) → m.piece ≡ None → Holds l (m ∷ ms) ps hs → Holds l ms ps hs
held_below l m ms ps hs is h = subst (λ p. HoldsIn l p m (λ g. up l ms g) (λ qs gs. Holds l ms qs gs) ps hs) is h
