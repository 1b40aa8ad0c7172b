-- Each change of what is kept, over an image that is underway.
use Rattle.std.proofs.Common.{◌≡◌, ◌+◌, ◌-◌, ◌&&◌, ℕ, suc, true, false, Option, Some, None, List, [], ◌∷◌, ◌++◌, length, take, length-append, append_assoc, refl, ap, sym, ◌∙◌, subst, slice_set, nat_lt, arith}
use Rattle.std.specs.Prelude.{ℤ, Contains}
use Rattle.std.proofs.lemmas.Bool.Decides.{nat_tests}
use Rattle.std.proofs.Math.Seq.{take-append_seam}
use Rattle.lsys_syntax.specs.Strings as S
use Rattle.lsys_spec.specs.Lattices.{Lattice, frames}
use Rattle.lsys_spec.specs.Pictures.{act}
use Rattle.lsys_lattice.specs.Effects.{Stand, Walker, walker, done, stepped, walked, first_walker, stand_from}
use Rattle.lsys_lattice.proofs.Fronts.{first_known, stand_there, walked-append}
use Rattle.lsys_motion.specs.Pieces.{ImagePiece, IsNear}
use Rattle.lsys_motion.specs.Trees.{none, symbol}
use Rattle.lsys_motion.specs.Keepers.{OpenMark, Keeper, HasSmallPlace, noted, begun, branch_begun, module_done, piece_ended, left_branch, branch_ended, is_piece, has_piece, up, through, out_of, outward, heres, Holds, HasTaken, IsUnderway}
use Rattle.lsys_motion.proofs.Seeing.{AreKnown, seen_start, up_seen, up_known, outward_here, step_outward}
use Rattle.lsys_motion.proofs.Small.{small_there}
use Rattle.lsys_motion.proofs.Holding.{held_more, base_near, held_begun, held_ended, held_numbered, held_below, IsNumbered}

-- 1. fronts

pub heres-append : (l : Lattice) (xs ys : List (S.Symbol ℤ)) (w : Walker) → heres l (xs ++ ys) w ≡ heres l xs w ++ heres l ys (walked l xs w)
heres-append l [] ys w = refl
heres-append l (x ∷ xs) ys w = ap (λ hs. w.here ∷ hs) (heres-append l xs ys (stepped l x w))

pub length-heres : (l : Lattice) (xs : List (S.Symbol ℤ)) (w : Walker) → length (heres l xs w) ≡ length xs
length-heres l [] w = refl
length-heres l (x ∷ xs) w = ap suc (length-heres l xs (stepped l x w))

walked_more : (l : Lattice) (front : List (S.Symbol ℤ)) (x : S.Symbol ℤ) (w : Walker) → walked l (front ++ x ∷ []) w ≡ stepped l x (walked l front w)
walked_more l front x w = walked-append l front (x ∷ []) w

front_near : (l : Lattice) (total front rest : List (S.Symbol ℤ)) → total ≡ front ++ rest → ((n : ℕ) → IsNear (walked l (take n total) (first_walker l)).here) → IsNear (walked l front (first_walker l)).here
front_near l total front rest e near =
    subst (λ xs. IsNear (walked l xs (first_walker l)).here) (ap (take (length front)) e ∙ take-append_seam front rest) (near (length front))

pub taken_near : (l : Lattice) (total front : List (S.Symbol ℤ)) (k : Keeper) → HasTaken l total front k → IsNear (walked l front (first_walker l)).here
taken_near l total front k t = front_near l total front t.rest t.front_is t.near

-- 2. seen from where the last piece that is open began

seen_from_base : (l : Lattice) (ms : List OpenMark) (h : Stand) → up l ms h ≡ stand_from l (up l ms (first_walker l).here) h
seen_from_base l ms h = ap (up l ms) (sym (stand_there l h)) ∙ up_seen l ms (first_walker l).here h

pub small_here : (l : Lattice) (ms : List OpenMark) (ps : List ImagePiece) (hs : List Stand) (h : Stand) → AreKnown l ms → Holds l ms ps hs → IsNear (up l ms h) → HasSmallPlace h
small_here l ms ps hs h k held near =
    small_there l (up l ms (first_walker l).here) h (up_known l ms (first_walker l).here k (first_known l)) (base_near l ms ps hs held) (subst IsNear (seen_from_base l ms h) near)

-- 3. a symbol is noted

noted_holds : (l : Lattice) (total front : List (S.Symbol ℤ)) (x : S.Symbol ℤ) (k : Keeper) → HasTaken l total front k
    → Holds l k.marks (noted k).pieces (heres l (front ++ x ∷ []) (first_walker l))
noted_holds l total front x k t =
    let near : IsNear (up l k.marks k.here) = subst IsNear (sym t.here) (taken_near l total front k t) in
    let more = held_more l k.marks k.pieces (heres l front (first_walker l)) (symbol k.here none) (near, tt) t.holds in
    let same : heres l front (first_walker l) ++ up l k.marks k.here ∷ [] ≡ heres l (front ++ x ∷ []) (first_walker l) =
    ap (λ h. heres l front (first_walker l) ++ h ∷ []) t.here ∙ sym (heres-append l front (x ∷ []) (first_walker l)) in
    subst (λ hs. Holds l k.marks (noted k).pieces hs) same more

-- a symbol was taken: it was noted, and the walker went on
record Went (l : Lattice) (x : S.Symbol ℤ) (k k' : Keeper) : Type 0 where
  pieces : k'.pieces ≡ (noted k).pieces
  symbols : k'.symbols ≡ k.symbols + 1
  holds : (ps : List ImagePiece) (hs : List Stand) → Holds l k.marks ps hs → Holds l k'.marks ps hs
  there : outward l k'.marks (walker k'.here []) ≡ stepped l x (outward l k.marks (walker k.here []))
  known : AreKnown l k'.marks

went_on : (l : Lattice) (total rest : List (S.Symbol ℤ)) (x : S.Symbol ℤ) (k k' : Keeper) → IsUnderway l total (x ∷ rest) k → Went l x k k' → IsUnderway l total rest k'
went_on l total rest x k k' u w =
    let front = u.front ++ x ∷ [] in
    let is : total ≡ front ++ rest = u.is ∙ sym (append_assoc u.front (x ∷ []) rest) in
    let there : outward l k'.marks (walker k'.here []) ≡ walked l front (first_walker l) = w.there ∙ ap (stepped l x) u.there ∙ sym (walked_more l u.front x (first_walker l)) in
    record {
      front = u.front ++ x ∷ [];
      is = is;
      taken = record {
        rest = rest;
        front_is = is;
        near = u.taken.near;
        few = u.taken.few;
        here = sym (outward_here l k'.marks (walker k'.here [])) ∙ ap (λ (v : Walker). v.here) there;
        holds = w.holds k'.pieces (heres l front (first_walker l)) (subst (λ ps. Holds l k.marks ps (heres l front (first_walker l))) (sym w.pieces) (noted_holds l total u.front x k u.taken));
        count = w.symbols ∙ ap (λ n. n + 1) u.taken.count ∙ sym (length-append u.front (x ∷ []));
        known = w.known;
      };
      there = there;
    }

pub push_taken : (l : Lattice) (total rest : List (S.Symbol ℤ)) (k : Keeper) → Contains (frames l) k.here.frame → IsUnderway l total (S.Push ∷ rest) k → IsUnderway l total rest (branch_begun (noted k))
push_taken l total rest k f u =
    went_on l total rest S.Push k (branch_begun (noted k)) u (record {
      pieces = refl;
      symbols = refl;
      holds = λ ps hs h. h;
      there = step_outward l k.marks S.Push (walker k.here []) u.taken.known tt;
      known = (f, u.taken.known);
    })

pub cut_taken : (l : Lattice) (total rest : List (S.Symbol ℤ)) (k : Keeper) → IsUnderway l total (S.Cut ∷ rest) k → IsUnderway l total rest (noted k)
cut_taken l total rest k u =
    went_on l total rest S.Cut k (noted k) u (record { pieces = refl; symbols = refl; holds = λ ps hs h. h; there = refl; known = u.taken.known })

pub module_taken : (l : Lattice) (total rest : List (S.Symbol ℤ)) (n : S.ModuleName) (ps : List ℤ) (k : Keeper) → IsUnderway l total (S.Module n ps ∷ rest) k → IsUnderway l total rest (module_done l n ps (noted k))
module_taken l total rest n ps k u =
    went_on l total rest (S.Module n ps) k (module_done l n ps (noted k)) u (record {
      pieces = refl;
      symbols = refl;
      holds = λ ps hs h. h;
      there = step_outward l k.marks (S.Module n ps) (walker k.here []) u.taken.known tt;
      known = u.taken.known;
    })

pub module_small : (l : Lattice) (total rest : List (S.Symbol ℤ)) (n : S.ModuleName) (ps : List ℤ) (k : Keeper) → IsUnderway l total (S.Module n ps ∷ rest) k → HasSmallPlace (done l (act n ps) k.here)
module_small l total rest n ps k u =
    let v = module_taken l total rest n ps k u in
    small_here l k.marks (noted k).pieces (heres l v.front (first_walker l)) (done l (act n ps) k.here) u.taken.known v.taken.holds
    (subst IsNear (sym v.taken.here) (taken_near l total v.front (module_done l n ps (noted k)) v.taken))

-- a `]`, with no piece open last
pop_none : (l : Lattice) (total rest : List (S.Symbol ℤ)) (ps : List ImagePiece) (here : Stand) (n : ℕ) → let k : Keeper = record { pieces = ps; marks = []; here = here; symbols = n } in
    IsUnderway l total (S.Pop ∷ rest) k → IsUnderway l total rest (noted k)
pop_none l total rest ps here n u =
    let k : Keeper = record { pieces = ps; marks = []; here = here; symbols = n } in
    went_on l total rest S.Pop k (noted k) u (record { pieces = refl; symbols = refl; holds = λ ps hs h. h; there = refl; known = tt })

pop_branch : (l : Lattice) (total rest : List (S.Symbol ℤ)) (ps : List ImagePiece) (m : OpenMark) (ms : List OpenMark) (here : Stand) (n : ℕ) (p : Option ℕ) → m.piece ≡ p → is_piece p ≡ false
    → let k : Keeper = record { pieces = ps; marks = m ∷ ms; here = here; symbols = n } in IsUnderway l total (S.Pop ∷ rest) k → IsUnderway l total rest (left_branch p m ms (noted k))
pop_branch l total rest ps m ms here n (Some i) e c u = cc
pop_branch l total rest ps m ms here n None e c u =
    let k : Keeper = record { pieces = ps; marks = m ∷ ms; here = here; symbols = n } in
    let k' : Keeper = left_branch None m ms (noted k) in
    let v : Walker = walker here (m.stand ∷ []) in
    let out : outward l (m ∷ ms) (walker here []) ≡ outward l ms v = subst (λ p. outward l ms (out_of l p m.stand (walker here [])) ≡ outward l ms v) (sym e) refl in
    went_on l total rest S.Pop k k' u (record {
      pieces = refl;
      symbols = refl;
      holds = λ ps hs h. held_below l m ms ps hs e h;
      there = step_outward l ms S.Pop v u.taken.known.1 tt ∙ ap (stepped l S.Pop) (sym out);
      known = u.taken.known.1;
    })

no_piece : (n : ℕ) (p : Option ℕ) → nat_lt 0 (suc n) && is_piece p ≡ false → is_piece p ≡ false
no_piece n p h = let e : nat_lt 0 (suc n) ≡ true = grind (arith, nat_tests) in ap (λ b. b && is_piece p) (sym e) ∙ h

pub pop_taken : (l : Lattice) (total rest : List (S.Symbol ℤ)) (k : Keeper) → has_piece 0 k.marks ≡ false → IsUnderway l total (S.Pop ∷ rest) k → IsUnderway l total rest (branch_ended k.marks (noted k))
pop_taken l total rest k c u = by k.pieces k.marks k.here k.symbols c u
  where
    by : (ps : List ImagePiece) (ms : List OpenMark) (here : Stand) (n : ℕ) → has_piece 0 ms ≡ false → let k : Keeper = record { pieces = ps; marks = ms; here = here; symbols = n } in
        IsUnderway l total (S.Pop ∷ rest) k → IsUnderway l total rest (branch_ended ms (noted k))
    by ps [] here n c u = pop_none l total rest ps here n u
    by ps (m ∷ ms) here n c u = pop_branch l total rest ps m ms here n m.piece refl (no_piece (length ms) m.piece c) u

-- 4. a piece begins

pub begun_underway : (l : Lattice) (total rest : List (S.Symbol ℤ)) (k : Keeper) → Contains (frames l) k.here.frame → IsUnderway l total rest k → IsUnderway l total rest (begun l k)
begun_underway l total rest k f u =
    let t = u.taken in
    let near : IsNear (up l k.marks k.here) = subst IsNear (sym t.here) (taken_near l total u.front k t) in
    let hs = heres l u.front (first_walker l) in
    let count : length hs ≡ k.symbols = length-heres l u.front (first_walker l) ∙ sym t.count in
    let begins = held_begun l k.marks k.pieces hs k.here t.holds near in
    record {
      front = u.front;
      is = u.is;
      taken = record {
        rest = t.rest;
        front_is = t.front_is;
        near = t.near;
        few = t.few;
        here = ap (up l k.marks) (seen_start l k.here) ∙ t.here;
        holds = subst (λ n. Holds l (record { piece = Some (length k.pieces); before = n; stand = k.here } ∷ k.marks) (begun l k).pieces (heres l u.front (first_walker l))) count begins;
        count = t.count;
        known = (f, t.known);
      };
      there = ap (λ h. outward l k.marks (walker h [])) (seen_start l k.here) ∙ u.there;
    }

-- 5. a piece ends, or a branch is left

-- the last that is open is this piece
pub record IsLast (i : ℕ) (m : OpenMark) (ms : List OpenMark) (k : Keeper) : Type 0 where
  pub marks : k.marks ≡ m ∷ ms
  pub piece : m.piece ≡ Some i

pub last_numbered : (l : Lattice) (total front : List (S.Symbol ℤ)) (i : ℕ) (m : OpenMark) (ms : List OpenMark) (k : Keeper) → IsLast i m ms k → HasTaken l total front k
    → IsNumbered i m k.pieces (heres l front (first_walker l))
last_numbered l total front i m ms k is t = held_numbered l i m ms k.pieces (heres l front (first_walker l)) is.piece (subst (λ ms. Holds l ms k.pieces (heres l front (first_walker l))) is.marks t.holds)

up_last : (l : Lattice) (i : ℕ) (m : OpenMark) (ms : List OpenMark) (h : Stand) → m.piece ≡ Some i → up l (m ∷ ms) h ≡ up l ms (stand_from l m.stand h)
up_last l i m ms h e = ap (λ p. up l ms (through l p m.stand h)) e

out_last : (l : Lattice) (i : ℕ) (m : OpenMark) (ms : List OpenMark) (h : Stand) → m.piece ≡ Some i → outward l (m ∷ ms) (walker h []) ≡ outward l ms (walker (stand_from l m.stand h) [])
out_last l i m ms h e = ap (λ p. outward l ms (out_of l p m.stand (walker h []))) e

pub ended_taken : (l : Lattice) (total front : List (S.Symbol ℤ)) (i : ℕ) (m : OpenMark) (ms : List OpenMark) (k : Keeper) → IsLast i m ms k → HasTaken l total front k → HasTaken l total front (piece_ended l i m ms k)
ended_taken l total front i m ms k is t =
    let hs = heres l front (first_walker l) in
    let count : length hs ≡ k.symbols = length-heres l front (first_walker l) ∙ sym t.count in
    let holds : Holds l (m ∷ ms) k.pieces (heres l front (first_walker l)) = subst (λ ms. Holds l ms k.pieces (heres l front (first_walker l))) is.marks t.holds in
    let ends = held_ended l i m ms k.pieces (heres l front (first_walker l)) is.piece holds in
    let known : AreKnown l (m ∷ ms) = subst (λ ms. AreKnown l ms) is.marks t.known in
    record {
      rest = t.rest;
      front_is = t.front_is;
      near = t.near;
      few = t.few;
      here = sym (up_last l i m ms k.here is.piece) ∙ ap (λ ms. up l ms k.here) (sym is.marks) ∙ t.here;
      holds = subst (λ n. Holds l ms (slice_set k.pieces i (record { symbols = n - m.before; pieces = length k.pieces - i; start = m.stand })) (heres l front (first_walker l))) count ends;
      count = t.count;
      known = known.1;
    }

pub ended_small : (l : Lattice) (total front : List (S.Symbol ℤ)) (i : ℕ) (m : OpenMark) (ms : List OpenMark) (k : Keeper) → IsLast i m ms k → HasTaken l total front k → HasSmallPlace (stand_from l m.stand k.here)
ended_small l total front i m ms k is t =
    let e = ended_taken l total front i m ms k is t in
    small_here l ms (piece_ended l i m ms k).pieces (heres l front (first_walker l)) (stand_from l m.stand k.here) e.known e.holds
    (subst IsNear (sym e.here) (taken_near l total front (piece_ended l i m ms k) e))

pub ended_underway : (l : Lattice) (total rest : List (S.Symbol ℤ)) (i : ℕ) (m : OpenMark) (ms : List OpenMark) (k : Keeper) → IsLast i m ms k → IsUnderway l total rest k → IsUnderway l total rest (piece_ended l i m ms k)
ended_underway l total rest i m ms k is u = record {
  front = u.front;
  is = u.is;
  taken = ended_taken l total u.front i m ms k is u.taken;
  there = sym (out_last l i m ms k.here is.piece) ∙ ap (λ ms. outward l ms (walker k.here [])) (sym is.marks) ∙ u.there;
}
