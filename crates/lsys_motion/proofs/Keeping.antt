-- What the calls of the keeper do to an image that is underway.
use Rattle.std.proofs.Common.{◌≡◌, ◌<◌, ◌+◌, ◌^◌, ℕ, suc, true, false, Option, Some, None, List, [], ◌∷◌, ◌++◌, length, refl, ap, sym, ◌∙◌, subst, nat_lt, arith}
use Rattle.std.specs.Prelude.{ℤ, Contains}
use Rattle.std.proofs.lemmas.Bool.Decides.{nat_tests}
use Rattle.lsys_syntax.specs.Strings as S
use Rattle.lsys_spec.specs.Lattices.{Lattice, frames}
use Rattle.lsys_spec.proofs.Tests.{both}
use Rattle.lsys_lattice.specs.Effects.{first_walker}
use Rattle.lsys_motion.specs.Keepers.{OpenMark, Keeper, noted, module_done, begun, branch_begun, branch_ended, is_piece, has_piece, heres, HasTaken, StaysNear, empty, IsUnderway, Keeps, IsBusy, CanEndPiece, EndsPiece, HasSome}
use Rattle.lsys_motion.specs.Trees.{none}
use Rattle.lsys_motion.proofs.Steps.{IsLast, length-heres, push_taken, cut_taken, module_taken, pop_taken, begun_underway, last_numbered, ended_taken, ended_small, ended_underway}

-- 1. the piece that is open last

pub record HasPiece (ms : List OpenMark) : Type 0 where
  pub mark : OpenMark
  pub others : List OpenMark
  pub number : ℕ
  pub marks : ms ≡ mark ∷ others
  pub piece : mark.piece ≡ Some number

some_piece : (p : Option ℕ) → is_piece p ≡ true → (i : ℕ) × (p ≡ Some i)
some_piece None h = cc
some_piece (Some i) h = (i, refl)

pub open_last : (depth : ℕ) (ms : List OpenMark) → has_piece depth ms ≡ true → HasPiece ms
open_last depth [] h = cc
open_last depth (m ∷ ms) h =
    let told = both (nat_lt depth (length (m ∷ ms))) (is_piece m.piece) h in
    let p = some_piece m.piece told.1 in
    record { mark = m; others = ms; number = p.0; marks = refl; piece = p.1 }

pub can_end : (l : Lattice) (total front : List (S.Symbol ℤ)) (k : Keeper) (depth : ℕ) → has_piece depth k.marks ≡ true → HasTaken l total front k → CanEndPiece l k
can_end l total front k depth h t =
    let o = open_last depth k.marks h in
    let is : IsLast o.number o.mark o.others k = record { marks = o.marks; piece = o.piece } in
    let n = last_numbered l total front o.number o.mark o.others k is t in
    let count : length (heres l front (first_walker l)) ≡ k.symbols = length-heres l front (first_walker l) ∙ sym t.count in
    record {
      number = o.number;
      mark = o.mark;
      others = o.others;
      marks = o.marks;
      piece = o.piece;
      within = n.number;
      before = omega (arith, n.before, count);
      small = ended_small l total front o.number o.mark o.others k is t;
    }

pub end_keeps : (l : Lattice) (old new : Keeper) (depth : ℕ) → has_piece depth old.marks ≡ true → EndsPiece l old new → (rest : List (S.Symbol ℤ)) → Keeps l rest rest old new
end_keeps l old new depth h ends rest total u =
    let o = open_last depth old.marks h in
    subst (λ k. IsUnderway l total rest k) (sym (ends o.number o.mark o.others o.marks o.piece))
    (ended_underway l total rest o.number o.mark o.others old (record { marks = o.marks; piece = o.piece }) u)

pub end_takes : (l : Lattice) (old new : Keeper) (depth : ℕ) → has_piece depth old.marks ≡ true → EndsPiece l old new → (total front : List (S.Symbol ℤ)) → HasTaken l total front old → HasTaken l total front new
end_takes l old new depth h ends total front t =
    let o = open_last depth old.marks h in
    subst (λ k. HasTaken l total front k) (sym (ends o.number o.mark o.others o.marks o.piece))
    (ended_taken l total front o.number o.mark o.others old (record { marks = o.marks; piece = o.piece }) t)

pub end_fewer : (l : Lattice) (old new : Keeper) (depth : ℕ) → has_piece depth old.marks ≡ true → EndsPiece l old new → length new.marks < length old.marks
end_fewer l old new depth h ends =
    let o = open_last depth old.marks h in
    let a : length new.marks ≡ length o.others = ap (λ (k : Keeper). length k.marks) (ends o.number o.mark o.others o.marks o.piece) in
    let b : length old.marks ≡ suc (length o.others) = ap length o.marks in
    omega (arith, a, b)

-- 2. a symbol

pub push_keeps : (l : Lattice) (old mid new : Keeper) → mid ≡ noted old → new ≡ branch_begun mid → Contains (frames l) mid.here.frame → (rest : List (S.Symbol ℤ)) → Keeps l (S.Push ∷ rest) rest old new
push_keeps l old mid new a b known rest total u =
    subst (λ k. IsUnderway l total rest k) (sym (b ∙ ap branch_begun a))
    (push_taken l total rest old (subst (λ (k : Keeper). Contains (frames l) k.here.frame) a known) u)

pub pop_keeps : (l : Lattice) (old mid new : Keeper) → mid ≡ noted old → new ≡ branch_ended mid.marks mid → has_piece 0 old.marks ≡ false → (rest : List (S.Symbol ℤ)) → Keeps l (S.Pop ∷ rest) rest old new
pop_keeps l old mid new a b clear rest total u =
    subst (λ k. IsUnderway l total rest k) (sym (b ∙ ap (λ (k : Keeper). branch_ended k.marks k) a)) (pop_taken l total rest old clear u)

pub cut_keeps : (l : Lattice) (old mid : Keeper) → mid ≡ noted old → (rest : List (S.Symbol ℤ)) → Keeps l (S.Cut ∷ rest) rest old mid
cut_keeps l old mid a rest total u = subst (λ k. IsUnderway l total rest k) (sym a) (cut_taken l total rest old u)

pub module_keeps : (l : Lattice) (n : S.ModuleName) (ps : List ℤ) (old new : Keeper) → new ≡ module_done l n ps (noted old) → (rest : List (S.Symbol ℤ)) → Keeps l (S.Module n ps ∷ rest) rest old new
module_keeps l n ps old new a rest total u = subst (λ k. IsUnderway l total rest k) (sym a) (module_taken l total rest n ps old u)

pub begin_keeps : (l : Lattice) (old new : Keeper) → new ≡ begun l old → Contains (frames l) old.here.frame → (rest : List (S.Symbol ℤ)) → Keeps l rest rest old new
begin_keeps l old new a known rest total u = subst (λ k. IsUnderway l total rest k) (sym a) (begun_underway l total rest old known u)

pub keeps_same : (l : Lattice) (old new : Keeper) → new ≡ old → (rest : List (S.Symbol ℤ)) → Keeps l rest rest old new
keeps_same l old new e rest total u = subst (λ k. IsUnderway l total rest k) (sym e) u

pub keeps_then : (l : Lattice) (a b c : List (S.Symbol ℤ)) (k m n : Keeper) → Keeps l a b k m → Keeps l b c m n → Keeps l a c k n
keeps_then l a b c k m n f g total u = g total (f total u)

pub busy_then : (l : Lattice) (a b : List (S.Symbol ℤ)) (k m : Keeper) → Keeps l a b k m → IsBusy l a k → IsBusy l b m
busy_then l a b k m f u = record { total = u.total; is = f u.total u.is }

-- 3. the end

pub busy_taken : (l : Lattice) (rest : List (S.Symbol ℤ)) (k : Keeper) → IsBusy l rest k → HasSome l k
busy_taken l rest k b = record { total = b.total; front = b.is.front; taken = b.is.taken }

pub ended_whole : (l : Lattice) (total : List (S.Symbol ℤ)) (k : Keeper) → IsUnderway l total [] k → HasTaken l total total k
ended_whole l total k u = let e : u.front ≡ total = sym (u.is ∙ nothing u.front) in subst (λ front. HasTaken l total front k) e u.taken
  where
    nothing : (xs : List (S.Symbol ℤ)) → xs ++ [] ≡ xs
    nothing [] = refl
    nothing (x ∷ xs) = ap (λ ys. x ∷ ys) (nothing xs)

positive : (n : ℕ) → nat_lt 0 (suc n) ≡ true
positive n = grind (arith, nat_tests)

-- 4. the start

pub start_underway : (l : Lattice) (total : List (S.Symbol ℤ)) (k : Keeper) → k ≡ empty l → StaysNear l total → length total < 2 ^ 32
    → IsUnderway l total total k
start_underway l total k e near few = subst (λ k. IsUnderway l total total k) (sym e) (record {
  front = [];
  is = refl;
  taken = record {
    rest = total;
    front_is = refl;
    near = near;
    few = few;
    here = refl;
    holds = record { trees = none; pieces_are = refl; stands_are = refl; near = tt };
    count = refl;
    known = tt;
  };
  there = refl;
})
