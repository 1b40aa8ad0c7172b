-- How many runs of a room are free after a part was taken, freed or added.
use Rattle.std.proofs.Common.{◌≡◌, ℕ, suc, ◌+◌, ◌^◌, List, [], ◌∷◌, map, set, get_or, count_by, cond, eqb, ◌&&◌, Bool, true, false, Option, Some, None, IsSome, slice_get, refl, ap, ◌∙◌, arith}
use Rattle.std.specs.Option.{is_none}
use Rattle.std.proofs.lemmas.List.Sums.{sum_by-set, sum_by-cons}
use Rattle.std.proofs.lemmas.Option.{slice_get_within, get_or_from_slice_get}
use Rattle.std.proofs.lemmas.Bool.{eq-eqb, ne_eqb, and_right}
use Rattle.std.proofs.lemmas.Nat.{pow_pos}
use Rattle.lsys_region.specs.Parts.{SizedPart, AllTaken}
use Rattle.lsys_region.specs.Pool.{free_runs, is_free_of}
use Rattle.lsys_region.specs.Layout.{slot_of}
use Rattle.lsys_region.proofs.LayoutLemmas.{pool_of, part_at}
use Rattle.lsys_region.proofs.RoomLemmas.{same_exponent}

abbrev pub tally : Bool → ℕ
tally b = cond b 1 0

-- the part is free, and of this room
abbrev pub is_free_part : ℕ → SizedPart → Bool
is_free_part room part = is_none part.filled && eqb (2 ^ part.class) room

module _ {T : Type 0} where
  is_free_of-slot : (cells : List T) (room start class : ℕ) (filled : Option ℕ) → is_free_of room (slot_of cells (part_at start class filled)) ≡ is_free_part room (part_at start class filled)
  is_free_of-slot cells room start class None = refl
  is_free_of-slot cells room start class (Some len) = refl

  -- the free runs of the pool are the free parts
  pub free_runs-pool_of : (parts : List SizedPart) (cells : List T) (spare room : ℕ) → free_runs (pool_of parts cells spare) room ≡ count_by (is_free_part room) parts
  free_runs-pool_of [] cells spare room = refl
  free_runs-pool_of (part ∷ parts) cells spare room =
      let one : tally (is_free_of room (slot_of cells part)) ≡ tally (is_free_part room part) = ap tally (is_free_of-slot cells room part.start part.class part.filled) in
      omega (arith, one, free_runs-pool_of parts cells spare room, sum_by-cons (λ s. tally (is_free_of room s)) (slot_of cells part) (map (slot_of cells) parts), sum_by-cons (λ p. tally (is_free_part room p)) part parts)

-- what a write of one part changes of a count
pub count-set : (q : SizedPart → Bool) (parts : List SizedPart) (n : ℕ) (was now : SizedPart) (w z : Bool) → slice_get parts n ≡ Some was → q was ≡ w → q now ≡ z → count_by q (set parts n now) + tally w ≡ count_by q parts + tally z
count-set q parts n was now w z here old new =
    let read : get_or parts n was ≡ was = get_or_from_slice_get parts n was was here in
    let step = sum_by-set (λ p. tally (q p)) parts n now was (slice_get_within parts n was here) in
    let before : tally (q (get_or parts n was)) ≡ tally w = ap (λ p. tally (q p)) read ∙ ap tally old in
    let after : tally (q now) ≡ tally z = ap tally new in
    omega (arith, step, before, after)

pub free_here : (room start class : ℕ) → 2 ^ class ≡ room → is_free_part room (part_at start class None) ≡ true
free_here room start class same = eq-eqb (2 ^ class) room same

pub free_elsewhere : (room start class : ℕ) → (2 ^ class ≡ room → ⊥) → is_free_part room (part_at start class None) ≡ false
free_elsewhere room start class other = ne_eqb (2 ^ class) room other

pub count-none : (q : SizedPart → Bool) (parts : List SizedPart) → ((k : ℕ) (part : SizedPart) → slice_get parts k ≡ Some part → q part ≡ false) → count_by q parts ≡ 0
count-none q [] none = refl
count-none q (part ∷ parts) none =
    let first : tally (q part) ≡ 0 = ap tally (none 0 part refl) in
    omega (arith, first, count-none q parts (λ k p here. none (suc k) p here), sum_by-cons (λ p. tally (q p)) part parts)

taken_not_free : (class start own : ℕ) (filled : Option ℕ) → (own ≡ class → IsSome filled) → is_free_part (2 ^ class) (part_at start own filled) ≡ false
taken_not_free class start own (Some len) taken = refl
taken_not_free class start own None taken = ne_eqb (2 ^ own) (2 ^ class) (λ same. let none = taken (same_exponent own class same) in cc)

-- where all parts of a class hold lists, none of its room is free
pub count-all_taken : (parts : List SizedPart) (class : ℕ) → AllTaken parts class → count_by (is_free_part (2 ^ class)) parts ≡ 0
count-all_taken parts class taken =
    count-none (is_free_part (2 ^ class)) parts (λ k part here. taken_not_free class part.start part.class part.filled (λ same. taken k part here same))

-- no part has the room 0
pub count-no_room : (parts : List SizedPart) → count_by (is_free_part 0) parts ≡ 0
count-no_room parts =
    count-none (is_free_part 0) parts (λ k part here. and_right (is_none part.filled) _ (ne_eqb (2 ^ part.class) 0 (λ same. omega (arith, pow_pos part.class))))
