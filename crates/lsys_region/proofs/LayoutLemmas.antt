-- What stands in the parts of the vector after one of them was written, freed or added.
use Rattle.std.proofs.Common.{◌≡◌, ◌≢◌, ℕ, ◌+◌, ◌-◌, ◌^◌, ◌≤◌, List, [], ◌∷◌, ◌++◌, map, length, set, take, drop, Option, Some, None, slice_get, slice_range, ◌⊎◌, inl, inr, refl, sym, ap, subst, ◌∙◌, arith, length-append, length-take-le, length-drop}
use Rattle.std.specs.Option.{option_map, option_and_then}
use Rattle.std.proofs.lemmas.List.{take-take, drop-drop, take-append-le, take_at}
use Rattle.std.proofs.lemmas.Slice.{between_is, between-put_mid, take-put_mid_below, drop-put_mid}
use borrow.Rule.Slice.PartMut.{put_mid}
use Rattle.std.proofs.lemmas.Option.{same_Some, slice_get-map}
use Rattle.std.proofs.lemmas.Bool.{cases_order}
use Rattle.lsys_region.specs.Parts.{SizedPart}
use Rattle.lsys_region.specs.Pool.{Slot, Pool, list_at}
use Rattle.lsys_region.specs.Rooms.{room_of}
use Rattle.lsys_region.specs.Layout.{slot_of, IsWritten, LieApart}
use Rattle.lsys_region.proofs.ListLemmas.{slice_get-set_cases, slice_get-push_cases}
use Rattle.lsys_region.proofs.RoomLemmas.{room_fits}

abbrev pub part_at : ℕ → ℕ → Option ℕ → SizedPart
part_at start class filled = record { start = start; class = class; filled = filled }

-- a list ends within its part
ends_within : (part : SizedPart) (len : ℕ) → room_of len ≡ 2 ^ part.class → part.start + len ≤ part.start + 2 ^ part.class
ends_within part len roomy = omega (arith, room_fits len)

module _ {T : Type 0} where
  -- the pool that is seen of these parts of this vector
  abbrev pub pool_of : List SizedPart → List T → ℕ → Pool T
  pool_of parts cells spare = record { slots = map (slot_of cells) parts; size = length cells; spare = spare }

  -- what stands before the end of an unchanged front
  slice_range-front : (old new : List T) (front from to : ℕ) → take front new ≡ take front old → to ≤ front → slice_range new from to ≡ slice_range old from to
  slice_range-front old new front from to same inside =
      between_is new from to
      ∙ ap (drop from) (sym (take-take to front new inside) ∙ ap (take to) same ∙ take-take to front old inside)
      ∙ sym (between_is old from to)

  -- what stands after the beginning of an unchanged rest
  slice_range-rest : (old new : List T) (rest from to : ℕ) → drop rest new ≡ drop rest old → rest ≤ from → slice_range new from to ≡ slice_range old from to
  slice_range-rest old new rest from to same inside =
      let split : rest + (from - rest) ≡ from = omega arith in
      let moved : drop from new ≡ drop from old =
      ap (λ i. drop i new) (sym split) ∙ sym (drop-drop (from - rest) rest new) ∙ ap (drop (from - rest)) same ∙ drop-drop (from - rest) rest old ∙ ap (λ i. drop i old) split in
      ap (take (to - from)) moved

  same_list : (old new : List T) (start : ℕ) (filled : Option ℕ) → ((len : ℕ) → filled ≡ Some len → slice_range new start (start + len) ≡ slice_range old start (start + len)) → option_map (λ len. slice_range new start (start + len)) filled ≡ option_map (λ len. slice_range old start (start + len)) filled
  same_list old new start None same = refl
  same_list old new start (Some len) same = ap Some (same len refl)

  same_slot : (old new : List T) (part : SizedPart) → ((len : ℕ) → part.filled ≡ Some len → slice_range new part.start (part.start + len) ≡ slice_range old part.start (part.start + len)) → slot_of new part ≡ slot_of old part
  same_slot old new part same = ap (λ list. record { room = 2 ^ part.class; list = list }) (same_list old new part.start part.filled same)

  -- a write of one part leaves what stands in another
  pub slot_of-written : (parts : List SizedPart) (old new : List T) (n k start class : ℕ) (filled : Option ℕ) (list : List T) (part : SizedPart) → LieApart parts (length old) → slice_get parts n ≡ Some (part_at start class filled) → length list ≤ 2 ^ class → IsWritten old new start list → k ≢ n → slice_get parts k ≡ Some part → slot_of new part ≡ slot_of old part
  slot_of-written parts old new n k start class filled list part lie here fits written other there =
      same_slot old new part (λ len is.
      let within = ends_within part len (lie.roomy k part len there is) in
      elim (cases_order k n) [
        | inl same ↦ absurd (other same)
        | inr apart ↦ elim apart [
          | inl before ↦ slice_range-front old new start part.start (part.start + len) written.before (omega (arith, within, lie.apart k n part (part_at start class filled) before there here))
          | inr after ↦ slice_range-rest old new (start + length list) part.start (part.start + len) written.after (omega (arith, lie.apart n k (part_at start class filled) part after here there))
        ]
      ])

  -- a vector that grows keeps what stands in its parts
  pub slot_of-grown : (parts : List SizedPart) (old tail : List T) (k : ℕ) (part : SizedPart) → LieApart parts (length old) → slice_get parts k ≡ Some part → slot_of (old ++ tail) part ≡ slot_of old part
  slot_of-grown parts old tail k part lie there =
      same_slot old (old ++ tail) part (λ len is.
      let within = ends_within part len (lie.roomy k part len there is) in
      let same : take (length old) (old ++ tail) ≡ take (length old) old = take-append-le (length old) old tail (omega arith) in
      slice_range-front old (old ++ tail) (length old) part.start (part.start + len) same (omega (arith, within, lie.inside k part there)))

  -- a vector is written over from `start` on, as a part of it is
  pub IsWritten-mid : (old base ys list : List T) (start k len : ℕ) → base ≡ old → ys ≡ list → k ≡ length list → len ≡ length old → start + length list ≤ length old → IsWritten old (take len (put_mid start k base ys ++ drop (length (put_mid start k base ys)) old)) start list
  IsWritten-mid old base ys list start k len whole part many counted inside =
      let mid = put_mid start k base ys in
      let begin : start ≤ length base = omega (arith, ap length whole) in
      let parts : length ys ≡ k = ap length part ∙ sym many in
      let size : length mid ≡ length old = omega (arith, length-append (take start base) (ys ++ drop k (drop start base)), length-take-le start base begin, length-append ys (drop k (drop start base)), length-drop k (drop start base), length-drop start base, ap length whole) in
      let same : take len (mid ++ drop (length mid) old) ≡ mid = take_at mid _ len (size ∙ sym counted) in
      subst (λ new. IsWritten old new start list) (sym same) (record {
        size = size;
        written = between-put_mid start k base ys (start + length list) begin (ap length part ∙ omega arith) ∙ part;
        before = take-put_mid_below start k base ys start (omega arith) begin ∙ ap (take start) whole;
        after = drop-put_mid start k base ys (start + length list) (omega arith) begin parts ∙ ap (drop (start + length list)) whole;
      })

  list_of_slot : (cells : List T) (o : Option SizedPart) → option_and_then (λ slot. slot.list) (option_map (slot_of cells) o) ≡ option_and_then (λ part. (slot_of cells part).list) o
  list_of_slot cells None = refl
  list_of_slot cells (Some part) = refl

  -- the list of a number, by its part
  pub list_at-pool_of : (parts : List SizedPart) (cells : List T) (spare n : ℕ) → list_at (pool_of parts cells spare) n ≡ option_and_then (λ part. (slot_of cells part).list) (slice_get parts n)
  list_at-pool_of parts cells spare n =
      ap (option_and_then (λ (slot : Slot T). slot.list)) (slice_get-map (slot_of cells) parts n) ∙ list_of_slot cells (slice_get parts n)

  pub list_at-here : (parts : List SizedPart) (cells : List T) (spare n : ℕ) (part : SizedPart) → slice_get parts n ≡ Some part → list_at (pool_of parts cells spare) n ≡ (slot_of cells part).list
  list_at-here parts cells spare n part here =
      list_at-pool_of parts cells spare n ∙ ap (option_and_then (λ (p : SizedPart). (slot_of cells p).list)) here

  list_same : (old new : List T) (o : Option SizedPart) → ((part : SizedPart) → o ≡ Some part → slot_of new part ≡ slot_of old part) → option_and_then (λ part. (slot_of new part).list) o ≡ option_and_then (λ part. (slot_of old part).list) o
  list_same old new None same = refl
  list_same old new (Some part) same = ap (λ (slot : Slot T). slot.list) (same part refl)

  -- a number whose part stays, with what stands in it, keeps its list
  pub list_at-kept : (before after : List SizedPart) (old new : List T) (spare spare' k : ℕ) → slice_get after k ≡ slice_get before k → ((part : SizedPart) → slice_get before k ≡ Some part → slot_of new part ≡ slot_of old part) → list_at (pool_of after new spare') k ≡ list_at (pool_of before old spare) k
  list_at-kept before after old new spare spare' k kept same =
      list_at-pool_of after new spare' k
      ∙ ap (option_and_then (λ (part : SizedPart). (slot_of new part).list)) kept
      ∙ list_same old new (slice_get before k) same
      ∙ sym (list_at-pool_of before old spare k)

-- a part is filled or freed in its place
pub AreApart-set : (parts : List SizedPart) (size n start class : ℕ) (was now : Option ℕ) → slice_get parts n ≡ Some (part_at start class was) → ((len : ℕ) → now ≡ Some len → room_of len ≡ 2 ^ class) → LieApart parts size → LieApart (set parts n (part_at start class now)) size
AreApart-set parts size n start class was now here roomy lie =
    let read : (k : ℕ) (part : SizedPart) → slice_get (set parts n (part_at start class now)) k ≡ Some part → ((k ≡ n) × (part_at start class now ≡ part)) ⊎ ((k ≢ n) × (slice_get parts k ≡ Some part)) =
    λ k part there. slice_get-set_cases parts n k (part_at start class was) (part_at start class now) part here there in
    let stood : (k : ℕ) (part : SizedPart) → slice_get (set parts n (part_at start class now)) k ≡ Some part → (filled : Option ℕ) × (slice_get parts k ≡ Some (part_at part.start part.class filled)) =
    λ k part there. elim (read k part there) [
      | inl same ↦ (was, ap (slice_get parts) same.0 ∙ here ∙ ap (λ (p : SizedPart). Some (part_at p.start p.class was)) same.1)
      | inr other ↦ (part.filled, other.1)
    ] in
    record {
      inside = λ k part there. (let old = stood k part there in lie.inside k (part_at part.start part.class old.0) old.1);
      apart = λ m k first second below one two. (
          let a = stood m first one in
          let b = stood k second two in
          lie.apart m k (part_at first.start first.class a.0) (part_at second.start second.class b.0) below a.1 b.1
          );
      roomy = λ k part len there is. elim (read k part there) [
        | inl same ↦ roomy len (ap (λ (p : SizedPart). p.filled) same.1 ∙ is) ∙ ap (λ (p : SizedPart). 2 ^ p.class) same.1
        | inr other ↦ lie.roomy k part len other.1 is
      ];
    }

-- a part is added at the end of the vector
pub AreApart-push : (parts : List SizedPart) (size class len : ℕ) → room_of len ≡ 2 ^ class → LieApart parts size → LieApart (parts ++ part_at size class (Some len) ∷ []) (size + 2 ^ class)
AreApart-push parts size class len roomy lie =
    let new = part_at size class (Some len) in
    record {
      inside = λ k part there. elim (slice_get-push_cases parts k new part there) [
        | inl added ↦ subst (λ (p : SizedPart). p.start + 2 ^ p.class ≤ size + 2 ^ class) added.1 (omega arith)
        | inr old ↦ omega (arith, lie.inside k part old.1)
      ];
      apart = λ m k first second below one two. elim (slice_get-push_cases parts m new first one) [
        | inl added ↦ absurd (elim (slice_get-push_cases parts k new second two) [ inl also ↦ omega arith | inr old ↦ omega arith ])
        | inr front ↦ elim (slice_get-push_cases parts k new second two) [
          | inl last ↦ subst (λ (p : SizedPart). first.start + 2 ^ first.class ≤ p.start) last.1 (lie.inside m first front.1)
          | inr old ↦ lie.apart m k first second below front.1 old.1
        ]
      ];
      roomy = λ k part own there is. elim (slice_get-push_cases parts k new part there) [
        | inl added ↦ (
            let same : len ≡ own = same_Some len own (ap (λ (p : SizedPart). p.filled) added.1 ∙ is) in
            ap room_of (sym same) ∙ roomy ∙ ap (λ (p : SizedPart). 2 ^ p.class) added.1
            )
        | inr old ↦ lie.roomy k part own old.1 is
      ];
    }
