-- What a contract of the region says, from what its fields are.
use Rattle.std.proofs.Common.{◌≡◌, ◌≢◌, ℕ, ◌+◌, ◌-◌, ◌^◌, ◌<◌, ◌≤◌, List, [], ◌∷◌, ◌++◌, length, set, drop, count_by, true, false, Option, Some, None, slice_get, slice_range, refl, sym, ap, subst, ◌∙◌, arith, append_assoc, length-append, length-set, length-drop, length-take-le, IsSome, IfSome}
use Rattle.std.specs.Option.{option_and_then}
use Rattle.std.proofs.lemmas.List.{drop_at, take_at, length_push}
use Rattle.std.proofs.lemmas.List.Sums.{sum_by_push}
use Rattle.std.proofs.lemmas.Option.{same_Some, none-some, slice_get_past, slice_get-get_or}
use Rattle.std.proofs.lemmas.Nat.{pow_pos}
use Rattle.std.proofs.lemmas.Bool.{false≢true}
use Rattle.lsys_region.specs.Parts.{SizedPart, AllTaken, IsTakenPart, IsPartSpan, AddsPart, TakesPart, FreesPart}
use Rattle.lsys_region.specs.Pool.{Pool, list_at, list_of, IsLiveRun, OthersStay, IsFresh, free_runs, free_for, OtherRoomsStay, Reuses, Grows, GivesBack}
use Rattle.lsys_region.specs.Rooms.{room_of, list_room}
use Rattle.lsys_region.specs.Layout.{slot_of, IsWritten, IsAppended, LieApart, IsSoundLayout}
use Rattle.lsys_region.proofs.ListLemmas.{slice_get-set_other, slice_get-set_same, slice_get-push_new, slice_get-push_other}
use Rattle.lsys_region.proofs.RoomLemmas.{room_fits}
use Rattle.lsys_region.proofs.LayoutLemmas.{part_at, pool_of, slot_of-written, slot_of-grown, list_at-pool_of, list_at-here, list_at-kept, AreApart-set, AreApart-push}
use Rattle.lsys_region.proofs.CountLemmas.{tally, is_free_part, free_runs-pool_of, count-set, free_here, free_elsewhere, count-all_taken, count-no_room}

-- the number gets this list, and no other number changes
pub record PlacedIn {T : Type 0} (old new : Pool T) (n : ℕ) (list : List T) : Type 0 where
  pub placed : list_at new n ≡ Some list
  pub fresh : list_at old n ≡ None
  pub others : (k : ℕ) → k ≢ n → list_at new k ≡ list_at old k

length_range : {T : Type 0} → (cells : List T) (start len : ℕ) → start + len ≤ length cells → length (slice_range cells start (start + len)) ≡ len
length_range cells start len within =
    let count : start + len - start ≡ len = omega arith in
    let rest : len ≤ length (drop start cells) = omega (arith, length-drop start cells) in
    rw count (length-take-le len (drop start cells) rest)

-- where a list has no last element, its room is 0
pub room_of-no_last : {T : Type 0} (list : List T) → slice_get list (length list - 1) ≡ None → room_of (length list) ≡ 0
unfolding room_of
room_of-no_last [] none = refl
room_of-no_last (x ∷ list) none = absurd (none-some _ (sym none ∙ slice_get-get_or (x ∷ list) (length (x ∷ list) - 1) x (omega arith)))

module _ {T : Type 0} where
  pub OthersStay-numbers : (old new : Pool T) (n : ℕ) → ((k : ℕ) → k ≢ n → list_at new k ≡ list_at old k) → OthersStay old new (Some n)
  OthersStay-numbers old new n others None other = refl
  OthersStay-numbers old new n others (Some k) other = others k (λ same. other (ap Some same))

  -- the list that is written to a part that was taken
  pub placed_again : (parts parts' : List SizedPart) (cells cells' : List T) (spare spare' n class start own len : ℕ) (list : List T) → LieApart parts (length cells) → TakesPart parts parts' n class (length list) → slice_get parts' n ≡ Some (part_at start own (Some len)) → room_of (length list) ≡ 2 ^ class → IsWritten cells cells' start list → PlacedIn (pool_of parts cells spare) (pool_of parts' cells' spare') n list
  placed_again parts parts' cells cells' spare spare' n class start own len list lie taken here roomy written =
      let now : slice_get parts' n ≡ Some (part_at taken.start class (Some (length list))) = ap (λ (ps : List SizedPart). slice_get ps n) taken.changed ∙ slice_get-set_same parts n _ _ taken.was_free in
      let begins : taken.start ≡ start = ap (λ (p : SizedPart). p.start) (same_Some _ _ (sym now ∙ here)) in
      let over : IsWritten cells cells' taken.start list = subst (λ at. IsWritten cells cells' at list) (sym begins) written in
      record {
        placed = list_at-here parts' cells' spare' n _ now ∙ ap Some over.written;
        fresh = list_at-here parts cells spare n _ taken.was_free;
        others = λ k other. list_at-kept parts parts' cells cells' spare spare' k
            (ap (λ (ps : List SizedPart). slice_get ps k) taken.changed ∙ slice_get-set_other parts n k _ other)
            (λ part there. slot_of-written parts cells cells' n k taken.start class None list part lie taken.was_free (omega (arith, room_fits (length list))) over other there);
      }

  -- the list that is written to a part that was added at the end
  pub placed_new : (parts : List SizedPart) (cells tail : List T) (spare spare' class : ℕ) (list : List T) → LieApart parts (length cells) → PlacedIn (pool_of parts cells spare) (pool_of (parts ++ part_at (length cells) class (Some (length list)) ∷ []) (cells ++ list ++ tail) spare') (length parts) list
  placed_new parts cells tail spare spare' class list lie =
      let new = part_at (length cells) class (Some (length list)) in
      let joined : cells ++ list ++ tail ≡ cells ++ (list ++ tail) = append_assoc cells list tail in
      let counted : length cells + length list - length cells ≡ length list = omega arith in
      let stands : slice_range (cells ++ list ++ tail) (length cells) (length cells + length list) ≡ list =
      rw (joined, drop_at cells (list ++ tail) (length cells) refl, counted) (take_at list tail (length list) refl) in
      record {
        placed = list_at-here (parts ++ new ∷ []) (cells ++ list ++ tail) spare' (length parts) new (slice_get-push_new parts new) ∙ ap Some stands;
        fresh = list_at-pool_of parts cells spare (length parts) ∙ ap (option_and_then (λ (p : SizedPart). (slot_of cells p).list)) (slice_get_past parts (length parts) (omega arith));
        others = λ k other. list_at-kept parts (parts ++ new ∷ []) cells (cells ++ list ++ tail) spare spare' k
            (slice_get-push_other parts k new other)
            (λ part there. ap (λ all. slot_of all part) joined ∙ slot_of-grown parts cells (list ++ tail) k part lie there);
      }

  -- a number whose part was freed has no list, and no other number changes
  pub record FreedIn (old new : Pool T) (n : ℕ) : Type 0 where
    pub gone : list_at new n ≡ None
    pub others : (k : ℕ) → k ≢ n → list_at new k ≡ list_at old k

  pub freed : (parts parts' : List SizedPart) (cells : List T) (spare n : ℕ) → FreesPart parts parts' n → FreedIn (pool_of parts cells spare) (pool_of parts' cells spare) n
  freed parts parts' cells spare n frees =
      record {
        gone = list_at-here parts' cells spare n _ (ap (λ (ps : List SizedPart). slice_get ps n) frees.changed ∙ slice_get-set_same parts n _ _ frees.was_taken);
        others = λ k other. list_at-kept parts parts' cells cells spare spare k
            (ap (λ (ps : List SizedPart). slice_get ps k) frees.changed ∙ slice_get-set_other parts n k _ other)
            (λ part there. refl);
      }

  -- as many free runs of each other room
  abbrev pub SameElsewhere : Pool T → Pool T → ℕ → Type 0
  SameElsewhere old new room = (other : ℕ) → other ≢ room → free_runs new other ≡ free_runs old other

  -- taking a part takes one free run of its room
  pub taken_counts : (parts parts' : List SizedPart) (cells cells' : List T) (spare spare' n class len room : ℕ) → TakesPart parts parts' n class len → room ≡ 2 ^ class → (free_runs (pool_of parts' cells' spare') room + 1 ≡ free_runs (pool_of parts cells spare) room) × SameElsewhere (pool_of parts cells spare) (pool_of parts' cells' spare') room
  taken_counts parts parts' cells cells' spare spare' n class len room taken same =
      let here = count-set (is_free_part room) parts n _ (part_at taken.start class (Some len)) true false taken.was_free (free_here room taken.start class (sym same)) refl in
      let now : count_by (is_free_part room) parts' ≡ count_by (is_free_part room) (set parts n (part_at taken.start class (Some len))) = ap (count_by (is_free_part room)) taken.changed in (
        omega (arith, here, now, free_runs-pool_of parts cells spare room, free_runs-pool_of parts' cells' spare' room),
        λ other apart. (
            let there = count-set (is_free_part other) parts n _ (part_at taken.start class (Some len)) false false taken.was_free (free_elsewhere other taken.start class (λ e. apart (sym e ∙ sym same))) refl in
            let after : count_by (is_free_part other) parts' ≡ count_by (is_free_part other) (set parts n (part_at taken.start class (Some len))) = ap (count_by (is_free_part other)) taken.changed in
            omega (arith, there, after, free_runs-pool_of parts cells spare other, free_runs-pool_of parts' cells' spare' other)
            ),
      )

  -- freeing a part gives one free run of its room
  pub freed_counts : (parts parts' : List SizedPart) (cells : List T) (spare n room : ℕ) (frees : FreesPart parts parts' n) → room ≡ 2 ^ frees.class → (free_runs (pool_of parts' cells spare) room ≡ free_runs (pool_of parts cells spare) room + 1) × SameElsewhere (pool_of parts cells spare) (pool_of parts' cells spare) room
  freed_counts parts parts' cells spare n room frees same =
      let new = part_at frees.start frees.class None in
      let here = count-set (is_free_part room) parts n _ new false true frees.was_taken refl (free_here room frees.start frees.class (sym same)) in
      let now : count_by (is_free_part room) parts' ≡ count_by (is_free_part room) (set parts n new) = ap (count_by (is_free_part room)) frees.changed in (
        omega (arith, here, now, free_runs-pool_of parts cells spare room, free_runs-pool_of parts' cells spare room),
        λ other apart. (
            let there = count-set (is_free_part other) parts n _ new false false frees.was_taken refl (free_elsewhere other frees.start frees.class (λ e. apart (sym e ∙ sym same))) in
            let after : count_by (is_free_part other) parts' ≡ count_by (is_free_part other) (set parts n new) = ap (count_by (is_free_part other)) frees.changed in
            omega (arith, there, after, free_runs-pool_of parts cells spare other, free_runs-pool_of parts' cells spare other)
            ),
      )

  -- adding a part that holds a list leaves the free runs
  pub grown_counts : (parts : List SizedPart) (cells cells' : List T) (spare spare' start class len room : ℕ) → free_runs (pool_of (parts ++ part_at start class (Some len) ∷ []) cells' spare') room ≡ free_runs (pool_of parts cells spare) room
  grown_counts parts cells cells' spare spare' start class len room =
      omega (arith, sum_by_push (λ p. tally (is_free_part room p)) parts (part_at start class (Some len)), free_runs-pool_of parts cells spare room, free_runs-pool_of (parts ++ part_at start class (Some len) ∷ []) cells' spare' room)

  pub no_free_runs : (parts : List SizedPart) (cells : List T) (spare class room : ℕ) → AllTaken parts class → room ≡ 2 ^ class → free_runs (pool_of parts cells spare) room ≡ 0
  no_free_runs parts cells spare class room taken same =
      free_runs-pool_of parts cells spare room ∙ ap (λ r. count_by (is_free_part r) parts) same ∙ count-all_taken parts class taken

  pub no_free_room : (parts : List SizedPart) (cells : List T) (spare : ℕ) → free_runs (pool_of parts cells spare) 0 ≡ 0
  no_free_room parts cells spare = free_runs-pool_of parts cells spare 0 ∙ count-no_room parts

-- the places of a list lie within the vector
pub places_within : {parts : List SizedPart} {size n start len : ℕ} → LieApart parts size → IsPartSpan parts n start len → start + len ≤ size
places_within {parts} {size} {n} {start} {len} lie span =
    let within : len ≤ 2 ^ span.class = subst (λ r. len ≤ r) (lie.roomy n _ len span.here refl) (room_fits len) in
    omega (arith, lie.inside n _ span.here, within)

module _ {T : Type 0} where
  live_part : (cells : List T) (parts : List SizedPart) (n : ℕ) (o : Option SizedPart) → slice_get parts n ≡ o → IsSome (option_and_then (λ part. (slot_of cells part).list) o) → IsTakenPart parts n
  live_part cells parts n None here live = absurd (false≢true live)
  live_part cells parts n (Some part) here live = live_filled cells parts n part.start part.class part.filled here live
    where
      live_filled : (cells : List T) (parts : List SizedPart) (n start class : ℕ) (filled : Option ℕ) → slice_get parts n ≡ Some (part_at start class filled) → IsSome (slot_of cells (part_at start class filled)).list → IsTakenPart parts n
      live_filled cells parts n start class None here live = absurd (false≢true live)
      live_filled cells parts n start class (Some len) here live = record { start = start; class = class; len = len; here = here }

  -- the part of a live run holds a list
  pub live_taken : {parts : List SizedPart} (cells : List T) {spare n : ℕ} {pool : Pool T} {run : Option ℕ} → pool_of parts cells spare ≡ pool → run ≡ Some n → IsLiveRun pool run → IsTakenPart parts n
  live_taken {parts} cells {spare} {n} {pool} {run} seen named live =
      let there : IsSome (list_at (pool_of parts cells spare) n) = subst (λ (p : Pool T). IsSome (list_at p n)) (sym seen) (subst (λ (r : Option ℕ). IsLiveRun pool r) named live) in
      live_part cells parts n (slice_get parts n) refl (subst (λ (o : Option (List T)). IsSome o) (list_at-pool_of parts cells spare n) there)

  -- the list of a run whose part holds one
  pub list_of-taken : {parts : List SizedPart} (cells : List T) {spare n start len : ℕ} {pool : Pool T} {run : Option ℕ} → pool_of parts cells spare ≡ pool → run ≡ Some n → IsPartSpan parts n start len → list_of pool run ≡ Some (slice_range cells start (start + len))
  list_of-taken {parts} cells {spare} {n} {start} {len} {pool} {run} seen named span =
      ap (list_of pool) named ∙ ap (λ (p : Pool T). list_at p n) (sym seen) ∙ list_at-here parts cells spare n _ span.here

  -- the room of a list that is freed is that of its part
  pub freed_room : (parts parts' : List SizedPart) (cells : List T) (spare n : ℕ) (pool : Pool T) (run : Option ℕ) (list : List T) (frees : FreesPart parts parts' n) → LieApart parts (length cells) → pool_of parts cells spare ≡ pool → run ≡ Some n → list_of pool run ≡ Some list → room_of (length list) ≡ 2 ^ frees.class
  freed_room parts parts' cells spare n pool run list frees lie seen named is =
      let span : IsPartSpan parts n frees.start frees.len = record { class = frees.class; here = frees.was_taken } in
      let same : list ≡ slice_range cells frees.start (frees.start + frees.len) = same_Some _ _ (sym is ∙ list_of-taken cells seen named span) in
      let within : frees.start + frees.len ≤ length cells = places_within lie span in
      let many : length list ≡ frees.len = ap length same ∙ length_range cells frees.start frees.len within in
      ap room_of many ∙ lie.roomy n _ frees.len frees.was_taken refl

-- what a contract says of a list that was placed
pub record IsPlaced {T : Type 0} (old new : Pool T) (run : Option ℕ) (list : List T) : Type 0 where
  pub placed : list_of new run ≡ Some list
  pub fresh : IsFresh old run list
  pub others : OthersStay old new run
  pub reuses : 0 < free_for old list → Reuses old new list
  pub grows : free_for old list ≡ 0 → Grows old new list
  pub other_rooms : OtherRoomsStay old new list
  pub spare : old.spare ≤ new.spare + list_room list

module _ {T : Type 0} where
  -- a list with room is not empty
  filled_by_room : (list : List T) (class : ℕ) → list_room list ≡ 2 ^ class → list ≢ []
  unfolding room_of
  filled_by_room [] class roomy empty = omega (arith, pow_pos class)
  filled_by_room (x ∷ list) class roomy empty = cc

  -- a list that was placed in a free part
  pub IsPlaced-again : {parts parts' : List SizedPart} {cells cells' list : List T} {spare n class start len : ℕ} {pool : Pool T} {run : Option ℕ} → run ≡ Some n → pool_of parts cells spare ≡ pool → LieApart parts (length cells) → TakesPart parts parts' n class (length list) → IsPartSpan parts' n start len → list_room list ≡ 2 ^ class → IsWritten cells cells' start list → IsPlaced pool (pool_of parts' cells' spare) run list
  IsPlaced-again {parts} {parts'} {cells} {cells'} {list} {spare} {n} {class} {start} {len} {pool} {run} named seen lie taken span roomy written =
      let in_place = placed_again parts parts' cells cells' spare spare n class start span.class len list lie taken span.here roomy written in
      let counts = taken_counts parts parts' cells cells' spare spare n class (length list) (list_room list) taken roomy in
      subst (λ r. IsPlaced pool (pool_of parts' cells' spare) r list) (sym named)
      (subst (λ (old : Pool T). IsPlaced old (pool_of parts' cells' spare) (Some n) list) seen (record {
        placed = in_place.placed;
        fresh = (filled_by_room list class roomy, in_place.fresh);
        others = OthersStay-numbers (pool_of parts cells spare) (pool_of parts' cells' spare) n in_place.others;
        reuses = λ some. record { taken = counts.0; size = written.size; spare = refl };
        grows = λ none. absurd (omega (arith, counts.0));
        other_rooms = counts.1;
        spare = omega arith;
      }))

  -- a list that was placed in a new part at the end of the vector
  pub IsPlaced-new : {parts parts' : List SizedPart} {cells cells' list : List T} {spare n class start room : ℕ} {pool : Pool T} {run : Option ℕ} → run ≡ Some n → pool_of parts cells spare ≡ pool → LieApart parts (length cells) → AllTaken parts class → start ≡ length cells → AddsPart parts parts' n start class (length list) → IsAppended cells cells' list room → room ≡ 2 ^ class → room ≡ list_room list → list_room list ≤ pool.spare → IsPlaced pool (pool_of parts' cells' (spare - room)) run list
  IsPlaced-new {parts} {parts'} {cells} {cells'} {list} {spare} {n} {class} {start} {room} {pool} {run} named seen lie all begin added appended power roomy enough =
      let filling = appended.filling in
      let left = spare - room in
      let in_place = placed_new parts cells filling spare left class list lie in
      let old = pool_of parts cells spare in
      let part = part_at (length cells) class (Some (length list)) in
      let new = pool_of (parts ++ part ∷ []) (cells ++ list ++ filling) left in
      let none : free_runs old (list_room list) ≡ 0 = no_free_runs parts cells spare class (list_room list) all (sym roomy ∙ power) in
      let kept : (r : ℕ) → free_runs new r ≡ free_runs old r = λ r. grown_counts parts cells (cells ++ list ++ filling) spare left (length cells) class (length list) r in
      let same : new ≡ pool_of parts' cells' left =
      ap (λ ps. pool_of (parts ++ ps ∷ []) (cells ++ list ++ filling) left) (ap (λ at. part_at at class (Some (length list))) (sym begin))
      ∙ ap (λ ps. pool_of ps (cells ++ list ++ filling) left) (sym added.changed)
      ∙ ap (λ cs. pool_of parts' cs left) (sym appended.items) in
      let spare_is : spare ≡ pool.spare = ap (λ (p : Pool T). p.spare) seen in
      let size : length (cells ++ list ++ filling) ≡ length cells + list_room list = omega (arith, length-append (cells ++ list) filling, length-append cells list, appended.filled) in
      let whole : IsPlaced old new (Some (length parts)) list = record {
        placed = in_place.placed;
        fresh = (filled_by_room list class (sym roomy ∙ power), in_place.fresh);
        others = OthersStay-numbers old new (length parts) in_place.others;
        reuses = λ some. absurd (omega arith);
        grows = λ no_free. record { none_free = kept (list_room list) ∙ none; size = size; spare = omega arith };
        other_rooms = λ other apart. kept other;
        spare = omega arith;
      } in
      subst (λ r. IsPlaced pool (pool_of parts' cells' left) r list) (sym named)
      (subst (λ (o : Pool T). IsPlaced o (pool_of parts' cells' left) (Some n) list) seen
      (subst (λ (p : Pool T). IsPlaced old p (Some n) list) same
      (subst (λ k. IsPlaced old new (Some k) list) (sym added.next) whole)))

pub IsSound-take : {parts parts' : List SizedPart} {size size' spare places places' numbers numbers' end end' most most' n class len : ℕ} → IsSoundLayout parts size spare places numbers end most → TakesPart parts parts' n class len → room_of len ≡ 2 ^ class → size' ≡ size → places ≤ places' → numbers ≤ numbers' → end' ≡ end → most' ≡ most → IsSoundLayout parts' size' spare places' numbers' end' most'
IsSound-take {parts} {parts'} {size} {size'} {spare} {places} {places'} {numbers} {numbers'} {end} {end'} {most} {most'} {n} {class} {len} sound taken roomy same wide many ended told =
    let apart = AreApart-set parts size n taken.start class None (Some len) taken.was_free (λ l is. ap room_of (sym (same_Some len l is)) ∙ roomy) sound.lie in
    let lengths : length parts' ≡ length parts = ap length taken.changed ∙ length-set parts n _ in
    record {
      lie = subst (λ s. LieApart parts' s) (sym same) (subst (λ (ps : List SizedPart). LieApart ps size) (sym taken.changed) apart);
      places_left = omega (arith, sound.places_left);
      numbers_left = omega (arith, sound.numbers_left);
      told = omega (arith, sound.told);
      ends = ended ∙ sound.ends ∙ sym same;
    }

pub IsSound-free : {parts parts' : List SizedPart} {size spare places numbers numbers' end end' most most' n : ℕ} → IsSoundLayout parts size spare places numbers end most → FreesPart parts parts' n → numbers ≤ numbers' → end' ≡ end → most' ≡ most → IsSoundLayout parts' size spare places numbers' end' most'
IsSound-free {parts} {parts'} {size} {spare} {places} {numbers} {numbers'} {end} {end'} {most} {most'} {n} sound frees many ended told =
    let apart = AreApart-set parts size n frees.start frees.class (Some frees.len) None frees.was_taken (λ l is. absurd (none-some l is)) sound.lie in
    let lengths : length parts' ≡ length parts = ap length frees.changed ∙ length-set parts n _ in
    record {
      lie = subst (λ (ps : List SizedPart). LieApart ps size) (sym frees.changed) apart;
      places_left = sound.places_left;
      numbers_left = omega (arith, sound.numbers_left);
      told = omega (arith, sound.told);
      ends = ended ∙ sound.ends;
    }

pub IsSound-push : {T : Type 0} {parts parts' : List SizedPart} {cells cells' list : List T} {spare end end' most most' n class room : ℕ} {pool : Pool T} (places places' numbers numbers' : ℕ) → pool_of parts cells spare ≡ pool → IsSoundLayout parts (length cells) spare places numbers end most → AddsPart parts parts' n end class (length list) → end' ≡ end + room → IsAppended cells cells' list room → room ≡ 2 ^ class → room ≡ list_room list → list_room list ≤ pool.spare → places ≤ places' → numbers ≤ numbers' → most' ≡ most → IsSoundLayout parts' (length cells') (spare - room) places' numbers' end' most'
IsSound-push {T} {parts} {parts'} {cells} {cells'} {list} {spare} {end} {end'} {most} {most'} {n} {class} {room} {pool} places places' numbers numbers' seen sound added ended appended power roomy enough wide many told =
    let part = part_at (length cells) class (Some (length list)) in
    let all : parts ++ part ∷ [] ≡ parts' = ap (λ at. parts ++ part_at at class (Some (length list)) ∷ []) (sym sound.ends) ∙ sym added.changed in
    let counted : length parts' ≡ length parts + 1 = ap length (sym all) ∙ length_push parts part in
    let spare_is : spare ≡ pool.spare = ap (λ (p : Pool T). p.spare) seen in
    let grown : length cells + 2 ^ class ≡ length cells' = omega (arith, ap length appended.items, length-append (cells ++ list) appended.filling, length-append cells list, appended.filled) in
    record {
      lie = subst (λ s. LieApart parts' s) grown (subst (λ (ps : List SizedPart). LieApart ps (length cells + 2 ^ class)) all (AreApart-push parts (length cells) class (length list) (sym roomy ∙ power) sound.lie));
      places_left = omega (arith, sound.places_left);
      numbers_left = omega (arith, sound.numbers_left, pow_pos class);
      told = omega (arith, sound.told);
      ends = omega (arith, sound.ends);
    }

-- the part that was taken
pub taken_now : (parts parts' : List SizedPart) (n class len : ℕ) (taken : TakesPart parts parts' n class len) → slice_get parts' n ≡ Some (part_at taken.start class (Some len))
taken_now parts parts' n class len taken = ap (λ (ps : List SizedPart). slice_get ps n) taken.changed ∙ slice_get-set_same parts n _ _ taken.was_free

pub IsTaken-take : {parts parts' : List SizedPart} {n class len : ℕ} → TakesPart parts parts' n class len → IsTakenPart parts' n
IsTaken-take {parts} {parts'} {n} {class} {len} taken = record { start = taken.start; class = class; len = len; here = taken_now parts parts' n class len taken }

-- a list fits in the part that was taken for it
pub taken_within : {parts parts' : List SizedPart} {size n class len start filled : ℕ} → LieApart parts size → TakesPart parts parts' n class len → IsPartSpan parts' n start filled → room_of len ≡ 2 ^ class → start + len ≤ size
taken_within {parts} {parts'} {size} {n} {class} {len} {start} lie taken span roomy =
    let begins : taken.start ≡ start = ap (λ (p : SizedPart). p.start) (same_Some _ _ (sym (taken_now parts parts' n class len taken) ∙ span.here)) in
    omega (arith, lie.inside n _ taken.was_free, room_fits len)

module _ {T : Type 0} where
  -- what a contract says of the list whose run was freed
  pub GivesBack-freed : {parts parts' : List SizedPart} (cells : List T) {spare n : ℕ} {pool : Pool T} {run : Option ℕ} → pool_of parts cells spare ≡ pool → run ≡ Some n → LieApart parts (length cells) → FreesPart parts parts' n → (list : List T) → list_of pool run ≡ Some list → GivesBack pool (pool_of parts' cells spare) list
  GivesBack-freed {parts} {parts'} cells {spare} {n} {pool} {run} seen named lie frees list is =
      let roomy = freed_room parts parts' cells spare n pool run list frees lie seen named is in
      let counts = freed_counts parts parts' cells spare n (list_room list) frees roomy in
      subst (λ (old : Pool T). GivesBack old (pool_of parts' cells spare) list) seen (record { given = λ filled. counts.0; others = counts.1 })

  pub OthersStay-freed : {parts parts' : List SizedPart} (cells : List T) {spare n : ℕ} {pool : Pool T} {run : Option ℕ} → pool_of parts cells spare ≡ pool → run ≡ Some n → FreesPart parts parts' n → OthersStay pool (pool_of parts' cells spare) run
  OthersStay-freed {parts} {parts'} cells {spare} {n} {pool} {run} seen named frees =
      let new = pool_of parts' cells spare in
      subst (λ (old : Pool T). OthersStay old new run) seen
      (subst (λ (r : Option ℕ). OthersStay (pool_of parts cells spare) new r) (sym named)
      (OthersStay-numbers (pool_of parts cells spare) new n (freed parts parts' cells spare n frees).others))

  pub list_at-freed : {parts parts' : List SizedPart} (cells : List T) (spare : ℕ) {n : ℕ} {run : Option ℕ} → run ≡ Some n → FreesPart parts parts' n → IfSome run (λ number. list_at (pool_of parts' cells spare) number ≡ None)
  list_at-freed {parts} {parts'} cells spare {n} {run} named frees =
      subst (λ (r : Option ℕ). IfSome r (λ number. list_at (pool_of parts' cells spare) number ≡ None)) (sym named) (freed parts parts' cells spare n frees).gone

module _ {T : Type 0} where
  -- the empty list takes no room
  pub Reuses-empty : (parts : List SizedPart) (cells : List T) {spare : ℕ} {list : List T} {pool : Pool T} → pool_of parts cells spare ≡ pool → list_room list ≡ 0 → 0 < free_for pool list → Reuses pool pool list
  Reuses-empty parts cells {spare} {list} {pool} seen empty some =
      let none : free_for pool list ≡ 0 = ap (free_runs pool) empty ∙ ap (λ (p : Pool T). free_runs p 0) (sym seen) ∙ no_free_room parts cells spare in
      absurd (omega arith)

  pub Grows-empty : {list : List T} {pool : Pool T} → list_room list ≡ 0 → free_for pool list ≡ 0 → Grows pool pool list
  Grows-empty {list} {pool} empty none = record { none_free = none; size = omega arith; spare = omega arith }
