-- What the region sees of a change of the table.
use Rattle.std.proofs.Common.{◌≡◌, ℕ, zero, suc, ◌+◌, ◌^◌, ◌<◌, ◌≤◌, List, [], ◌∷◌, ◌++◌, map, length, set, get_or, replicate, Option, Some, None, IfSome, slice_get, refl, sym, ap, subst, ◌∙◌, arith, length-set}
use Rattle.std.specs.Option.{option_map}
use Rattle.std.proofs.lemmas.List.{map-set, map_push, length-map, length-replicate, length_push, get_or_default}
use Rattle.std.proofs.lemmas.Nat.{pow_pos}
use Rattle.std.proofs.Math.Pow.{pow_mono}
use Rattle.std.proofs.lemmas.Option.{same_Some, none-some, slice_get-map, slice_get_within, get_or_from_slice_get}
use Rattle.lsys_region.specs.declared.packed.PackedPart.{PackedPart}
use Rattle.lsys_region.specs.declared.packed.State.{State}
use Rattle.lsys_region.specs.declared.packed.State.TheVariants.{Taken, Free}
use Rattle.lsys_region.specs.Parts.{SizedPart, IsTakenPart, IsPartSpan, AddsPart, TakesPart, FreesPart}
use Rattle.lsys_region.specs.Entries.{Classed, classed, part_of, sized_parts, filled_of, IsFreeEntry, Chain, AreLinkedByClass, IsSoundTable}
use Rattle.lsys_region.specs.Layout.{HaveRooms, all_places}
use Rattle.lsys_region.specs.Rooms.{room_of}
use Rattle.lsys_region.specs.declared.rows.Rows.{Rows}
use Rattle.lsys_region.specs.declared.rows.Rows.TheVariants.{Small, Large}
use Rattle.lsys_region.specs.Rows.{most_of}
use Rattle.lsys_region.proofs.ListLemmas.{from_option_map}
use Rattle.lsys_region.proofs.RoomLemmas.{same_exponent, room_fits}
use Rattle.lsys_region.proofs.ChainLemmas.{AreLinked-take, AreLinked-release, AreLinked-push}
use Rattle.lsys_region.proofs.ClassedLemmas.{length-classed, entry_of-classed, classed-set, classed-push}

get_or-none : (n k : ℕ) → get_or (replicate {A = Option ℕ} n None) k None ≡ None
get_or-none zero k = refl
get_or-none (suc n) zero = refl
get_or-none (suc n) (suc k) = get_or-none n k

-- with no parts, no class has a head
AreLinked-nil : (heads : List (Option ℕ)) → heads ≡ replicate 64 None → AreLinkedByClass [] heads
AreLinked-nil heads empty = record {
  many = ap length empty ∙ length-replicate {A = Option ℕ} 64 None;
  classes = λ n e read. absurd (none-some e read);
  linked = λ k bound. record {
    numbers = [];
    chain = ap (λ (hs : List (Option ℕ)). get_or hs k None) empty ∙ get_or-none 64 k;
    complete = λ n next free. absurd (none-some _ free.1);
  };
}

-- a table with no parts
pub IsSound-nil : (entries : List PackedPart) (heads : List (Option ℕ)) (most : ℕ) → entries ≡ [] → heads ≡ replicate 64 None → IsSoundTable entries heads 0 most
IsSound-nil entries heads most none empty = record {
  linked = subst (λ (es : List PackedPart). AreLinkedByClass (classed es 0) heads) (sym none) (AreLinked-nil heads empty);
  few = omega (arith, ap length none);
  below = omega arith;
}

head_free : (entries : List Classed) (class i : ℕ) (head : Option ℕ) (numbers : List ℕ) → head ≡ Some i → Chain entries class head numbers → (next : Option ℕ) × IsFreeEntry entries class i next
head_free entries class i head [] at chain = absurd (none-some i (sym chain ∙ at))
head_free entries class i head (m ∷ numbers) at chain =
    let same : m ≡ i = same_Some m i (sym chain.1.at_head ∙ at) in
    (chain.0, (chain.1.free.0, ap (slice_get entries) (sym same) ∙ chain.1.free.1))

module _ {most : ℕ} (entries : List PackedPart) (heads : List (Option ℕ)) (end class i : ℕ) (d : Option ℕ) (small : class < 64) (sound : IsSoundTable entries heads end most) (is : get_or heads class d ≡ Some i) where
  -- at whatever default it was read
  at : get_or heads class None ≡ Some i
  at = get_or_default heads class None d (omega (arith, small, sound.linked.many)) ∙ is

  -- the head of a class is a free part of it
  at_head : (next : Option ℕ) × IsFreeEntry (classed entries end) class i next
  at_head =
      let old = sound.linked.linked class small in
      head_free (classed entries end) class i (get_or heads class None) old.numbers at old.chain

  read_at_head : slice_get entries i ≡ Some (record { start = at_head.1.0; state = Free at_head.0 })
  read_at_head = entry_of-classed entries end i _ at_head.1.1

  pub head_within : i < length entries
  head_within = slice_get_within entries i _ read_at_head

  entry_at_head : (entry : PackedPart) → entry ≡ get_or entries i entry → entry ≡ record { start = at_head.1.0; state = Free at_head.0 }
  entry_at_head entry read = read ∙ get_or_from_slice_get entries i _ entry read_at_head

  -- so it does not hold a list
  pub head_state : (len : ℕ) (entry : PackedPart) → entry ≡ get_or entries i entry → entry.state ≡ Taken len → ⊥
  head_state len entry read taken =
      let states : Taken len ≡ Free at_head.0 = sym taken ∙ ap (λ (e : PackedPart). e.state) (entry_at_head entry read) in
      cc

  -- the entry that is read there
  pub head_entry : (entry : PackedPart) (next : Option ℕ) → entry ≡ get_or entries i entry → entry.state ≡ Free next → slice_get (classed entries end) i ≡ Some (record { start = entry.start; class = class; state = Free next })
  head_entry entry next read state =
      at_head.1.1
      ∙ ap (λ (e : PackedPart). Some (record { start = e.start; class = class; state = e.state })) (sym (entry_at_head entry read))
      ∙ ap (λ (s : State). Some (record { start = entry.start; class = class; state = s })) state

  -- the table after the part at the head was taken
  pub IsSound-take : (entry : PackedPart) (next : Option ℕ) (len : ℕ) → entry ≡ get_or entries i entry → entry.state ≡ Free next → IsSoundTable (set entries i (record { start = entry.start; state = Taken len })) (set heads class next) end most
  IsSound-take entry next len read state =
      let here = head_entry entry next read state in
      let linked = (AreLinked-take (classed entries end) heads class i entry.start class len next small sound.linked at here).1 in
      record {
        linked = subst (λ es. AreLinkedByClass es (set heads class next)) (sym (classed-set entries end i (record { start = entry.start; state = Taken len }) _ here refl)) linked;
        few = omega (arith, sound.few, length-set entries i (record { start = entry.start; state = Taken len }));
        below = sound.below;
      }

  pub TakesPart-head : (entry : PackedPart) (next : Option ℕ) (len : ℕ) → entry ≡ get_or entries i entry → entry.state ≡ Free next → TakesPart (sized_parts entries end) (sized_parts (set entries i (record { start = entry.start; state = Taken len })) end) i class len
  TakesPart-head entry next len read state =
      let here = head_entry entry next read state in
      record {
        start = entry.start;
        was_free = slice_get-map part_of (classed entries end) i ∙ ap (option_map part_of) here;
        changed = ap (map part_of) (classed-set entries end i (record { start = entry.start; state = Taken len }) _ here refl) ∙ map-set part_of (classed entries end) i _;
      }

told_or_none : {most : ℕ} (entries : List PackedPart) (heads : List (Option ℕ)) (end class : ℕ) (d o : Option ℕ) → class < 64 → IsSoundTable entries heads end most → get_or heads class d ≡ o → IfSome o (λ number. number < most)
told_or_none entries heads end class d None small sound is = tt
told_or_none entries heads end class d (Some i) small sound is = omega (arith, head_within entries heads end class i d small sound is, sound.few, sound.below)

-- the entries can tell the number of the first free part of a class
pub head_told : {most : ℕ} (entries : List PackedPart) (heads : List (Option ℕ)) (end class : ℕ) (d : Option ℕ) → class < 64 → IsSoundTable entries heads end most → IfSome (get_or heads class d) (λ number. number < most)
head_told entries heads end class d small sound = told_or_none entries heads end class d (get_or heads class d) small sound refl

taken_state : (state : State) (len : ℕ) → filled_of state ≡ Some len → state ≡ Taken len
taken_state (Taken own) len same = ap Taken (same_Some own len same)
taken_state (Free next) len same = absurd (none-some len same)

-- the entry of a part that holds a list of this length
pub record IsTakenEntry (entries : List PackedPart) (end n : ℕ) (entry : PackedPart) (len : ℕ) : Type 0 where
  pub class : ℕ
  pub here : slice_get (classed entries end) n ≡ Some (record { start = entry.start; class = class; state = Taken len })

module _ (entries : List PackedPart) (end n : ℕ) (taken : IsTakenPart (sized_parts entries end) n) where
  found_taken : (found : Classed) × (slice_get (classed entries end) n ≡ Some found) × (part_of found ≡ record { start = taken.start; class = taken.class; filled = Some taken.len })
  found_taken = from_option_map part_of (slice_get (classed entries end) n) _ (sym (slice_get-map part_of (classed entries end) n) ∙ taken.here)

  pub taken_below : n < length entries
  taken_below = slice_get_within entries n _ (entry_of-classed entries end n found_taken.0 found_taken.1)

  entry_taken : (entry : PackedPart) → entry ≡ get_or entries n entry → entry ≡ record { start = found_taken.0.start; state = found_taken.0.state }
  entry_taken entry read = read ∙ get_or_from_slice_get entries n _ entry (entry_of-classed entries end n found_taken.0 found_taken.1)

  -- so it is not free
  pub not_free : (entry : PackedPart) (next : Option ℕ) → entry ≡ get_or entries n entry → entry.state ≡ Free next → ⊥
  not_free entry next read free =
      let held : found_taken.0.state ≡ Taken taken.len = taken_state found_taken.0.state taken.len (ap (λ (p : SizedPart). p.filled) found_taken.2) in
      let states : Taken taken.len ≡ Free next = sym held ∙ sym (ap (λ (e : PackedPart). e.state) (entry_taken entry read)) ∙ free in
      cc

  pub taken_entry : (entry : PackedPart) (len : ℕ) → entry ≡ get_or entries n entry → entry.state ≡ Taken len → IsTakenEntry entries end n entry len
  taken_entry entry len read held =
      let found = found_taken.0 in
      record {
        class = found.class;
        here = found_taken.1
            ∙ ap (λ (e : PackedPart). Some (record { start = e.start; class = found.class; state = e.state })) (sym (entry_taken entry read))
            ∙ ap (λ (s : State). Some (record { start = entry.start; class = found.class; state = s })) held;
      }

-- the entry of a part whose list is known
pub span_entry : (entries : List PackedPart) (end n start len : ℕ) (entry : PackedPart) → IsPartSpan (sized_parts entries end) n start len → entry ≡ get_or entries n entry → IsTakenEntry entries end n entry len
span_entry entries end n start len entry span read =
    let found = from_option_map part_of (slice_get (classed entries end) n) _ (sym (slice_get-map part_of (classed entries end) n) ∙ span.here) in
    let same : entry ≡ record { start = found.0.start; state = found.0.state } = read ∙ get_or_from_slice_get entries n _ entry (entry_of-classed entries end n found.0 found.1) in
    let held : found.0.state ≡ Taken len = taken_state found.0.state len (ap (λ (p : SizedPart). p.filled) found.2) in
    record {
      class = found.0.class;
      here = found.1
          ∙ ap (λ (s : State). Some (record { start = found.0.start; class = found.0.class; state = s })) held
          ∙ ap (λ (e : PackedPart). Some (record { start = e.start; class = found.0.class; state = Taken len })) (sym same);
    }

-- the entry of such a part
pub span_found : (entries : List PackedPart) (end n start len : ℕ) → IsPartSpan (sized_parts entries end) n start len → (entry : PackedPart) × (entry ≡ get_or entries n entry)
span_found entries end n start len span =
    let found = from_option_map part_of (slice_get (classed entries end) n) _ (sym (slice_get-map part_of (classed entries end) n) ∙ span.here) in
    let entry : PackedPart = record { start = found.0.start; state = found.0.state } in
    (entry, sym (get_or_from_slice_get entries n entry entry (entry_of-classed entries end n found.0 found.1)))

-- a list that has one of the classes is no longer than this
pub part_length : {most : ℕ} (entries : List PackedPart) (heads : List (Option ℕ)) (end n start len : ℕ) → IsPartSpan (sized_parts entries end) n start len → HaveRooms (sized_parts entries end) → IsSoundTable entries heads end most → len ≤ 2 ^ 63
part_length entries heads end n start len span rooms sound =
    let found = from_option_map part_of (slice_get (classed entries end) n) _ (sym (slice_get-map part_of (classed entries end) n) ∙ span.here) in
    let same : found.0.class ≡ span.class = ap (λ (p : SizedPart). p.class) found.2 in
    let small : found.0.class < 64 = sound.linked.classes n found.0 found.1 in
    let class : span.class ≤ 63 = omega arith in
    omega (arith, room_fits len, rooms n _ len span.here refl, pow_mono {i = span.class} {j = 63} class)

-- entries tell of no more places than there are
pub most_bounded : (rows : Rows) → most_of rows ≤ all_places
most_bounded (Small small) = omega arith
most_bounded (Large large) = omega arith

module _ (entries : List PackedPart) (end n : ℕ) (entry : PackedPart) (len : ℕ) (held : IsTakenEntry entries end n entry len) where
  part_here : slice_get (sized_parts entries end) n ≡ Some (record { start = entry.start; class = held.class; filled = Some len })
  part_here = slice_get-map part_of (classed entries end) n ∙ ap (option_map part_of) held.here

  -- where its list stands
  pub IsPartSpan-entry : IsPartSpan (sized_parts entries end) n entry.start len
  IsPartSpan-entry = record { class = held.class; here = part_here }

  -- its class is that of the list
  pub class_of-entry : (class room : ℕ) → HaveRooms (sized_parts entries end) → room ≡ room_of len → room ≡ 2 ^ class → class ≡ held.class
  class_of-entry class room rooms is power =
      same_exponent class held.class (sym power ∙ is ∙ rooms n _ len part_here refl)

  -- the table after the part was freed
  pub IsSound-release : {most : ℕ} (heads : List (Option ℕ)) (class : ℕ) (d : Option ℕ) → class ≡ held.class → IsSoundTable entries heads end most → IsSoundTable (set entries n (record { start = entry.start; state = Free (get_or heads class d) })) (set heads class (Some n)) end most
  IsSound-release {most} heads class d same sound =
      let freed : ℕ → PackedPart = λ k. record { start = entry.start; state = Free (get_or heads k d) } in
      let linked = AreLinked-release (classed entries end) heads n entry.start held.class len d sound.linked held.here in
      subst (λ k. IsSoundTable (set entries n (freed k)) (set heads k (Some n)) end most) (sym same) (record {
        linked = subst (λ es. AreLinkedByClass es (set heads held.class (Some n))) (sym (classed-set entries end n (freed held.class) _ held.here refl)) linked;
        few = omega (arith, sound.few, length-set entries n (freed held.class));
        below = sound.below;
      })

  pub FreesPart-entry : (next : Option ℕ) → FreesPart (sized_parts entries end) (sized_parts (set entries n (record { start = entry.start; state = Free next })) end) n
  FreesPart-entry next = record {
    start = entry.start;
    class = held.class;
    len = len;
    was_taken = part_here;
    changed = ap (map part_of) (classed-set entries end n (record { start = entry.start; state = Free next }) _ held.here refl) ∙ map-set part_of (classed entries end) n _;
  }

-- as many parts as entries
pub length-parts_of : (entries : List PackedPart) (end : ℕ) → length (sized_parts entries end) ≡ length entries
length-parts_of entries end = length-map (classed entries end) part_of ∙ length-classed entries end

module _ (entries : List PackedPart) (end class room len : ℕ) (power : room ≡ 2 ^ class) where
  classed_added : classed (entries ++ record { start = end; state = Taken len } ∷ []) (end + room) ≡ classed entries end ++ record { start = end; class = class; state = Taken len } ∷ []
  classed_added =
      ap (λ r. classed (entries ++ record { start = end; state = Taken len } ∷ []) (end + r)) power ∙ classed-push entries end class (Taken len)

  -- the table after a part was added
  pub IsSound-add : {most : ℕ} (heads : List (Option ℕ)) → class < 64 → end + room ≤ most → IsSoundTable entries heads end most → IsSoundTable (entries ++ record { start = end; state = Taken len } ∷ []) heads (end + room) most
  IsSound-add {most} heads small fits sound = record {
    linked = subst (λ es. AreLinkedByClass es heads) (sym classed_added) (AreLinked-push (classed entries end) heads end class len small sound.linked);
    few = omega (arith, sound.few, pow_pos class, power, length_push entries (record { start = end; state = Taken len }));
    below = fits;
  }

  pub AddsPart-end : (number : ℕ) → number ≡ length entries → AddsPart (sized_parts entries end) (sized_parts (entries ++ record { start = end; state = Taken len } ∷ []) (end + room)) number end class len
  AddsPart-end number next = record {
    next = next ∙ sym (length-parts_of entries end);
    changed = ap (map part_of) classed_added ∙ map_push part_of (classed entries end) _;
  }

pub none_from : (o : Option ℕ) → ((x : ℕ) → o ≡ Some x → ⊥) → o ≡ None
none_from None never = refl
none_from (Some x) never = absurd (never x refl)
