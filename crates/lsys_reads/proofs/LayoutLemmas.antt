-- What each change of a head and of the cells keeps of a table.
use Rattle.std.proofs.Common.{◌≡◌, ◌≢◌, ℕ, zero, suc, ◌+◌, ◌-◌, ◌<◌, ◌≤◌, List, [], ◌∷◌, ◌++◌, length, take, drop, set, ◌⊎◌, inl, inr, refl, sym, ap, subst, ◌∙◌, arith, length-append, length-take-le, length-drop}
use Rattle.std.specs.Prelude.{slice_range, sum_by}
use Rattle.std.proofs.lemmas.Bool.{cases_eq}
use Rattle.std.proofs.lemmas.List.{take-take, drop-drop, take_at, get_or-set_same, get_or-set_other}
use Rattle.std.proofs.lemmas.List.Sums.{sum_by-set, sum_by_push}
use Rattle.std.proofs.lemmas.Slice.{between_is, between-put_mid, take-put_mid_below, drop-put_mid}
use Rattle.std.proofs.Math.Seq.{drop-nil, take-nil}
use borrow.Rule.Slice.PartMut.{put_mid}
use Rattle.lsys_reads.specs.declared.head.Head.{Head}
use Rattle.lsys_reads.specs.Rows.{Row, tag_row, OtherRowsStay}
use Rattle.lsys_reads.specs.Layout.{empty_head, row_in_cells, rows_of, wanted, head_at, HaveApartCells, IsLaid, AreSoundRows, ComesToPlace}

-- the row of a tag is that of its head
pub tag_row_is : (cells : List ℕ) (heads : List Head) (k : ℕ) → tag_row (rows_of cells heads) k ≡ row_in_cells cells (head_at heads k)
tag_row_is cells [] zero = refl
tag_row_is cells [] (suc k) = refl
tag_row_is cells (h ∷ heads) zero = refl
tag_row_is cells (h ∷ heads) (suc k) = tag_row_is cells heads k

-- where there are no cells no row has tags
pub none_in_cells : (cells : List ℕ) (heads : List Head) (k : ℕ) → length cells ≡ 0 → (tag_row (rows_of cells heads) k).tags ≡ []
none_in_cells [] heads k _ =
    let head = head_at heads k in
    ap (λ (r : Row). r.tags) (tag_row_is [] heads k) ∙ ap (take (head.start + head.len - head.start)) (drop-nil head.start) ∙ take-nil (head.start + head.len - head.start)
none_in_cells (x ∷ cells) heads k none = absurd (omega (arith, none))

-- the cells from `start` on are these now, and all others stay
pub record IsWritten (old new : List ℕ) (start : ℕ) (list : List ℕ) : Type 0 where
  pub size : length new ≡ length old
  pub written : slice_range new start (start + length list) ≡ list
  pub before : take start new ≡ take start old
  pub after : drop (start + length list) new ≡ drop (start + length list) old

pub written_over : (old base ys list : List ℕ) (start k len : ℕ) → base ≡ old → ys ≡ list → k ≡ length list → len ≡ length old → start + length list ≤ length old → IsWritten old (take len (put_mid start k base ys ++ drop (length (put_mid start k base ys)) old)) start list
written_over old base ys list start k len whole part many counted inside =
    let mid = put_mid start k base ys in
    let begin : start ≤ length base = omega (arith, ap length whole) in
    let parts : length ys ≡ k = ap length part ∙ sym many in
    let size : length mid ≡ length old = omega (arith, length-append (take start base) (ys ++ drop k (drop start base)), length-take-le start base begin, length-append ys (drop k (drop start base)), length-drop k (drop start base), length-drop start base, ap length whole) in
    let same : take len (mid ++ drop (length mid) old) ≡ mid = take_at mid _ len (size ∙ sym counted) in
    subst (λ new. IsWritten old new start list) (sym same) (record {
      size = size;
      written = between-put_mid start k base ys (start + length list) begin (ap length part ∙ omega arith) ∙ part;
      before = take-put_mid_below start k base ys start (omega arith) begin ∙ ap (take start) whole;
      after = drop-put_mid start k base ys (start + length list) (omega arith) begin parts ∙ ap (drop (start + length list)) whole;
    })

-- what stands before the end of an unchanged front
pub range_front : (old new : List ℕ) (front from to : ℕ) → take front new ≡ take front old → to ≤ front → slice_range new from to ≡ slice_range old from to
range_front old new front from to same inside =
    between_is new from to
    ∙ ap (drop from) (sym (take-take to front new inside) ∙ ap (take to) same ∙ take-take to front old inside)
    ∙ sym (between_is old from to)

-- what stands after the beginning of an unchanged rest
range_rest : (old new : List ℕ) (rest from to : ℕ) → drop rest new ≡ drop rest old → rest ≤ from → slice_range new from to ≡ slice_range old from to
range_rest old new rest from to same inside =
    let split : rest + (from - rest) ≡ from = omega (arith, inside) in
    let moved : drop from new ≡ drop from old =
    ap (λ i. drop i new) (sym split) ∙ sym (drop-drop (from - rest) rest new) ∙ ap (drop (from - rest)) same ∙ drop-drop (from - rest) rest old ∙ ap (λ i. drop i old) split in
    ap (take (to - from)) moved

-- a write leaves what stands apart from it
pub range_written : (old new list : List ℕ) (start : ℕ) (head : Head) → IsWritten old new start list → head.len ≤ head.room → (head.start + head.room ≤ start) ⊎ (start + length list ≤ head.start) → row_in_cells new head ≡ row_in_cells old head
range_written old new list start head written fits apart =
    ap (λ (l : List ℕ). record { tags = l; owed = head.owed })
    (elim apart [
      | inl below ↦ range_front old new start head.start (head.start + head.len) written.before (omega (arith, fits, below))
      | inr above ↦ range_rest old new (start + length list) head.start (head.start + head.len) written.after above
    ])

-- cells that only come after leave what stands
pub row_grown : (old new : List ℕ) (head : Head) → take (length old) new ≡ old → head.start + head.room ≤ length old → head.len ≤ head.room → row_in_cells new head ≡ row_in_cells old head
row_grown old new head front inside fits =
    ap (λ (l : List ℕ). record { tags = l; owed = head.owed })
    (range_front old new (length old) head.start (head.start + head.len) (front ∙ sym (take_whole old)) (omega (arith, inside, fits)))
  where
    take_whole : (l : List ℕ) → take (length l) l ≡ l
    take_whole [] = refl
    take_whole (x ∷ l) = ap (λ (r : List ℕ). x ∷ r) (take_whole l)

-- a head is put in its place: its own row is what stands there now, and the others stay
pub one_row : (cells cells' : List ℕ) (heads : List Head) (n : ℕ) (h : Head) → n < length heads → ((k : ℕ) → k ≢ n → row_in_cells cells' (head_at heads k) ≡ row_in_cells cells (head_at heads k))
    → (tag_row (rows_of cells' (set heads n h)) n ≡ row_in_cells cells' h) × OtherRowsStay (rows_of cells heads) (rows_of cells' (set heads n h)) n
one_row cells cells' heads n h within others = (
  tag_row_is cells' (set heads n h) n ∙ ap (row_in_cells cells') (get_or-set_same heads n h empty_head within),
  λ k apart. tag_row_is cells' (set heads n h) k ∙ ap (row_in_cells cells') (get_or-set_other heads n k h empty_head apart) ∙ others k apart ∙ sym (tag_row_is cells heads k),
)

turn : (one two : Head) → HaveApartCells one two → HaveApartCells two one
turn one two (inl below) = inr below
turn one two (inr above) = inl above

-- and the rows lie apart, if it is apart from the others
pub laid_set : (heads : List Head) (size size' n : ℕ) (h : Head) → IsLaid heads size → n < length heads → size ≤ size' → h.start + h.room ≤ size' → h.len ≤ h.room → ((k : ℕ) → k ≢ n → HaveApartCells h (head_at heads k)) → IsLaid (set heads n h) size'
laid_set heads size size' n h laid within more inside fits apart = record {
  inside = λ k. elim (cases_eq k n) [
    | inl same ↦ subst (λ (x : Head). x.start + x.room ≤ size') (sym (own k same)) inside
    | inr other ↦ subst (λ (x : Head). x.start + x.room ≤ size') (sym (far k other)) (let was = laid.inside k in omega (arith, was, more))
  ];
  fits = λ k. elim (cases_eq k n) [
    | inl same ↦ subst (λ (x : Head). x.len ≤ x.room) (sym (own k same)) fits
    | inr other ↦ subst (λ (x : Head). x.len ≤ x.room) (sym (far k other)) (laid.fits k)
  ];
  apart = λ j k differ. elim (cases_eq j n) [
    | inl same ↦
        (let other : k ≢ n = λ e. differ (same ∙ sym e) in
        subst (λ (x : Head). HaveApartCells x (head_at (set heads n h) k)) (sym (own j same)) (subst (λ (x : Head). HaveApartCells h x) (sym (far k other)) (apart k other)))
    | inr other ↦ subst (λ (x : Head). HaveApartCells x (head_at (set heads n h) k)) (sym (far j other)) (elim (cases_eq k n) [
      | inl same ↦ subst (λ (x : Head). HaveApartCells (head_at heads j) x) (sym (own k same)) (turn h (head_at heads j) (apart j other))
      | inr also ↦ subst (λ (x : Head). HaveApartCells (head_at heads j) x) (sym (far k also)) (laid.apart j k differ)
    ])
  ];
}
  where
    own : (k : ℕ) → k ≡ n → head_at (set heads n h) k ≡ h
    own k same = ap (head_at (set heads n h)) same ∙ get_or-set_same heads n h empty_head within

    far : (k : ℕ) → k ≢ n → head_at (set heads n h) k ≡ head_at heads k
    far k other = get_or-set_other heads n k h empty_head other

-- what is kept after all rows
pub kept_set : (heads : List Head) (n kept kept' : ℕ) (h : Head) → n < length heads → kept ≡ sum_by wanted heads → kept' + wanted (head_at heads n) ≡ kept + wanted h → kept' ≡ sum_by wanted (set heads n h)
kept_set heads n kept kept' h within was change =
    let sums = sum_by-set wanted heads n h empty_head within in
    omega (arith, sums, was, change)

-- a row may be placed anew and written over: the others stay
pub others_stay : (cells cells1 cells2 list : List ℕ) (heads : List Head) (n : ℕ) (p : Head) → IsLaid heads (length cells) → ComesToPlace cells cells1 (head_at heads n) p → IsWritten cells1 cells2 p.start list → length list ≡ p.room → (k : ℕ) → k ≢ n → row_in_cells cells2 (head_at heads k) ≡ row_in_cells cells (head_at heads k)
others_stay cells cells1 cells2 list heads n p laid placed written many k other =
    let inside = laid.inside k in
    range_written cells1 cells2 list p.start (head_at heads k) written (laid.fits k) (away placed.elsewhere)
    ∙ row_grown cells cells1 (head_at heads k) placed.front inside (laid.fits k)
  where
    away : (p ≡ head_at heads n) ⊎ (length cells ≤ p.start) → ((head_at heads k).start + (head_at heads k).room ≤ p.start) ⊎ (p.start + length list ≤ (head_at heads k).start)
    away (inl same) = subst (λ (x : Head). ((head_at heads k).start + (head_at heads k).room ≤ x.start) ⊎ (x.start + length list ≤ (head_at heads k).start)) (sym same)
        (elim (laid.apart k n other) [
          | inl below ↦ inl below
          | inr above ↦ inr (let e : length list ≡ (head_at heads n).room = many ∙ ap (λ (x : Head). x.room) same in omega (arith, above, e))
        ])
    away (inr later) = inl (let inside = laid.inside k in omega (arith, inside, later))

-- a row that was placed is apart from the others
pub apart_placed : (cells cells1 : List ℕ) (heads : List Head) (n : ℕ) (p : Head) → IsLaid heads (length cells) → ComesToPlace cells cells1 (head_at heads n) p → (k : ℕ) → k ≢ n → HaveApartCells p (head_at heads k)
apart_placed cells cells1 heads n p laid placed k other = away placed.elsewhere
  where
    away : (p ≡ head_at heads n) ⊎ (length cells ≤ p.start) → HaveApartCells p (head_at heads k)
    away (inl same) = subst (λ (x : Head). HaveApartCells x (head_at heads k)) (sym same) (laid.apart n k (λ e. other (sym e)))
    away (inr later) = inr (let inside = laid.inside k in omega (arith, inside, later))

-- one head more that has no cells
head_at_more : (heads : List Head) (k : ℕ) → head_at (heads ++ empty_head ∷ []) k ≡ head_at heads k
head_at_more [] zero = refl
head_at_more [] (suc k) = refl
head_at_more (h ∷ heads) zero = refl
head_at_more (h ∷ heads) (suc k) = head_at_more heads k

pub same_rows_more : (cells : List ℕ) (heads : List Head) (k : ℕ) → tag_row (rows_of cells (heads ++ empty_head ∷ [])) k ≡ tag_row (rows_of cells heads) k
same_rows_more cells heads k = tag_row_is cells (heads ++ empty_head ∷ []) k ∙ ap (row_in_cells cells) (head_at_more heads k) ∙ sym (tag_row_is cells heads k)

pub sound_more : (heads : List Head) (size kept capacity : ℕ) → AreSoundRows heads size kept capacity → AreSoundRows (heads ++ empty_head ∷ []) size kept capacity
sound_more heads size kept capacity sound = record {
  laid = record {
    inside = λ k. subst (λ (x : Head). x.start + x.room ≤ size) (sym (head_at_more heads k)) (sound.laid.inside k);
    fits = λ k. subst (λ (x : Head). x.len ≤ x.room) (sym (head_at_more heads k)) (sound.laid.fits k);
    apart = λ j k differ. subst (λ (x : Head). HaveApartCells x (head_at (heads ++ empty_head ∷ []) k)) (sym (head_at_more heads j))
        (subst (λ (x : Head). HaveApartCells (head_at heads j) x) (sym (head_at_more heads k)) (sound.laid.apart j k differ));
  };
  kept_is = sound.kept_is ∙ (let e : sum_by wanted heads ≡ sum_by wanted heads + wanted empty_head = omega arith in e) ∙ sym (sum_by_push wanted heads empty_head);
  places_left = sound.places_left;
}

-- the head of a row is changed in its cells, or gives them up
pub sound_set : (heads : List Head) (size kept kept' capacity n : ℕ) (h : Head) → AreSoundRows heads size kept capacity → n < length heads → h.start + h.room ≤ size → h.len ≤ h.room → ((k : ℕ) → k ≢ n → HaveApartCells h (head_at heads k))
    → kept' + wanted (head_at heads n) ≡ kept + wanted h → kept' ≤ kept → AreSoundRows (set heads n h) size kept' capacity
sound_set heads size kept kept' capacity n h sound within inside fits apart change less = record {
  laid = laid_set heads size size n h sound.laid within (omega arith) inside fits apart;
  kept_is = kept_set heads n kept kept' h within sound.kept_is change;
  places_left = (let room = sound.places_left in omega (arith, room, less));
}
