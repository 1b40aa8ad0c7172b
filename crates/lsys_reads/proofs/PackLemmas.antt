-- Rows that are moved to the front of a new vector, one after the other.
use Rattle.std.proofs.Common.{◌≡◌, ◌≢◌, ℕ, zero, suc, ◌+◌, ◌-◌, ◌<◌, ◌≤◌, List, [], ◌∷◌, ◌++◌, map, length, take, drop, inl, inr, refl, sym, ap, subst, ◌∙◌, arith, length-append}
use Rattle.std.specs.Prelude.{slice_range, sum_by}
use Rattle.std.proofs.lemmas.Bool.{cases_eq}
use Rattle.std.proofs.lemmas.List.{take_more, take_at, drop_at, take-take, map_push}
use Rattle.std.proofs.lemmas.List.Sums.{sum_by-cons}
use Rattle.lsys_reads.specs.declared.head.Head.{Head}
use Rattle.lsys_reads.specs.Rows.{Row}
use Rattle.lsys_reads.specs.Layout.{empty_head, row_in_cells, rows_of, wanted, unplaced, head_at, HaveApartCells, IsLaid}
use Rattle.lsys_reads.proofs.SliceLemmas.{range_length}
use Rattle.lsys_reads.proofs.LayoutLemmas.{row_grown}

head_at_push : (heads : List Head) (h : Head) (k : ℕ) → k ≢ length heads → head_at (heads ++ h ∷ []) k ≡ head_at heads k
head_at_push [] h zero other = absurd (other refl)
head_at_push [] h (suc k) other = refl
head_at_push (x ∷ heads) h zero other = refl
head_at_push (x ∷ heads) h (suc k) other = head_at_push heads h k (λ e. other (ap suc e))

head_at_end : (heads : List Head) (h : Head) → head_at (heads ++ h ∷ []) (length heads) ≡ h
head_at_end [] h = refl
head_at_end (x ∷ heads) h = head_at_end heads h

-- a row that is put after all others is apart from them
pub laid_push : (heads : List Head) (size size' : ℕ) (h : Head) → IsLaid heads size → h.start ≡ size → h.start + h.room ≡ size' → h.len ≤ h.room → IsLaid (heads ++ h ∷ []) size'
laid_push heads size size' h laid begins ends fits = record {
  inside = λ k. elim (cases_eq k (length heads)) [
    | inl same ↦ subst (λ (x : Head). x.start + x.room ≤ size') (sym (own k same)) (omega (arith, ends))
    | inr other ↦ subst (λ (x : Head). x.start + x.room ≤ size') (sym (head_at_push heads h k other)) (let was = laid.inside k in omega (arith, was, begins, ends))
  ];
  fits = λ k. elim (cases_eq k (length heads)) [
    | inl same ↦ subst (λ (x : Head). x.len ≤ x.room) (sym (own k same)) fits
    | inr other ↦ subst (λ (x : Head). x.len ≤ x.room) (sym (head_at_push heads h k other)) (laid.fits k)
  ];
  apart = λ j k differ. elim (cases_eq j (length heads)) [
    | inl same ↦
        (let other : k ≢ length heads = λ e. differ (same ∙ sym e) in
        let was = laid.inside k in
        subst (λ (x : Head). HaveApartCells x (head_at (heads ++ h ∷ []) k)) (sym (own j same))
        (subst (λ (x : Head). HaveApartCells h x) (sym (head_at_push heads h k other)) (inr (omega (arith, was, begins)))))
    | inr other ↦ subst (λ (x : Head). HaveApartCells x (head_at (heads ++ h ∷ []) k)) (sym (head_at_push heads h j other)) (elim (cases_eq k (length heads)) [
      | inl same ↦ subst (λ (x : Head). HaveApartCells (head_at heads j) x) (sym (own k same)) (inl (let was = laid.inside j in omega (arith, was, begins)))
      | inr also ↦ subst (λ (x : Head). HaveApartCells (head_at heads j) x) (sym (head_at_push heads h k also)) (laid.apart j k differ)
    ])
  ];
}
  where
    own : (k : ℕ) → k ≡ length heads → head_at (heads ++ h ∷ []) k ≡ h
    own k same = ap (head_at (heads ++ h ∷ [])) same ∙ head_at_end heads h

-- what stands in cells stays when more come after
rows_grown : (old new : List ℕ) (heads : List Head) → take (length old) new ≡ old → ((k : ℕ) → (head_at heads k).start + (head_at heads k).room ≤ length old) → ((k : ℕ) → (head_at heads k).len ≤ (head_at heads k).room) → rows_of new heads ≡ rows_of old heads
rows_grown old new [] front inside fits = refl
rows_grown old new (h ∷ heads) front inside fits =
    ap (λ (r : Row). r ∷ rows_of new heads) (row_grown old new h front (inside zero) (fits zero))
    ∙ ap (λ (l : List Row). row_in_cells old h ∷ l) (rows_grown old new heads front (λ k. inside (suc k)) (λ k. fits (suc k)))

-- the first rows stand in the new cells
pub record PacksTo (heads moved : List Head) (cells packed : List ℕ) : Type 0 where
  pub many : length moved ≤ length heads
  pub rows : rows_of packed moved ≡ rows_of cells (take (length moved) heads)
  pub sizes : map unplaced moved ≡ map unplaced (take (length moved) heads)
  pub laid : IsLaid moved (length packed)

-- the next row is put after them
pub packs_one : (heads moved : List Head) (cells packed : List ℕ) (head h : Head) → IsLaid heads (length cells) → PacksTo heads moved cells packed → length moved < length heads → head ≡ head_at heads (length moved)
    → h ≡ record { start = length packed; room = head.room; len = head.len; owed = head.owed }
    → PacksTo heads (moved ++ h ∷ []) cells (packed ++ slice_range cells head.start (head.start + head.room))
packs_one heads moved cells packed head h laid so_far within is made =
    let part = slice_range cells head.start (head.start + head.room) in
    let inside : head.start + head.room ≤ length cells = subst (λ (x : Head). x.start + x.room ≤ length cells) (sym is) (laid.inside (length moved)) in
    let fits : head.len ≤ head.room = subst (λ (x : Head). x.len ≤ x.room) (sym is) (laid.fits (length moved)) in
    let size : length part ≡ head.room = range_length cells head.start head.room inside in
    let more : length (packed ++ part) ≡ length packed + head.room = length-append packed part ∙ ap (λ (n : ℕ). length packed + n) size in
    let begins : h.start ≡ length packed = ap (λ (x : Head). x.start) made in
    let room : h.room ≡ head.room = ap (λ (x : Head). x.room) made in
    let len : h.len ≡ head.len = ap (λ (x : Head). x.len) made in
    let read : take (length (moved ++ h ∷ [])) heads ≡ take (length moved) heads ++ head ∷ [] =
    ap (λ (n : ℕ). take n heads) (length-append moved (h ∷ [])) ∙ take_more heads (length moved) empty_head within ∙ ap (λ (x : Head). take (length moved) heads ++ x ∷ []) (sym is) in
    let own : row_in_cells (packed ++ part) h ≡ row_in_cells cells head =
    ap (row_in_cells (packed ++ part)) made
    ∙ ap (λ (l : List ℕ). record { tags = l; owed = head.owed }) (moved_range cells packed head inside fits) in
    record {
      many = subst (λ (n : ℕ). n ≤ length heads) (sym (length-append moved (h ∷ []))) (omega (arith, within));
      rows = map_push (row_in_cells (packed ++ part)) moved h
          ∙ ap (λ (l : List Row). l ++ row_in_cells (packed ++ part) h ∷ []) (rows_grown packed (packed ++ part) moved (take_at packed part (length packed) refl) so_far.laid.inside so_far.laid.fits ∙ so_far.rows)
          ∙ ap (λ (r : Row). rows_of cells (take (length moved) heads) ++ r ∷ []) own
          ∙ sym (ap (rows_of cells) read ∙ map_push (row_in_cells cells) (take (length moved) heads) head);
      sizes = map_push unplaced moved h
          ∙ ap (λ (l : List Head). l ++ unplaced h ∷ []) so_far.sizes
          ∙ ap (λ (x : Head). map unplaced (take (length moved) heads) ++ x ∷ []) (ap unplaced made)
          ∙ sym (ap (map unplaced) read ∙ map_push unplaced (take (length moved) heads) head);
      laid = laid_push moved (length packed) (length (packed ++ part)) h so_far.laid begins (omega (arith, begins, room, more)) (omega (arith, room, len, fits));
    }
  where
    moved_range : (cells packed : List ℕ) (head : Head) → head.start + head.room ≤ length cells → head.len ≤ head.room
        → slice_range (packed ++ slice_range cells head.start (head.start + head.room)) (length packed) (length packed + head.len) ≡ slice_range cells head.start (head.start + head.len)
    moved_range cells packed head inside fits =
        ap (λ (l : List ℕ). take (length packed + head.len - length packed) l) (drop_at packed (slice_range cells head.start (head.start + head.room)) (length packed) refl)
        ∙ take-take (length packed + head.len - length packed) (head.start + head.room - head.start) (drop head.start cells) (omega (arith, fits))
        ∙ ap (λ (n : ℕ). take n (drop head.start cells)) (let e : length packed + head.len - length packed ≡ head.start + head.len - head.start = omega arith in e)

-- what is kept for the rows goes with them
pub wanted_moved : (old new : List Head) → map unplaced new ≡ map unplaced old → sum_by wanted new ≡ sum_by wanted old
wanted_moved old new same = by_sizes new ∙ ap (sum_by wanted) same ∙ sym (by_sizes old)
  where
    by_sizes : (heads : List Head) → sum_by wanted heads ≡ sum_by wanted (map unplaced heads)
    by_sizes [] = refl
    by_sizes (h ∷ heads) = sum_by-cons wanted h heads ∙ ap (λ (n : ℕ). wanted h + n) (by_sizes heads) ∙ sym (sum_by-cons wanted (unplaced h) (map unplaced heads))
