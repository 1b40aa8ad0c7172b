-- What each step of the runs keeps.
use Rattle.std.proofs.Common.{◌≡◌, ◌≢◌, ℕ, zero, suc, ◌+◌, ◌-◌, ◌<◌, ◌≤◌, List, [], ◌∷◌, ◌++◌, map, length, take, drop, set, Bool, true, false, ◌||◌, ◌==◌, inl, inr, refl, sym, ap, subst, ◌∙◌, arith, length-append, length-drop, length-set}
use Rattle.std.proofs.lemmas.Bool.{cases_eq}
use Rattle.std.proofs.lemmas.List.{take_more, take_at, drop_at, map_push, get_or-set_same, get_or-set_other, length-map}
use Rattle.lsys_reads.specs.declared.runs.Stretch.{Stretch}
use Rattle.lsys_reads.specs.Rows.{has}
use Rattle.lsys_reads.specs.Runs.{Sights, sights_by, empty_run, run_in_cells, runs_in, stretch_at, LieWithin, NotesSight, ClearsSights}
use Rattle.lsys_reads.proofs.RowLemmas.{has_at_end}
use Rattle.lsys_reads.proofs.SliceLemmas.{range_length}
use Rattle.lsys_reads.proofs.LayoutLemmas.{range_front}

-- what a contract sees of runs in cells
abbrev pub sights_of : List ℕ → List Stretch → ℕ → Sights
sights_of cells runs room = record { rows = runs_in cells runs; room = room }

pub seen_is : (cells : List ℕ) (runs : List Stretch) (room n : ℕ) → sights_by (sights_of cells runs room) n ≡ run_in_cells cells (stretch_at runs n)
seen_is cells [] room zero = refl
seen_is cells [] room (suc n) = refl
seen_is cells (r ∷ runs) room zero = refl
seen_is cells (r ∷ runs) room (suc n) = seen_is cells runs room n

-- the runs reach to a reader that the contract says they do
pub there_is : (cells : List ℕ) (runs : List Stretch) (n reader room : ℕ) (seen : Sights) → sights_of cells runs room ≡ seen → n ≡ reader → reader < length seen.rows → n < length runs
there_is cells runs n reader room seen is same reach =
    let size = ap (λ (s : Sights). length s.rows) is in
    let many = length-map runs (run_in_cells cells) in
    omega (arith, size, many, same, reach)

pub take_whole : (l : List ℕ) (n : ℕ) → length l ≤ n → take n l ≡ l
take_whole [] zero most = refl
take_whole [] (suc n) most = refl
take_whole (x ∷ l) zero most = absurd (omega (arith, most))
take_whole (x ∷ l) (suc n) most = ap (λ (r : List ℕ). x ∷ r) (take_whole l n (omega (arith, most)))

has_front : (l : List ℕ) (n q : ℕ) → has (take n l) q ≡ true → has l q ≡ true
has_front [] zero q there = there
has_front [] (suc n) q there = there
has_front (x ∷ l) zero q there = absurd (let wrong : false ≡ true = there in cc)
has_front (x ∷ l) (suc n) q there = told (x == q) (has (take n l) q) (has l q) (has_front l n q) there
  where
    told : (a b c : Bool) → (b ≡ true → c ≡ true) → (a || b) ≡ true → (a || c) ≡ true
    told true b c more there = refl
    told false b c more there = more there

-- cells that come after leave a run
pub run_grown : (cells more : List ℕ) (run : Stretch) → run.start + run.len ≤ length cells → run_in_cells (cells ++ more) run ≡ run_in_cells cells run
run_grown cells more run inside =
    range_front cells (cells ++ more) (length cells) run.start (run.start + run.len)
    (take_at cells more (length cells) refl ∙ sym (take_whole cells (length cells) (omega arith))) inside

-- a run in the place of another
pub run_set : (runs : List Stretch) (n : ℕ) (run : Stretch) → n < length runs → stretch_at (set runs n run) n ≡ run
run_set runs n run within = get_or-set_same runs n run empty_run within

pub run_far : (runs : List Stretch) (n k : ℕ) (run : Stretch) → k ≢ n → stretch_at (set runs n run) k ≡ stretch_at runs k
run_far runs n k run other = get_or-set_other runs n k run empty_run other

-- the run of a reader has the next cell too
pub noted : (cells : List ℕ) (runs : List Stretch) (n tag room room' : ℕ) (run next : Stretch) → LieWithin runs (length cells) → n < length runs → run ≡ stretch_at runs n
    → (0 < run.len → next.start ≡ run.start) → next.start + next.len ≡ length cells + 1 → 0 < next.len → room ≤ room' + 1
    → NotesSight (sights_of cells runs room) (sights_of (cells ++ tag ∷ []) (set runs n next) room') n tag
noted cells runs n tag room room' run next lie within is start end some spare = record {
  own = λ q there.
      ap (λ (l : List ℕ). has l q) (seen_is (cells ++ tag ∷ []) (set runs n next) room' n ∙ ap (run_in_cells (cells ++ tag ∷ [])) (run_set runs n next within) ∙ whole)
      ∙ has_at_end (drop next.start cells) tag q ∙ more q (tag == q) (sym (ap (λ (l : List ℕ). (tag == q) || has l q) (seen_is cells runs room n ∙ ap (run_in_cells cells) (sym is))) ∙ there);
  others = λ k other.
      seen_is (cells ++ tag ∷ []) (set runs n next) room' k ∙ ap (run_in_cells (cells ++ tag ∷ [])) (run_far runs n k next other)
      ∙ run_grown cells (tag ∷ []) (stretch_at runs k) (lie k) ∙ sym (seen_is cells runs room k);
  reach = length-map (set runs n next) (run_in_cells (cells ++ tag ∷ [])) ∙ length-set runs n next ∙ sym (length-map runs (run_in_cells cells));
  room = spare;
}
  where
    drop_append : (xs ys : List ℕ) (k : ℕ) → k ≤ length xs → drop k (xs ++ ys) ≡ drop k xs ++ ys
    drop_append xs ys zero most = refl
    drop_append [] ys (suc k) most = absurd (omega (arith, most))
    drop_append (z ∷ xs) ys (suc k) most = drop_append xs ys k (omega (arith, most))

    whole : run_in_cells (cells ++ tag ∷ []) next ≡ drop next.start cells ++ tag ∷ []
    whole =
        let most : next.start ≤ length cells = omega (arith, end, some) in
        let rest = drop_append cells (tag ∷ []) next.start most in
        let size = length-append (drop next.start cells) (tag ∷ []) in
        let many = length-drop next.start cells in
        ap (take (next.start + next.len - next.start)) rest
        ∙ take_whole (drop next.start cells ++ tag ∷ []) (next.start + next.len - next.start) (omega (arith, size, many, end, most))

    older : (q : ℕ) → has (run_in_cells cells run) q ≡ true → has (drop next.start cells) q ≡ true
    older q there = elim (cases_eq run.len 0) [
      | inl none ↦
          (let nothing : run_in_cells cells run ≡ [] = ap (λ (k : ℕ). take k (drop run.start cells)) (let e : run.start + run.len - run.start ≡ 0 = omega (arith, none) in e) in
          absurd (let wrong : false ≡ true = sym (ap (λ (l : List ℕ). has l q) nothing) ∙ there in cc))
      | inr apart ↦
          (let begins : next.start ≡ run.start = start (omega (arith, apart)) in
          ap (λ (k : ℕ). has (drop k cells) q) begins ∙ has_front (drop run.start cells) (run.start + run.len - run.start) q there)
    ]

    more : (q : ℕ) (b : Bool) → (b || has (run_in_cells cells run) q) ≡ true → (b || has (drop next.start cells) q) ≡ true
    more q true there = refl
    more q false there = older q there

-- the run of a reader is given up
pub cleared : (cells : List ℕ) (runs : List Stretch) (n room : ℕ) (next : Stretch) → n < length runs → next ≡ empty_run → ClearsSights (sights_of cells runs room) (sights_of cells (set runs n next) room) n
cleared cells runs n room next within none = record {
  own = seen_is cells (set runs n next) room n ∙ ap (run_in_cells cells) (run_set runs n next within ∙ none);
  others = λ k other. seen_is cells (set runs n next) room k ∙ ap (run_in_cells cells) (run_far runs n k next other) ∙ sym (seen_is cells runs room k);
  reach = length-map (set runs n next) (run_in_cells cells) ∙ length-set runs n next ∙ sym (length-map runs (run_in_cells cells));
  room = refl;
}

-- the first runs stand in the new cells
pub record PacksTo (runs moved : List Stretch) (cells packed : List ℕ) : Type 0 where
  pub many : length moved ≤ length runs
  pub rows : runs_in packed moved ≡ runs_in cells (take (length moved) runs)
  pub within : LieWithin moved (length packed)

-- the next run is put after them
pub packs_run : (runs moved : List Stretch) (cells packed : List ℕ) (run next : Stretch) → LieWithin runs (length cells) → PacksTo runs moved cells packed → length moved < length runs → run ≡ stretch_at runs (length moved)
    → next ≡ record { start = length packed; len = run.len } → PacksTo runs (moved ++ next ∷ []) cells (packed ++ run_in_cells cells run)
packs_run runs moved cells packed run next lie so_far within is made =
    let part = run_in_cells cells run in
    let inside : run.start + run.len ≤ length cells = subst (λ (x : Stretch). x.start + x.len ≤ length cells) (sym is) (lie (length moved)) in
    let size : length part ≡ run.len = range_length cells run.start run.len inside in
    let more : length (packed ++ part) ≡ length packed + run.len = length-append packed part ∙ ap (λ (n : ℕ). length packed + n) size in
    let begins : next.start ≡ length packed = ap (λ (x : Stretch). x.start) made in
    let len : next.len ≡ run.len = ap (λ (x : Stretch). x.len) made in
    let read : take (length (moved ++ next ∷ [])) runs ≡ take (length moved) runs ++ run ∷ [] =
    ap (λ (n : ℕ). take n runs) (length-append moved (next ∷ [])) ∙ take_more runs (length moved) empty_run within ∙ ap (λ (x : Stretch). take (length moved) runs ++ x ∷ []) (sym is) in
    let own : run_in_cells (packed ++ part) next ≡ part =
    ap (run_in_cells (packed ++ part)) made
    ∙ ap (take (length packed + run.len - length packed)) (drop_at packed part (length packed) refl)
    ∙ take_whole part (length packed + run.len - length packed) (omega (arith, size)) in
    record {
      many = subst (λ (n : ℕ). n ≤ length runs) (sym (length-append moved (next ∷ []))) (omega (arith, within));
      rows = map_push (run_in_cells (packed ++ part)) moved next
          ∙ ap (λ (l : List (List ℕ)). l ++ run_in_cells (packed ++ part) next ∷ []) (runs_grown moved so_far.within ∙ so_far.rows)
          ∙ ap (λ (l : List ℕ). map (run_in_cells cells) (take (length moved) runs) ++ l ∷ []) own
          ∙ sym (ap (map (run_in_cells cells)) read ∙ map_push (run_in_cells cells) (take (length moved) runs) run);
      within = λ k. elim (cases_eq k (length moved)) [
        | inl same ↦ subst (λ (x : Stretch). x.start + x.len ≤ length (packed ++ part)) (sym (ap (stretch_at (moved ++ next ∷ [])) same ∙ at_end moved)) (omega (arith, begins, len, more))
        | inr other ↦ subst (λ (x : Stretch). x.start + x.len ≤ length (packed ++ part)) (sym (before moved k other)) (let was = so_far.within k in omega (arith, was, more))
      ];
    }
  where
    runs_grown : (l : List Stretch) → LieWithin l (length packed) → map (run_in_cells (packed ++ run_in_cells cells run)) l ≡ map (run_in_cells packed) l
    runs_grown [] lie = refl
    runs_grown (r ∷ l) lie =
        ap (λ (x : List ℕ). x ∷ map (run_in_cells (packed ++ run_in_cells cells run)) l) (run_grown packed (run_in_cells cells run) r (lie zero))
        ∙ ap (λ (x : List (List ℕ)). run_in_cells packed r ∷ x) (runs_grown l (λ k. lie (suc k)))

    at_end : (l : List Stretch) → stretch_at (l ++ next ∷ []) (length l) ≡ next
    at_end [] = refl
    at_end (r ∷ l) = at_end l

    before : (l : List Stretch) (k : ℕ) → k ≢ length l → stretch_at (l ++ next ∷ []) k ≡ stretch_at l k
    before [] zero other = absurd (other refl)
    before [] (suc k) other = refl
    before (r ∷ l) zero other = refl
    before (r ∷ l) (suc k) other = before l k (λ e. other (ap suc e))
