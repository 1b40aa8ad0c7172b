-- What a table keeps when a row loses tags, gets one, or is owed one more.
use Rattle.std.proofs.Common.{◌≡◌, ◌≢◌, ℕ, zero, suc, ◌+◌, ◌-◌, ◌/◌, ◌<◌, ◌≤◌, List, [], ◌∷◌, map, length, take, drop, set, get_or, Bool, cond, ◌==◌, ◌||◌, ◌⊎◌, inl, inr, refl, sym, ap, subst, ◌∙◌, arith}
use Rattle.std.specs.Prelude.{slice_range, sum_by}
use Rattle.std.proofs.lemmas.Bool.Decides.{leb_tells}
use Rattle.std.proofs.lemmas.List.{length-map}
use Rattle.std.proofs.Math.ListN.{get_or-map}
use Rattle.std.proofs.lemmas.List.Sums.{get_or-le-sum_by}
use Rattle.lsys_reads.specs.declared.head.Head.{Head}
use Rattle.lsys_reads.specs.Rows.{Row, tag_row, has, few, IsRising, OtherRowsStay, Sweeps, SweepsRow, PutsTag, Reserves}
use Rattle.lsys_reads.specs.Layout.{empty_head, row_in_cells, rows_of, kept_for, wanted, trimmed, unplaced, head_at, HaveApartCells, IsLaid, AreSoundRows, ComesToPlace, Packs}
use Rattle.lsys_reads.proofs.SliceLemmas.{range_take}
use Rattle.lsys_reads.proofs.LayoutLemmas.{tag_row_is, one_row, sound_set, laid_set, kept_set, IsWritten, range_written, others_stay, apart_placed}
use Rattle.lsys_reads.proofs.PackLemmas.{wanted_moved}

kept_tells : (due room : ℕ) → ((due ≤ room) × (kept_for due room ≡ 0)) ⊎ ((room < due) × (kept_for due room ≡ due + due / 16))
kept_tells due room = elim (leb_tells due room) [
  | inl fits ↦ inl (fits.1, ap (λ (b : Bool). cond b 0 (due + due / 16)) fits.0)
  | inr lacks ↦ inr (lacks.1, ap (λ (b : Bool). cond b 0 (due + due / 16)) lacks.0)
]

-- for fewer tags no more is kept
less_kept : (due fewer room : ℕ) → fewer ≤ due → kept_for fewer room ≤ kept_for due room
less_kept due fewer room less = elim (kept_tells fewer room) [
  | inl fits ↦ (let none = fits.1 in omega (arith, none))
  | inr lacks ↦ elim (kept_tells due room) [
    | inl enough ↦ absurd (let one = lacks.0 in let two = enough.0 in omega (arith, one, two, less))
    | inr also ↦ (let one = lacks.1 in let two = also.1 in omega (arith, one, two, less))
  ]
]

trim_tells : (h : Head) → ((h.len + h.owed ≡ 0) × (trimmed h ≡ empty_head)) ⊎ (trimmed h ≡ h)
trim_tells h = elim (leb_tells (h.len + h.owed) 0) [
  | inl none ↦ inl ((let most = none.1 in omega (arith, most)), ap (λ (b : Bool). cond b empty_head h) none.0)
  | inr some ↦ inr (ap (λ (b : Bool). cond b empty_head h) some.0)
]

-- a row with no tags, and none owed
bare_row : (cells : List ℕ) (h : Head) → h.len + h.owed ≡ 0 → row_in_cells cells empty_head ≡ row_in_cells cells h
bare_row cells h none =
    let no_tags : [] ≡ slice_range cells h.start (h.start + h.len) = ap (λ (n : ℕ). take n (drop h.start cells)) (let e : 0 ≡ h.start + h.len - h.start = omega (arith, none) in e) in
    let no_owed : 0 ≡ h.owed = omega (arith, none) in
    ap (λ (l : List ℕ). record { tags = l; owed = 0 }) no_tags ∙ ap (λ (n : ℕ). record { tags = slice_range cells h.start (h.start + h.len); owed = n }) no_owed

-- what a row is to hold has room, and so has one more of what is kept after all rows
pub record HasRoom (h : Head) (kept capacity : ℕ) : Type 0 where
  pub due : h.len + h.owed ≤ capacity
  pub more : kept - wanted h + kept_for (h.len + h.owed + 1) h.room ≤ capacity + (capacity + 1) / 16 + 2

pub has_room : (heads : List Head) (size kept capacity n : ℕ) (h : Head) → AreSoundRows heads size kept capacity → n < length heads → h ≡ head_at heads n → HasRoom h kept capacity
has_room heads size kept capacity n h sound within is =
    let inside : h.start + h.room ≤ size = subst (λ (x : Head). x.start + x.room ≤ size) (sym is) (sound.laid.inside n) in
    let part : wanted h ≤ sum_by wanted heads = subst (λ (x : Head). wanted x ≤ sum_by wanted heads) (sym is) (get_or-le-sum_by wanted heads n empty_head within) in
    let sum = sound.kept_is in
    let left = sound.places_left in
    elim (kept_tells (h.len + h.owed) h.room) [
      | inl fits ↦
          (let most = fits.0 in let none = fits.1 in
          record {
            due = omega (arith, most, inside, left);
            more = elim (kept_tells (h.len + h.owed + 1) h.room) [
              | inl also ↦ (let nothing = also.1 in omega (arith, nothing, none, left))
              | inr lacks ↦ (let more = lacks.1 in omega (arith, more, none, most, inside, left))
            ];
          })
      | inr lacks ↦
          (let all = lacks.1 in let few = lacks.0 in
          record {
            due = omega (arith, all, part, sum, left);
            more = elim (kept_tells (h.len + h.owed + 1) h.room) [
              | inl also ↦ (let nothing = also.1 in omega (arith, nothing, left))
              | inr more ↦ (let many = more.1 in omega (arith, many, all, part, sum, left))
            ];
          })
    ]

-- the head of a row is this one now: it has this row, and the others stay
pub record Turns (cells cells' : List ℕ) (heads : List Head) (n : ℕ) (t : Head) (row : Row) (kept capacity : ℕ) : Type 0 where
  pub sound : AreSoundRows (set heads n t) (length cells') kept capacity
  pub own : tag_row (rows_of cells' (set heads n t)) n ≡ row
  pub others : OtherRowsStay (rows_of cells heads) (rows_of cells' (set heads n t)) n

-- the head may stand there for this one
abbrev StandsFor : List ℕ → List Head → ℕ → Head → Head → Type 0
StandsFor cells heads n less x = (x.start + x.room ≤ length cells) × (x.len ≤ x.room) × ((k : ℕ) → k ≢ n → HaveApartCells x (head_at heads k)) × (wanted x ≡ wanted less) × (row_in_cells cells x ≡ row_in_cells cells less)

-- the row has fewer tags or fewer are owed, and gives up its cells where there are none
pub turns_less : (cells cells' : List ℕ) (heads : List Head) (n kept gives takes capacity : ℕ) (h less t : Head)
    → AreSoundRows heads (length cells) kept capacity → n < length heads → h ≡ head_at heads n
    → less.start ≡ h.start → less.room ≡ h.room → less.len ≤ h.len → less.owed ≤ h.owed
    → length cells' ≡ length cells → ((k : ℕ) → k ≢ n → row_in_cells cells' (head_at heads k) ≡ row_in_cells cells (head_at heads k))
    → t ≡ trimmed less → gives ≡ wanted h → takes ≡ wanted less
    → Turns cells cells' heads n t (row_in_cells cells' less) (kept - gives + takes) capacity
turns_less cells cells' heads n kept gives takes capacity h less t sound within is start room fewer owed size others t_is gives_is takes_is =
    let inside : h.start + h.room ≤ length cells = subst (λ (x : Head). x.start + x.room ≤ length cells) (sym is) (sound.laid.inside n) in
    let fits : h.len ≤ h.room = subst (λ (x : Head). x.len ≤ x.room) (sym is) (sound.laid.fits n) in
    let ways : StandsFor cells' heads n less t = elim (trim_tells less) [
      | inl bare ↦ subst (StandsFor cells' heads n less) (sym (t_is ∙ bare.1)) ((omega arith, omega arith, (λ k _. inl (omega arith)), no_more bare.0, bare_row cells' less bare.0))
      | inr same ↦ subst (StandsFor cells' heads n less) (sym (t_is ∙ same)) ((omega (arith, inside, start, room, size), omega (arith, fits, fewer, room), apart, refl, refl))
    ] in
    let some : wanted (head_at heads n) ≤ kept = (let most = get_or-le-sum_by wanted heads n empty_head within in let sum = sound.kept_is in omega (arith, most, sum)) in
    let same : wanted (head_at heads n) ≡ wanted h = ap wanted (sym is) in
    let most : wanted less ≤ wanted h = subst (λ (m : ℕ). kept_for (less.len + less.owed) m ≤ wanted h) (sym room) (less_kept (h.len + h.owed) (less.len + less.owed) h.room (omega (arith, fewer, owed))) in
    let told = ways.3 in
    let placed = one_row cells cells' heads n t within others in
    record {
      sound = subst (λ (m : ℕ). AreSoundRows (set heads n t) m (kept - gives + takes) capacity) (sym size)
          (sound_set heads (length cells) kept (kept - gives + takes) capacity n t sound within (let begin = ways.0 in omega (arith, begin, size)) ways.1 ways.2
          (omega (arith, some, same, told, gives_is, takes_is)) (omega (arith, some, same, most, gives_is, takes_is)));
      own = placed.0 ∙ ways.4;
      others = placed.1;
    }
  where
    no_more : less.len + less.owed ≡ 0 → wanted empty_head ≡ wanted less
    no_more none = elim (kept_tells (less.len + less.owed) less.room) [
      | inl fits ↦ sym fits.1
      | inr lacks ↦ absurd (let one = lacks.0 in omega (arith, one, none))
    ]

    apart : (k : ℕ) → k ≢ n → HaveApartCells less (head_at heads k)
    apart k other =
        let begins : less.start ≡ (head_at heads n).start = start ∙ ap (λ (x : Head). x.start) is in
        let holds : less.room ≡ (head_at heads n).room = room ∙ ap (λ (x : Head). x.room) is in
        elim (sound.laid.apart n k (λ e. other (sym e))) [
          | inl below ↦ inl (omega (arith, below, begins, holds))
          | inr above ↦ inr (omega (arith, above, begins, holds))
        ]

-- the row of a head
pub old_row : (cells : List ℕ) (heads : List Head) (n : ℕ) (h : Head) → h ≡ head_at heads n → tag_row (rows_of cells heads) n ≡ row_in_cells cells h
old_row cells heads n h is = tag_row_is cells heads n ∙ ap (row_in_cells cells) (sym is)

-- a row that is owed something is there
pub reaches : (cells : List ℕ) (heads : List Head) (n : ℕ) → 0 < (tag_row (rows_of cells heads) n).owed → n < length heads
reaches cells [] n some = absurd (omega (arith, some))
reaches cells (h ∷ heads) zero some = omega arith
reaches cells (h ∷ heads) (suc n) some = let before = reaches cells heads n some in omega (arith, before)

-- what was written to a row leaves the others
pub others_written : (cells cells' list : List ℕ) (heads : List Head) (n : ℕ) (h : Head) → IsLaid heads (length cells) → h ≡ head_at heads n → length list ≡ h.room → IsWritten cells cells' h.start list
    → (k : ℕ) → k ≢ n → row_in_cells cells' (head_at heads k) ≡ row_in_cells cells (head_at heads k)
others_written cells cells' list heads n h laid is many written k other =
    let begins : h.start ≡ (head_at heads n).start = ap (λ (x : Head). x.start) is in
    let holds : h.room ≡ (head_at heads n).room = ap (λ (x : Head). x.room) is in
    range_written cells cells' list h.start (head_at heads k) written (laid.fits k) (elim (laid.apart k n other) [
      | inl below ↦ inl (omega (arith, below, begins))
      | inr above ↦ inr (omega (arith, above, begins, holds, many))
    ])

-- and the row has the first of it
pub own_written : (cells cells' list : List ℕ) (start len : ℕ) → IsWritten cells cells' start list → len ≤ length list → slice_range cells' start (start + len) ≡ take len list
own_written cells cells' list start len written most = range_take cells' start (length list) len most ∙ ap (take len) written.written

pub sweeps_row : (cells cells' list gone : List ℕ) (heads : List Head) (n kept capacity other : ℕ) (h less t : Head) → h ≡ head_at heads n → IsWritten cells cells' h.start list → less.start ≡ h.start → less.owed ≡ h.owed → less.len ≤ length list → h.len ≤ h.room
    → Sweeps (take h.len (slice_range cells h.start (h.start + h.room))) (take less.len list) other gone → IsRising (take less.len list)
    → Turns cells cells' heads n t (row_in_cells cells' less) kept capacity → SweepsRow (rows_of cells heads) (rows_of cells' (set heads n t)) n other gone
sweeps_row cells cells' list gone heads n kept capacity other h less t is written start owed most fits sweeps rising turns =
    let was : (tag_row (rows_of cells heads) n).tags ≡ take h.len (slice_range cells h.start (h.start + h.room)) =
    ap (λ (r : Row). r.tags) (old_row cells heads n h is) ∙ range_take cells h.start h.room h.len fits in
    let now : (tag_row (rows_of cells' (set heads n t)) n).tags ≡ take less.len list =
    ap (λ (r : Row). r.tags) turns.own ∙ ap (λ (m : ℕ). slice_range cells' m (m + less.len)) start ∙ own_written cells cells' list h.start less.len written most in
    record {
      tags = subst (λ (l : List ℕ). Sweeps l (tag_row (rows_of cells' (set heads n t)) n).tags other gone) (sym was)
          (subst (λ (l : List ℕ). Sweeps (take h.len (slice_range cells h.start (h.start + h.room))) l other gone) (sym now) sweeps);
      rising = subst IsRising (sym now) rising;
      owed = ap (λ (r : Row). r.owed) turns.own ∙ owed ∙ sym (ap (λ (r : Row). r.owed) (old_row cells heads n h is));
      others = turns.others;
    }

-- so it is, where the table tells it
pub owed_there : (cells : List ℕ) (heads : List Head) (n tag : ℕ) (rows : List Row) → rows_of cells heads ≡ rows → n ≡ tag → 0 < (tag_row rows tag).owed → n < length heads
owed_there cells heads n tag rows is same some =
    reaches cells heads n (subst (λ (m : ℕ). 0 < (tag_row (rows_of cells heads) m).owed) (sym same) (subst (λ (r : List Row). 0 < (tag_row r tag).owed) (sym is) some))

-- one less is owed
pub releases : (cells : List ℕ) (heads : List Head) (n kept capacity : ℕ) (h less t : Head) → h ≡ head_at heads n → 0 < h.owed → less ≡ record { start = h.start; room = h.room; len = h.len; owed = h.owed - 1 }
    → Turns cells cells heads n t (row_in_cells cells less) kept capacity → Reserves (rows_of cells (set heads n t)) (rows_of cells heads) n
releases cells heads n kept capacity h less t is some less_is turns = record {
  row =
      let one : h.owed ≡ h.owed - 1 + 1 = omega (arith, some) in
      old_row cells heads n h is
      ∙ ap (λ (m : ℕ). record { tags = slice_range cells h.start (h.start + h.len); owed = m }) one
      ∙ sym (ap (λ (r : Row). record { tags = r.tags; owed = r.owed + 1 }) (turns.own ∙ ap (row_in_cells cells) less_is));
  others = λ k other. sym (turns.others k other);
}

-- the head of a row that got one of the tags that it was owed
abbrev pub with_one : Head → ℕ → Head
with_one p len = record { start = p.start; room = p.room; len = len; owed = p.owed - 1 }

-- a row got a tag, in cells that have room for all that it is owed
pub turns_more : (cells cells1 cells' list : List ℕ) (heads : List Head) (n kept gives capacity capacity' len : ℕ) (h p : Head)
    → AreSoundRows heads (length cells) kept capacity → n < length heads → h ≡ head_at heads n → ComesToPlace cells cells1 h p → IsWritten cells1 cells' p.start list → length list ≡ p.room
    → 0 < h.owed → len ≤ p.len + 1 → gives ≡ wanted h → capacity ≤ capacity'
    → Turns cells cells' heads n (with_one p len) (record { tags = take len list; owed = p.owed - 1 }) (kept - gives) capacity'
turns_more cells cells1 cells' list heads n kept gives capacity capacity' len h p sound within is placed written many some most gives_is more =
    let there = subst (λ (x : Head). ComesToPlace cells cells1 x p) is placed in
    let size : length cells' ≡ length cells + wanted h = written.size ∙ placed.size in
    let room = placed.room in
    let same_len = placed.len in
    let same_owed = placed.owed in
    let within' = placed.inside in
    let one = written.size in
    let fits : len ≤ p.room = omega (arith, room, same_len, some, most) in
    let none : wanted (with_one p len) ≡ 0 = elim (kept_tells (len + (p.owed - 1)) p.room) [
      | inl enough ↦ enough.1
      | inr lacks ↦ absurd (let less = lacks.0 in omega (arith, less, room, same_len, same_owed, some, most))
    ] in
    let same : wanted (head_at heads n) ≡ wanted h = ap wanted (sym is) in
    let least : wanted (head_at heads n) ≤ kept = (let part = get_or-le-sum_by wanted heads n empty_head within in let sum = sound.kept_is in omega (arith, part, sum)) in
    let moved = one_row cells cells' heads n (with_one p len) within (others_stay cells cells1 cells' list heads n p sound.laid there written many) in
    record {
      sound = record {
        laid = laid_set heads (length cells) (length cells') n (with_one p len) sound.laid within (omega (arith, size)) (omega (arith, within', one)) fits (apart_placed cells cells1 heads n p sound.laid there);
        kept_is = kept_set heads n kept (kept - gives) (with_one p len) within sound.kept_is (omega (arith, none, same, least, gives_is));
        places_left = (let left = sound.places_left in omega (arith, left, size, same, least, gives_is, more));
      };
      own = moved.0 ∙ ap (λ (l : List ℕ). record { tags = l; owed = p.owed - 1 }) (own_written cells1 cells' list p.start len written (omega (arith, fits, many)));
      others = moved.1;
    }

pub puts_row : (cells cells1 cells' list part : List ℕ) (heads : List Head) (n kept capacity len other : ℕ) (h p : Head) → h ≡ head_at heads n → ComesToPlace cells cells1 h p → 0 < h.owed
    → part ≡ slice_range cells1 p.start (p.start + p.room) → ((q : ℕ) → has (take len list) q ≡ ((other == q) || has (take p.len part) q))
    → Turns cells cells' heads n (with_one p len) (record { tags = take len list; owed = p.owed - 1 }) kept capacity → PutsTag (rows_of cells heads) (rows_of cells' (set heads n (with_one p len))) n other
puts_row cells cells1 cells' list part heads n kept capacity len other h p is placed some part_is told turns =
    let room = placed.room in
    let same_len = placed.len in
    let same_owed = placed.owed in
    let was : take p.len part ≡ (tag_row (rows_of cells heads) n).tags =
    ap (take p.len) part_is ∙ sym (range_take cells1 p.start p.room p.len (omega (arith, room, same_len))) ∙ placed.tags ∙ sym (ap (λ (r : Row). r.tags) (old_row cells heads n h is)) in
    record {
      tags = λ q. ap (λ (r : Row). has r.tags q) turns.own ∙ told q ∙ ap (λ (l : List ℕ). (other == q) || has l q) was;
      owed = ap (λ (r : Row). r.owed + 1) turns.own ∙ (let e : p.owed - 1 + 1 ≡ h.owed = omega (arith, same_owed, some) in e) ∙ sym (ap (λ (r : Row). r.owed) (old_row cells heads n h is));
      others = turns.others;
    }

-- a row rises unless more than a few are owed
abbrev pub RisesAt : List Row → ℕ → Type 0
RisesAt rows tag = (tag_row rows tag).owed ≤ few → IsRising (tag_row rows tag).tags

pub rises_row : (cells cells' list : List ℕ) (heads : List Head) (n kept capacity len : ℕ) (p : Head) → (p.owed ≤ few + 1 → IsRising (take len list))
    → Turns cells cells' heads n (with_one p len) (record { tags = take len list; owed = p.owed - 1 }) kept capacity → RisesAt (rows_of cells' (set heads n (with_one p len))) n
rises_row cells cells' list heads n kept capacity len p rising turns = λ most.
    let owed : (tag_row (rows_of cells' (set heads n (with_one p len))) n).owed ≡ p.owed - 1 = ap (λ (r : Row). r.owed) turns.own in
    subst (λ (r : Row). IsRising r.tags) (sym turns.own) (rising (omega (arith, owed, most)))

-- a head that may stand elsewhere now
pub same_size : (old new : List Head) (n : ℕ) (h h' : Head) → map unplaced new ≡ map unplaced old → h ≡ head_at old n → h' ≡ head_at new n → unplaced h' ≡ unplaced h
same_size old new n h h' same is is' =
    ap unplaced is' ∙ sym (get_or-map unplaced new n empty_head) ∙ ap (λ (l : List Head). get_or l n empty_head) same ∙ get_or-map unplaced old n empty_head ∙ ap unplaced (sym is)

-- one more is owed
abbrev pub owed_more : Head → Head
owed_more h = record { start = h.start; room = h.room; len = h.len; owed = h.owed + 1 }

-- what it takes to owe a row one tag more, after the rows have been moved for it
pub record IsReady (old new : List Head) (cells cells' : List ℕ) (n kept gives takes capacity : ℕ) (h h' : Head) : Type 0 where
  pub within : n < length old
  pub is_old : h ≡ head_at old n
  pub is_new : h' ≡ head_at new n
  pub kept_is : kept ≡ sum_by wanted old
  pub gives_is : gives ≡ wanted h
  pub takes_is : takes ≡ kept_for (h.len + h.owed + 1) h.room
  pub moved : Packs old new cells cells'
  pub laid : IsLaid new (length cells')
  pub places : length cells' + (kept - gives + takes) ≤ capacity

-- one more is no more than there is room for
pub owed_fits : (old new : List Head) (cells cells' : List ℕ) (n kept gives takes capacity : ℕ) (h h' : Head) → IsReady old new cells cells' n kept gives takes capacity h h' → h'.owed + 1 ≤ capacity
owed_fits old new cells cells' n kept gives takes capacity h h' ready =
    let same = same_size old new n h h' ready.moved.heads ready.is_old ready.is_new in
    let owed : h'.owed ≡ h.owed = ap (λ (x : Head). x.owed) same in
    let room : h'.room ≡ h.room = ap (λ (x : Head). x.room) same in
    let inside : h'.start + h'.room ≤ length cells' = subst (λ (x : Head). x.start + x.room ≤ length cells') (sym ready.is_new) (ready.laid.inside n) in
    let places = ready.places in
    let takes_is = ready.takes_is in
    elim (kept_tells (h.len + h.owed + 1) h.room) [
      | inl fits ↦ (let most = fits.0 in omega (arith, owed, room, inside, places, most))
      | inr lacks ↦ (let more = lacks.1 in omega (arith, owed, places, more, takes_is))
    ]

-- and the table keeps the room for it
pub record Owes (old new : List Row) (heads : List Head) (size kept capacity tag : ℕ) : Type 0 where
  pub sound : AreSoundRows heads size kept capacity
  pub reserves : Reserves old new tag

pub owes : (old new : List Head) (cells cells' : List ℕ) (n kept gives takes capacity : ℕ) (h h' : Head) → IsReady old new cells cells' n kept gives takes capacity h h'
    → Owes (rows_of cells old) (rows_of cells' (set new n (owed_more h'))) (set new n (owed_more h')) (length cells') (kept - gives + takes) capacity n
owes old new cells cells' n kept gives takes capacity h h' ready =
    let t = owed_more h' in
    let same = same_size old new n h h' ready.moved.heads ready.is_old ready.is_new in
    let owed : h'.owed ≡ h.owed = ap (λ (x : Head). x.owed) same in
    let room : h'.room ≡ h.room = ap (λ (x : Head). x.room) same in
    let len : h'.len ≡ h.len = ap (λ (x : Head). x.len) same in
    let is_new = ready.is_new in
    let within : n < length new = (let many = sym (length-map new unplaced) ∙ ap length ready.moved.heads ∙ length-map old unplaced in let before = ready.within in omega (arith, many, before)) in
    let inside : h'.start + h'.room ≤ length cells' = subst (λ (x : Head). x.start + x.room ≤ length cells') (sym is_new) (ready.laid.inside n) in
    let fits : h'.len ≤ h'.room = subst (λ (x : Head). x.len ≤ x.room) (sym is_new) (ready.laid.fits n) in
    let apart = subst (λ (x : Head). (k : ℕ) → k ≢ n → HaveApartCells x (head_at new k)) (sym is_new) (λ k other. ready.laid.apart n k (λ e. other (sym e))) in
    let sum : kept ≡ sum_by wanted new = ready.kept_is ∙ sym (wanted_moved old new ready.moved.heads) in
    let was : wanted (head_at new n) ≡ wanted h = ap wanted (sym is_new) ∙ ap wanted same in
    let now : wanted t ≡ takes = ap (λ (m : ℕ). kept_for m h'.room) (let e : h'.len + (h'.owed + 1) ≡ h.len + h.owed + 1 = omega (arith, len, owed) in e) ∙ ap (kept_for (h.len + h.owed + 1)) room ∙ sym ready.takes_is in
    let some : wanted (head_at new n) ≤ kept = (let part = get_or-le-sum_by wanted new n empty_head within in omega (arith, part, sum)) in
    let gives_is = ready.gives_is in
    let moved = one_row cells' cells' new n t within (λ k _. refl) in
    record {
      sound = record {
        laid = laid_set new (length cells') (length cells') n t ready.laid within (omega arith) inside fits apart;
        kept_is = kept_set new n kept (kept - gives + takes) t within sum (omega (arith, was, now, some, gives_is));
        places_left = ready.places;
      };
      reserves = record {
        row = moved.0 ∙ ap (λ (r : Row). record { tags = r.tags; owed = r.owed + 1 }) (sym (old_row cells' new n h' is_new) ∙ ap (λ (rows : List Row). tag_row rows n) ready.moved.rows);
        others = λ k other. moved.1 k other ∙ ap (λ (rows : List Row). tag_row rows k) ready.moved.rows;
      };
    }
