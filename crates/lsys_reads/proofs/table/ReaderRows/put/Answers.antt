use Rattle.std.proofs.Common.{◌≡◌, ◌<◌, ◌≤◌, ◌-◌, ◌+◌, ◌++◌, ℕ, List, length, take, drop, set, refl, sym, ap, subst, ◌∙◌, arith, rules}
use Rattle.std.specs.Prelude.{vec_capacity, slice_range}
use Rattle.std.proofs.lemmas.List.{get_or_read}
use borrow.Rule.Slice.PartMut.{put_mid}
use Rattle.lsys_reads.specs.declared.head.Head.{Head}
use Rattle.lsys_reads.specs.Rows.{Row, tag_row, PutsTag}
use Rattle.lsys_reads.specs.Layout.{empty_head, head_at, rows_of}
use Rattle.lsys_reads.proofs.SliceLemmas.{range_length}
use Rattle.lsys_reads.proofs.LayoutLemmas.{IsWritten, written_over}
use Rattle.lsys_reads.proofs.ChangeLemmas.{Turns, turns_more, with_one, old_row, has_room, owed_there, puts_row, RisesAt, rises_row}
use Rattle.lsys_reads.proofs.table.ReaderRows.put.Goals as goal

abbrev cells_of : goal.After-self-3-1 → List ℕ
cells_of c =
    let p = c.placed-head.result in
    let mid = put_mid p.start (p.start + p.room - p.start) c.deref_mut.result.now c.put-len.new.cells in
    take c.placed-head.new.cells.len (mid ++ drop (length mid) c.placed-head.new.cells.items)

owed : (c : goal.After-self-3-1) → 0 < (tag_row (rows_of c.self.inside.cells.items c.self.inside.heads.items) c.tag.inside.0).owed
owed c =
    subst (λ (m : ℕ). 0 < (tag_row (rows_of c.self.inside.cells.items c.self.inside.heads.items) m).owed) (sym c.tag.view_is)
    (subst (λ (r : List Row). 0 < (tag_row r c.args.tag).owed) (sym c.self.view_is) c.requires.owed)

there : (c : goal.After-self-3-1) → c.tag.inside.0 < length c.self.inside.heads.items
there c = owed_there c.self.inside.cells.items c.self.inside.heads.items c.tag.inside.0 c.args.tag c.args.self.now c.self.view_is c.tag.view_is c.requires.owed

is_head : (c : goal.After-self-3-1) → c.index-was.result.now ≡ head_at c.self.inside.heads.items c.tag.inside.0
is_head c = get_or_read c.self.inside.heads.items c.tag.inside.0 c.index-was.result.now (there c) (search rules) empty_head

many : (c : goal.After-self-3-1) → length c.put-len.new.cells ≡ c.placed-head.result.room
many c =
    let p = c.placed-head.result in
    c.put-len.ensures.cells ∙ ap (λ (l : List ℕ). length (slice_range l p.start (p.start + p.room))) c.deref_mut.ensures.value
    ∙ range_length c.placed-head.new.cells.items p.start p.room c.placed-head.ensures.placed.inside

written : (c : goal.After-self-3-1) → IsWritten c.placed-head.new.cells.items (cells_of c) c.placed-head.result.start c.put-len.new.cells
written c =
    let p = c.placed-head.result in
    let counted : c.placed-head.new.cells.len ≡ length c.placed-head.new.cells.items = search rules in
    let same = many c in
    let within = c.placed-head.ensures.placed.inside in
    written_over c.placed-head.new.cells.items c.deref_mut.result.now c.put-len.new.cells c.put-len.new.cells p.start (p.start + p.room - p.start) c.placed-head.new.cells.len
    c.deref_mut.ensures.value refl (omega (arith, same)) counted (omega (arith, within, same))

some : (c : goal.After-self-3-1) → 0 < c.index-was.result.now.owed
some c = subst (λ (r : Row). 0 < r.owed) (old_row c.self.inside.cells.items c.self.inside.heads.items c.tag.inside.0 c.index-was.result.now (is_head c)) (owed c)

turns : (c : goal.After-self-3-1) → Turns c.self.inside.cells.items (cells_of c) c.self.inside.heads.items c.tag.inside.0 (with_one c.placed-head.result c.put-len.result)
    (record { tags = take c.put-len.result c.put-len.new.cells; owed = c.placed-head.result.owed - 1 }) (c.self.inside.kept - c.wanted-room.result) (vec_capacity c.placed-head.new.cells)
turns c =
    let t = c.self.inside in
    turns_more t.cells.items c.placed-head.new.cells.items (cells_of c) c.put-len.new.cells t.heads.items c.tag.inside.0 t.kept c.wanted-room.result (vec_capacity t.cells) (vec_capacity c.placed-head.new.cells) c.put-len.result c.index-was.result.now c.placed-head.result
    c.self.invariant (there c) (is_head c) c.placed-head.ensures.placed (written c) (many c) (some c) c.put-len.ensures.most c.wanted-room.ensures c.placed-head.ensures.capacity

pub wanted-room-requires : goal.wanted-room-requires
wanted-room-requires c =
    let t = c.self.inside in
    let n = c.tag.inside.0 in
    let within = owed_there t.cells.items t.heads.items n c.args.tag c.args.self.now c.self.view_is c.tag.view_is c.requires.owed in
    let is : c.index-was.result.now ≡ head_at t.heads.items n = get_or_read t.heads.items n c.index-was.result.now within (search rules) empty_head in
    let fits = (has_room t.heads.items (length t.cells.items) t.kept (vec_capacity t.cells) n c.index-was.result.now c.self.invariant within is).due in
    let small = t.cells.small in omega (arith, fits, small)

pub placed-head-requires-clause-inside : goal.placed-head-requires-clause-inside
placed-head-requires-clause-inside c =
    let t = c.self.inside in
    let n = c.tag.inside.0 in
    let within = owed_there t.cells.items t.heads.items n c.args.tag c.args.self.now c.self.view_is c.tag.view_is c.requires.owed in
    let is : c.index-was.result.now ≡ head_at t.heads.items n = get_or_read t.heads.items n c.index-was.result.now within (search rules) empty_head in
    subst (λ (x : Head). x.start + x.room ≤ length t.cells.items) (sym is) (c.self.invariant.laid.inside n)

pub placed-head-requires-clause-fits : goal.placed-head-requires-clause-fits
placed-head-requires-clause-fits c =
    let t = c.self.inside in
    let n = c.tag.inside.0 in
    let within = owed_there t.cells.items t.heads.items n c.args.tag c.args.self.now c.self.view_is c.tag.view_is c.requires.owed in
    let is : c.index-was.result.now ≡ head_at t.heads.items n = get_or_read t.heads.items n c.index-was.result.now within (search rules) empty_head in
    subst (λ (x : Head). x.len ≤ x.room) (sym is) (c.self.invariant.laid.fits n)

pub invariant_of-self : goal.invariant_of-self
invariant_of-self c = (turns c).sound

pub returns-clause-puts : goal.returns-clause-puts
returns-clause-puts c =
    let t = c.self.inside in
    let n = c.tag.inside.0 in
    let p = c.placed-head.result in
    let rows = rows_of (cells_of c) (set t.heads.items n (with_one p c.put-len.result)) in
    subst (λ (r : List Row). PutsTag r rows c.args.tag c.args.other) c.self.view_is
    (subst (λ (m : ℕ). PutsTag (rows_of t.cells.items t.heads.items) rows m c.args.other) c.tag.view_is
    (puts_row t.cells.items c.placed-head.new.cells.items (cells_of c) c.put-len.new.cells (slice_range c.deref_mut.result.now p.start (p.start + p.room)) t.heads.items n (t.kept - c.wanted-room.result) (vec_capacity c.placed-head.new.cells) c.put-len.result c.args.other
    c.index-was.result.now p (is_head c) c.placed-head.ensures.placed (some c) (ap (λ (l : List ℕ). slice_range l p.start (p.start + p.room)) c.deref_mut.ensures.value) c.put-len.ensures.tags (turns c)))

pub returns-clause-rising : goal.returns-clause-rising
returns-clause-rising c =
    let t = c.self.inside in
    let n = c.tag.inside.0 in
    let p = c.placed-head.result in
    let rows = rows_of (cells_of c) (set t.heads.items n (with_one p c.put-len.result)) in
    subst (λ (m : ℕ). RisesAt rows m) c.tag.view_is
    (rises_row t.cells.items (cells_of c) c.put-len.new.cells t.heads.items n (t.kept - c.wanted-room.result) (vec_capacity c.placed-head.new.cells) c.put-len.result p c.put-len.ensures.rising (turns c))
