use Rattle.std.proofs.Common.{◌≡◌, ◌≤◌, ◌-◌, ◌+◌, ◌++◌, ℕ, List, length, take, drop, set, refl, sym, ap, subst, ◌∙◌, arith, rules}
use Rattle.std.specs.Prelude.{vec_capacity, slice_range}
use Rattle.std.proofs.lemmas.List.{get_or_read}
use borrow.Rule.Slice.PartMut.{put_mid}
use Rattle.lsys_reads.specs.declared.head.Head.{Head}
use Rattle.lsys_reads.specs.Rows.{Row, Sweeps, SweepsRow}
use Rattle.lsys_reads.specs.Layout.{empty_head, head_at, row_in_cells, rows_of}
use Rattle.lsys_reads.proofs.SliceLemmas.{range_length}
use Rattle.lsys_reads.proofs.LayoutLemmas.{IsWritten, written_over}
use Rattle.lsys_reads.proofs.ChangeLemmas.{Turns, turns_less, others_written, sweeps_row}
use Rattle.lsys_reads.proofs.table.ReaderRows.sweep.Goals as goal

abbrev less : Head → ℕ → Head
less h len = record { start = h.start; room = h.room; len = len; owed = h.owed }

abbrev cells_of : goal.After-self-3-1 → List ℕ
cells_of c =
    let h = c.index-head.result.now in
    let mid = put_mid h.start (h.start + h.room - h.start) c.deref_mut.result.now c.sweep-len.new.cells in
    take c.self.inside.cells.len (mid ++ drop (length mid) c.self.inside.cells.items)

is_head : (c : goal.After-self-3-1) → c.index-head.result.now ≡ head_at c.self.inside.heads.items c.tag.inside.0
is_head c = get_or_read c.self.inside.heads.items c.tag.inside.0 c.index-head.result.now (search rules) (search rules) empty_head

inside : (c : goal.After-self-3-1) → c.index-head.result.now.start + c.index-head.result.now.room ≤ length c.self.inside.cells.items
inside c = subst (λ (x : Head). x.start + x.room ≤ length c.self.inside.cells.items) (sym (is_head c)) (c.self.invariant.laid.inside c.tag.inside.0)

many : (c : goal.After-self-3-1) → length c.sweep-len.new.cells ≡ c.index-head.result.now.room
many c =
    let h = c.index-head.result.now in
    c.sweep-len.ensures.cells ∙ ap (λ (l : List ℕ). length (slice_range l h.start (h.start + h.room))) c.deref_mut.ensures.value ∙ range_length c.self.inside.cells.items h.start h.room (inside c)

written : (c : goal.After-self-3-1) → IsWritten c.self.inside.cells.items (cells_of c) c.index-head.result.now.start c.sweep-len.new.cells
written c =
    let h = c.index-head.result.now in
    let counted : c.self.inside.cells.len ≡ length c.self.inside.cells.items = search rules in
    let same = many c in
    let within = inside c in
    written_over c.self.inside.cells.items c.deref_mut.result.now c.sweep-len.new.cells c.sweep-len.new.cells h.start (h.start + h.room - h.start) c.self.inside.cells.len
    c.deref_mut.ensures.value refl (omega (arith, same)) counted (omega (arith, within, same))

turns : (c : goal.After-self-3-1) → Turns c.self.inside.cells.items (cells_of c) c.self.inside.heads.items c.tag.inside.0 c.trimmed.result
    (row_in_cells (cells_of c) (less c.index-head.result.now c.sweep-len.result)) (c.self.inside.kept - c.wanted.result + c.wanted-2.result) (vec_capacity c.self.inside.cells)
turns c =
    let t = c.self.inside in
    let h = c.index-head.result.now in
    turns_less t.cells.items (cells_of c) t.heads.items c.tag.inside.0 t.kept c.wanted.result c.wanted-2.result (vec_capacity t.cells) h (less h c.sweep-len.result) c.trimmed.result
    c.self.invariant (search rules) (is_head c) refl refl c.sweep-len.ensures.most (omega arith) (written c).size
    (others_written t.cells.items (cells_of c) c.sweep-len.new.cells t.heads.items c.tag.inside.0 h c.self.invariant.laid (is_head c) (many c) (written c))
    c.trimmed.ensures c.wanted.ensures c.wanted-2.ensures

pub invariant_of-self : goal.invariant_of-self
invariant_of-self c = (turns c).sound

pub returns : goal.returns
returns c =
    let t = c.self.inside in
    let n = c.tag.inside.0 in
    let h = c.index-head.result.now in
    let rows = rows_of (cells_of c) (set t.heads.items n c.trimmed.result) in
    let fits : h.len ≤ h.room = subst (λ (x : Head). x.len ≤ x.room) (sym (is_head c)) (c.self.invariant.laid.fits n) in
    let most = c.sweep-len.ensures.most in
    let same = many c in
    let sweeps = subst (λ (l : List ℕ). Sweeps (take h.len (slice_range l h.start (h.start + h.room))) (take c.sweep-len.result c.sweep-len.new.cells) c.args.other c.args.gone.now) c.deref_mut.ensures.value c.sweep-len.ensures.tags in
    subst (λ (r : List Row). SweepsRow r rows c.args.tag c.args.other c.args.gone.now) c.self.view_is
    (subst (λ (m : ℕ). SweepsRow (rows_of t.cells.items t.heads.items) rows m c.args.other c.args.gone.now) c.tag.view_is
    (sweeps_row t.cells.items (cells_of c) c.sweep-len.new.cells c.args.gone.now t.heads.items n (t.kept - c.wanted.result + c.wanted-2.result) (vec_capacity t.cells) c.args.other h (less h c.sweep-len.result) c.trimmed.result
    (is_head c) (written c) refl refl (omega (arith, most, fits, same)) fits sweeps c.sweep-len.ensures.rising (turns c)))
