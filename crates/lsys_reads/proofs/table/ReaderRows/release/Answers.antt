use Rattle.std.proofs.Common.{◌≡◌, ◌<◌, ◌-◌, ◌+◌, ℕ, List, length, set, refl, sym, subst, arith, rules}
use Rattle.std.specs.Prelude.{vec_capacity}
use Rattle.std.proofs.lemmas.List.{get_or_read}
use Rattle.lsys_reads.specs.declared.head.Head.{Head}
use Rattle.lsys_reads.specs.Rows.{Row, tag_row, Reserves}
use Rattle.lsys_reads.specs.Layout.{empty_head, head_at, row_in_cells, rows_of}
use Rattle.lsys_reads.proofs.ChangeLemmas.{Turns, turns_less, old_row, has_room, owed_there, releases}
use Rattle.lsys_reads.proofs.table.ReaderRows.release.Goals as goal

abbrev less : Head → Head
less h = record { start = h.start; room = h.room; len = h.len; owed = h.owed - 1 }

owed : (c : goal.After-self-2-1) → 0 < (tag_row (rows_of c.self.inside.cells.items c.self.inside.heads.items) c.tag.inside.0).owed
owed c =
    subst (λ (m : ℕ). 0 < (tag_row (rows_of c.self.inside.cells.items c.self.inside.heads.items) m).owed) (sym c.tag.view_is)
    (subst (λ (r : List Row). 0 < (tag_row r c.args.tag).owed) (sym c.self.view_is) c.requires)

there : (c : goal.After-self-2-1) → c.tag.inside.0 < length c.self.inside.heads.items
there c = owed_there c.self.inside.cells.items c.self.inside.heads.items c.tag.inside.0 c.args.tag c.args.self.now c.self.view_is c.tag.view_is c.requires

turns : (c : goal.After-self-2-1) → Turns c.self.inside.cells.items c.self.inside.cells.items c.self.inside.heads.items c.tag.inside.0 c.trimmed.result
    (row_in_cells c.self.inside.cells.items (less c.index-head.result.now)) (c.self.inside.kept - c.wanted.result + c.wanted-2.result) (vec_capacity c.self.inside.cells)
turns c =
    let t = c.self.inside in
    let h = c.index-head.result.now in
    let within = there c in
    turns_less t.cells.items t.cells.items t.heads.items c.tag.inside.0 t.kept c.wanted.result c.wanted-2.result (vec_capacity t.cells) h (less h) c.trimmed.result
    c.self.invariant within (get_or_read t.heads.items c.tag.inside.0 h within (search rules) empty_head) refl refl (omega arith) (omega arith) refl (λ k _. refl)
    c.trimmed.ensures c.wanted.ensures c.wanted-2.ensures

pub wanted-requires : goal.wanted-requires
wanted-requires c =
    let t = c.self.inside in
    let n = c.tag.inside.0 in
    let within = owed_there t.cells.items t.heads.items n c.args.tag c.args.self.now c.self.view_is c.tag.view_is c.requires in
    let is = get_or_read t.heads.items n c.index-head.result.now within (search rules) empty_head in
    let fits = (has_room t.heads.items (length t.cells.items) t.kept (vec_capacity t.cells) n c.index-head.result.now c.self.invariant within is).due in
    let small = t.cells.small in omega (arith, fits, small)

pub wanted-requires-2 : goal.wanted-requires-2
wanted-requires-2 c =
    let t = c.self.inside in
    let n = c.tag.inside.0 in
    let within = owed_there t.cells.items t.heads.items n c.args.tag c.args.self.now c.self.view_is c.tag.view_is c.requires in
    let is = get_or_read t.heads.items n c.index-head.result.now within (search rules) empty_head in
    let fits = (has_room t.heads.items (length t.cells.items) t.kept (vec_capacity t.cells) n c.index-head.result.now c.self.invariant within is).due in
    let small = t.cells.small in omega (arith, fits, small)

pub invariant_of-self : goal.invariant_of-self
invariant_of-self c = (turns c).sound

pub returns : goal.returns
returns c =
    let t = c.self.inside in
    let n = c.tag.inside.0 in
    let h = c.index-head.result.now in
    let within = there c in
    let is : h ≡ head_at t.heads.items n = get_or_read t.heads.items n h within (search rules) empty_head in
    let rows = rows_of t.cells.items (set t.heads.items n c.trimmed.result) in
    let some : 0 < h.owed = subst (λ (r : Row). 0 < r.owed) (old_row t.cells.items t.heads.items n h is) (owed c) in
    subst (λ (r : List Row). Reserves rows r c.args.tag) c.self.view_is
    (subst (λ (m : ℕ). Reserves rows (rows_of t.cells.items t.heads.items) m) c.tag.view_is
    (releases t.cells.items t.heads.items n (t.kept - c.wanted.result + c.wanted-2.result) (vec_capacity t.cells) h (less h) c.trimmed.result is some refl (turns c)))
