use Rattle.std.proofs.Common.{◌≡◌, ◌<◌, ◌-◌, ◌+◌, ℕ, List, length, get_or, set, sym, ap, subst, ◌∙◌, arith, rules}
use Rattle.std.specs.Prelude.{vec_capacity}
use Rattle.std.proofs.lemmas.List.{get_or_read, length-map}
use Rattle.lsys_reads.specs.declared.head.Head.{Head}
use Rattle.lsys_reads.specs.Rows.{Row, Reserves}
use Rattle.lsys_reads.specs.Layout.{Packs, AreSoundRows, empty_head, kept_for, wanted, row_in_cells, rows_of, unplaced}
use Rattle.lsys_reads.proofs.ChangeLemmas.{IsReady, Owes, owes, owed_more, owed_fits, HasRoom, has_room}
use Rattle.lsys_reads.proofs.table.ReaderRows.owe.Goals as goal

ready : (c : goal.After-index_mut) → IsReady c.self.inside.heads.items c.provide.new.heads.items c.self.inside.cells.items c.provide.new.cells.items
    c.tag.inside.0 c.self.inside.kept c.kept_for.result c.kept_for-2.result (vec_capacity c.provide.new.cells) c.index-head.result.now c.index_mut.result.now
ready c =
    let t = c.self.inside in
    let n = c.tag.inside.0 in
    let some = c.requires in
    let many = length-map t.heads.items (row_in_cells t.cells.items) in
    let same = ap length c.self.view_is in
    let tag = c.tag.view_is in
    let within : n < length t.heads.items = omega (arith, some, many, same, tag) in
    let moved : Packs t.heads.items c.provide.new.heads.items t.cells.items c.provide.new.cells.items = c.in_ok-provide.ensures.pack in
    let size = sym (length-map c.provide.new.heads.items unplaced) ∙ ap length moved.heads ∙ length-map t.heads.items unplaced in
    record {
      within = within;
      is_old = get_or_read t.heads.items n c.index-head.result.now within (search rules) empty_head;
      is_new = get_or_read c.provide.new.heads.items n c.index_mut.result.now (omega (arith, within, size)) (search rules) empty_head;
      kept_is = c.self.invariant.kept_is;
      gives_is = c.kept_for.ensures;
      takes_is = c.kept_for-2.ensures;
      moved = moved;
      laid = c.in_ok-provide.ensures.laid;
      places = c.in_ok-provide.ensures.capacity;
    }

-- the row has room, and so has one tag more
room_there : (cells : List ℕ) (heads : List Head) (n tag kept capacity : ℕ) (rows : List Row) (h : Head) → rows_of cells heads ≡ rows → n ≡ tag → tag < length rows
    → AreSoundRows heads (length cells) kept capacity → (n < length heads → h ≡ get_or heads n h) → HasRoom h kept capacity
room_there cells heads n tag kept capacity rows h view is within sound read =
    let many = length-map heads (row_in_cells cells) in
    let same = ap length view in
    let there : n < length heads = omega (arith, within, many, same, is) in
    has_room heads (length cells) kept capacity n h sound there (get_or_read heads n h there (read there) empty_head)

pub kept_for-requires : goal.kept_for-requires
kept_for-requires c =
    let t = c.self.inside in
    let room = (room_there t.cells.items t.heads.items c.tag.inside.0 c.args.tag t.kept (vec_capacity t.cells) c.args.self.now c.index-head.result.now c.self.view_is c.tag.view_is c.requires c.self.invariant (λ _. search rules)).due in
    let small = t.cells.small in
    omega (arith, room, small)

pub overflow_add-due-2 : goal.overflow_add-due-2
overflow_add-due-2 c =
    let t = c.self.inside in
    let room = (room_there t.cells.items t.heads.items c.tag.inside.0 c.args.tag t.kept (vec_capacity t.cells) c.args.self.now c.index-head.result.now c.self.view_is c.tag.view_is c.requires c.self.invariant (λ _. search rules)).due in
    let small = t.cells.small in
    omega (arith, room, small)

pub kept_for-requires-2 : goal.kept_for-requires-2
kept_for-requires-2 c =
    let t = c.self.inside in
    let room = (room_there t.cells.items t.heads.items c.tag.inside.0 c.args.tag t.kept (vec_capacity t.cells) c.args.self.now c.index-head.result.now c.self.view_is c.tag.view_is c.requires c.self.invariant (λ _. search rules)).due in
    let small = t.cells.small in
    omega (arith, room, small)

pub overflow_add-kept : goal.overflow_add-kept
overflow_add-kept c =
    let t = c.self.inside in
    let h = c.index-head.result.now in
    let room = (room_there t.cells.items t.heads.items c.tag.inside.0 c.args.tag t.kept (vec_capacity t.cells) c.args.self.now h c.self.view_is c.tag.view_is c.requires c.self.invariant (λ _. search rules)).more in
    let small = t.cells.small in
    let gives : c.kept_for.result ≡ wanted h = c.kept_for.ensures in
    let takes : c.kept_for-2.result ≡ kept_for (h.len + h.owed + 1) h.room = c.kept_for-2.ensures in
    omega (arith, room, small, gives, takes)

pub overflow_add-index_mut : goal.overflow_add-index_mut
overflow_add-index_mut c = let fits = owed_fits _ _ _ _ _ _ _ _ _ _ _ (ready c) in let small = c.provide.new.cells.small in omega (arith, fits, small)

owed : (c : goal.After-self-2-1) → Owes (rows_of c.self.inside.cells.items c.self.inside.heads.items) (rows_of c.provide.new.cells.items (set c.provide.new.heads.items c.tag.inside.0 (owed_more c.index_mut.result.now)))
    (set c.provide.new.heads.items c.tag.inside.0 (owed_more c.index_mut.result.now)) (length c.provide.new.cells.items) (c.self.inside.kept - c.kept_for.result + c.kept_for-2.result) (vec_capacity c.provide.new.cells) c.tag.inside.0
owed c = owes _ _ _ _ _ _ _ _ _ _ _ (ready c.before.before.before)

pub invariant_of-self-2 : goal.invariant_of-self-2
invariant_of-self-2 c = (owed c).sound

pub returns-clause-ok : goal.returns-clause-ok
returns-clause-ok c =
    let rows = rows_of c.provide.new.cells.items (set c.provide.new.heads.items c.tag.inside.0 (owed_more c.index_mut.result.now)) in
    subst (λ (r : List Row). Reserves r rows c.args.tag) c.self.view_is
    (subst (λ (m : ℕ). Reserves (rows_of c.self.inside.cells.items c.self.inside.heads.items) rows m) c.tag.view_is (owed c).reserves)
