use Rattle.std.proofs.Common.{ℤ, ◌≡◌, ◌+◌, ◌≤◌, ◌<◌, ◌++◌, ◌∷◌, [], length, map, Some, refl, sym, ap, ◌∙◌, subst, arith}
use Rattle.std.specs.Prelude.{IsSome, option_map}
use Rattle.std.proofs.lemmas.List.{length_push, length-map}
use Rattle.std.proofs.lemmas.Grind.{common_steps}
use Rattle.lsys_level.specs.Places.{seen_in, params_in}
use Rattle.lsys_region.specs.Rooms.{list_room}
use Rattle.lsys_forest.specs.Slots.{SlotTable, slot_at, footing_at, live_slots, change_slot, kind_set}
use Rattle.lsys_forest.specs.declared.note.Was.TheVariants as was
use Rattle.lsys_forest.specs.Shelves.{Shelf, run_list, shelf_of, IsOwner}
use Rattle.lsys_forest.specs.Nodes.{Node, with_node, with_seen}
use Rattle.lsys_forest.specs.Changes.{OldSeen}
use Rattle.lsys_forest.specs.Stocks.{Stock, row_at, nodes_of, changes_told, ComesTo, Swaps, stock_of, Journals}
use Rattle.lsys_forest.proofs.SlotLemmas.{live_change}
use Rattle.lsys_forest.proofs.StockLemmas.{shown_nodes, change_there, IsStock-note, told_param, param_count_le, lives_stored, seen_was, seen_changed}
use Rattle.lsys_forest.proofs.stock.Parts.set_symbol.Goals as goal

pub swap_params-requires-clause-owned : goal.swap_params-requires-clause-owned
swap_params-requires-clause-owned g c =
    let i = c.self.inside in
    subst (λ r. IsOwner i.params r) (sym (ap (λ (y : SlotTable g.row.A.Denot). y.param_runs) c.swap_kind.ensures.changed)) c.self.invariant.params

pub swap_params-requires-clause-lives : goal.swap_params-requires-clause-lives
swap_params-requires-clause-lives g c =
    let i = c.self.inside in
    let lives = subst (λ (t : Stock g.row.A.Denot). IsSome (nodes_of t c.args.node)) (sym c.self.view_is) c.requires.lives in
    let s = lives_stored i.table.slots (map (run_list i.params.pool) i.table.param_runs) (map (run_list i.kids.pool) i.table.kid_runs) c.args.node lives in
    let there = ap (λ (y : SlotTable g.row.A.Denot). slot_at y.slots c.args.node) c.swap_kind.ensures.changed ∙ change_there (kind_set c.kind_of.result) i.table.slots c.args.node ∙ ap (option_map (kind_set c.kind_of.result)) s.1 in
    subst IsSome (sym there) refl

pub swap_params-requires-clause-place : goal.swap_params-requires-clause-place
swap_params-requires-clause-place g c =
    let i = c.self.inside in
    let place = subst (λ (t : Stock g.row.A.Denot). 0 < t.note_room) (sym c.self.view_is) c.requires.place in
    let same = length-map i.params.past (run_list i.params.pool) in
    omega (arith, place, same, c.self.invariant.stock.past_params_long, param_count_le i.journal.notes)

pub invariant_of-self : goal.invariant_of-self
invariant_of-self g c =
    let i = c.self.inside in
    let e = c.swap_params.ensures in
    let k = c.args.node in
    let x = c.kind_of.result in
    let f = c.swap_kind.ensures.changed in
    let now : SlotTable g.row.A.Denot = record i.table { slots = change_slot (kind_set x) i.table.slots k } in
    let t' = c.swap_params.new.table in
    let p' = c.swap_params.new.lists in
    let runs : c.swap_kind.new.self.param_runs ≡ i.table.param_runs = ap (λ (y : SlotTable g.row.A.Denot). y.param_runs) f in
    let is_table : t' ≡ record i.table { slots = change_slot (kind_set x) i.table.slots k; param_runs = t'.param_runs } = e.table ∙ ap (λ (y : SlotTable g.row.A.Denot). record y { param_runs = t'.param_runs }) f in
    let swapped : Swaps k c.params_of.result.now (shelf_of i.params i.table.param_runs) (shelf_of p' t'.param_runs) = subst (λ r. Swaps k c.params_of.result.now (shelf_of i.params r) (shelf_of p' t'.param_runs)) runs e.swapped in
    let after = ap (λ (s : Shelf ℤ). s.past) swapped.swapped in
    record {
      params = e.owned;
      kids = subst (λ r. IsOwner i.kids r) (sym (ap (λ (y : SlotTable g.row.A.Denot). y.kid_runs) is_table)) c.self.invariant.kids;
      stock = IsStock-note i.journal.notes c.push.new.self.notes _ (map (run_list i.params.pool) i.params.past) (map (run_list p'.pool) p'.past) (map (run_list i.kids.pool) i.kids.past) (map (run_list i.kids.pool) i.kids.past) c.push.ensures.pushed (ap length after ∙ length_push (map (run_list i.params.pool) i.params.past) _) (omega arith) c.self.invariant.stock;
    }

pub returns-clause-set : goal.returns-clause-set
returns-clause-set g c =
    let i = c.self.inside in
    let e = c.swap_params.ensures in
    let k = c.args.node in
    let x = c.kind_of.result in
    let f = c.swap_kind.ensures.changed in
    let now : SlotTable g.row.A.Denot = record i.table { slots = change_slot (kind_set x) i.table.slots k } in
    let t' = c.swap_params.new.table in
    let p' = c.swap_params.new.lists in
    let runs : c.swap_kind.new.self.param_runs ≡ i.table.param_runs = ap (λ (y : SlotTable g.row.A.Denot). y.param_runs) f in
    let is_table : t' ≡ record i.table { slots = change_slot (kind_set x) i.table.slots k; param_runs = t'.param_runs } = e.table ∙ ap (λ (y : SlotTable g.row.A.Denot). record y { param_runs = t'.param_runs }) f in
    let swapped : Swaps k c.params_of.result.now (shelf_of i.params i.table.param_runs) (shelf_of p' t'.param_runs) = subst (λ r. Swaps k c.params_of.result.now (shelf_of i.params r) (shelf_of p' t'.param_runs)) runs e.swapped in
    let ns = c.push.new.self in
    let l = params_in c.args.symbol.now in
    let params = map (run_list i.params.pool) i.table.param_runs in
    let kids = map (run_list i.kids.pool) i.table.kid_runs in
    let past = map (run_list i.params.pool) i.params.past in
    let past_kids = map (run_list i.kids.pool) i.kids.past in
    let after = ap (λ (s : Shelf ℤ). s.past) swapped.swapped in
    let comes = subst (λ m. ComesTo k m params (map (run_list p'.pool) t'.param_runs)) c.params_of.ensures.params swapped.comes in
    subst (λ (t : Stock g.row.A.Denot). (n : Node g.row.A.Denot) → nodes_of t k ≡ Some n → Journals t (stock_of t' p' i.kids ns) k (Some (with_seen (seen_in c.args.symbol.now) n)) (OldSeen n.seen) 0 (list_room l) 0) c.self.view_is
    (λ n is. record {
      nodes =
          ap (λ (y : SlotTable g.row.A.Denot). shown_nodes y.slots (map (run_list p'.pool) t'.param_runs) (map (run_list i.kids.pool) y.kid_runs)) is_table
          ∙ seen_changed i.table.slots (change_slot (kind_set x) i.table.slots k) params (map (run_list p'.pool) t'.param_runs) kids k x l n is refl comes
          ∙ ap (λ y. with_node (shown_nodes i.table.slots params kids) k (Some (with_seen y n))) c.kind_of.ensures;
      noted =
          let same = seen_was i.table.slots params kids k n c.in-Some.kind is c.in-Some.ensures.before in
          ap (λ ns. changes_told ns (map (run_list p'.pool) p'.past) past_kids) c.push.ensures.pushed
          ∙ ap (λ ps. changes_told (i.journal.notes ++ record { node = k; was = was.Kind c.in-Some.kind } ∷ []) ps past_kids) after
          ∙ told_param i.journal.notes (record { node = k; was = was.Kind c.in-Some.kind }) past (row_at params k) past_kids c.self.invariant.stock.past_params_long c.self.invariant.stock.past_kids_long
          ∙ ap (λ y. changes_told i.journal.notes past past_kids ++ record { node = k; before = OldSeen y } ∷ []) same;
      notes = ap length c.push.ensures.pushed ∙ length_push i.journal.notes _;
      live = let same = ap (λ (y : SlotTable g.row.A.Denot). live_slots y.slots) is_table ∙ live_change (kind_set x) i.table.slots k in omega (arith, same);
      capacity = ap (λ (y : SlotTable g.row.A.Denot). y.capacity) is_table;
      note_room = let x = ap (λ (s : Shelf ℤ). s.past) swapped.swapped in let l = ap length x in let m = length_push past (row_at params k) in omega (arith, c.push.ensures.room, swapped.places, l, m);
      param_room = subst (λ m. i.params.pool.spare ≤ p'.pool.spare + list_room m) c.params_of.ensures.params swapped.spare;
      kid_room = omega arith;
      hand = refl;
      footings = λ j lives. ap (λ (y : SlotTable g.row.A.Denot). footing_at y.footings j) is_table;
    })

pub kind_of-requires : goal.kind_of-requires
kind_of-requires g c = grind (arith, common_steps)

pub unreachable-requires : goal.unreachable-requires
unreachable-requires g c = grind (arith, common_steps)

pub swap_params-requires-clause-room : goal.swap_params-requires-clause-room
swap_params-requires-clause-room g c = grind (arith, common_steps)

pub push-requires : goal.push-requires
push-requires g c = grind (arith, common_steps)
