use Rattle.std.proofs.Common.{ℕ, ◌≡◌, ◌<◌, ◌++◌, ◌∷◌, [], length, map, Some, refl, sym, ap, ◌∙◌, subst, arith}
use Rattle.std.specs.Prelude.{IsSome}
use Rattle.std.proofs.lemmas.List.{length_push, length-map}
use Rattle.std.proofs.lemmas.Grind.{common_steps}
use Rattle.lsys_region.specs.Rooms.{list_room}
use Rattle.lsys_forest.specs.declared.note.Was.TheVariants as was
use Rattle.lsys_forest.specs.Shelves.{Shelf, run_list, IsOwner}
use Rattle.lsys_forest.specs.Slots.{SlotTable, footing_at, live_slots}
use Rattle.lsys_forest.specs.Nodes.{Node, with_kids}
use Rattle.lsys_forest.specs.Changes.{OldKids}
use Rattle.lsys_forest.specs.Stocks.{Stock, row_at, nodes_of, changes_told, stock_of, Journals}
use Rattle.lsys_forest.proofs.StockLemmas.{shown_nodes, IsStock-note, told_kid, kid_count_le, lives_stored, kids_changed, kids_were}
use Rattle.lsys_forest.proofs.stock.Parts.set_kids.Goals as goal

pub swap_kids-requires-clause-lives : goal.swap_kids-requires-clause-lives
swap_kids-requires-clause-lives g c =
    let i = c.self.inside in
    let lives = subst (λ (t : Stock g.row.A.Denot). IsSome (nodes_of t c.args.node)) (sym c.self.view_is) c.requires.lives in
    let s = lives_stored i.table.slots (map (run_list i.params.pool) i.table.param_runs) (map (run_list i.kids.pool) i.table.kid_runs) c.args.node lives in
    subst IsSome (sym s.1) refl

pub swap_kids-requires-clause-place : goal.swap_kids-requires-clause-place
swap_kids-requires-clause-place g c =
    let i = c.self.inside in
    let place = subst (λ (t : Stock g.row.A.Denot). 0 < t.note_room) (sym c.self.view_is) c.requires.place in
    let same = length-map i.kids.past (run_list i.kids.pool) in
    omega (arith, place, same, c.self.invariant.stock.past_kids_long, kid_count_le i.journal.notes)

pub invariant_of-self : goal.invariant_of-self
invariant_of-self g c =
    let i = c.self.inside in
    let e = c.swap_kids.ensures in
    let after = ap (λ (s : Shelf ℕ). s.past) e.swapped.swapped in
    let params = ap (λ (x : SlotTable g.row.A.Denot). x.param_runs) e.table in
    record {
      params = subst (λ r. IsOwner i.params r) (sym params) c.self.invariant.params;
      kids = e.owned;
      stock = IsStock-note i.journal.notes c.push_bare.new.self.notes _ (map (run_list i.params.pool) i.params.past) (map (run_list i.params.pool) i.params.past) (map (run_list i.kids.pool) i.kids.past) (map (run_list c.swap_kids.new.lists.pool) c.swap_kids.new.lists.past) c.push_bare.ensures.pushed (omega arith) (ap length after ∙ length_push (map (run_list i.kids.pool) i.kids.past) _) c.self.invariant.stock;
    }

pub returns : goal.returns
returns g c =
    let i = c.self.inside in
    let e = c.swap_kids.ensures in
    let t' = c.swap_kids.new.table in
    let q' = c.swap_kids.new.lists in
    let ns = c.push_bare.new.self in
    let k = c.args.node in
    let params = map (run_list i.params.pool) i.table.param_runs in
    let kids = map (run_list i.kids.pool) i.table.kid_runs in
    let past = map (run_list i.params.pool) i.params.past in
    let after = ap (λ (s : Shelf ℕ). s.past) e.swapped.swapped in
    subst (λ (t : Stock g.row.A.Denot). (n : Node g.row.A.Denot) → nodes_of t k ≡ Some n → Journals t (stock_of t' i.params q' ns) k (Some (with_kids c.args.kids.now n)) (OldKids n.kids) 0 0 (list_room c.args.kids.now)) c.self.view_is
    (λ n is. record {
      nodes =
          ap (λ (x : SlotTable g.row.A.Denot). shown_nodes x.slots (map (run_list i.params.pool) x.param_runs) (map (run_list q'.pool) t'.kid_runs)) e.table
          ∙ kids_changed i.table.slots params kids (map (run_list q'.pool) t'.kid_runs) k c.args.kids.now n is e.swapped.comes;
      noted =
          let same = kids_were i.table.slots params kids k n is in
          ap (λ ns. changes_told ns past (map (run_list q'.pool) q'.past)) c.push_bare.ensures.pushed
          ∙ ap (changes_told (i.journal.notes ++ record { node = k; was = was.Kids } ∷ []) past) after
          ∙ told_kid i.journal.notes (record { node = k; was = was.Kids }) past (map (run_list i.kids.pool) i.kids.past) (row_at kids k) c.self.invariant.stock.past_params_long c.self.invariant.stock.past_kids_long
          ∙ ap (λ x. changes_told i.journal.notes past (map (run_list i.kids.pool) i.kids.past) ++ record { node = k; before = OldKids x } ∷ []) same;
      notes = ap length c.push_bare.ensures.pushed ∙ length_push i.journal.notes _;
      live = let same = ap (λ (x : SlotTable g.row.A.Denot). x.slots) e.table in let l = ap live_slots same in omega (arith, l);
      capacity = ap (λ (x : SlotTable g.row.A.Denot). x.capacity) e.table;
      note_room = let l = ap length after in let m = length_push (map (run_list i.kids.pool) i.kids.past) (row_at kids k) in omega (arith, c.push_bare.ensures.room, e.swapped.places, l, m);
      param_room = omega arith;
      kid_room = e.swapped.spare;
      hand = ap (λ (s : Shelf ℕ). s.hand) e.swapped.swapped;
      footings = λ j lives. ap (λ (x : SlotTable g.row.A.Denot). footing_at x.footings j) e.table;
    })

pub swap_kids-requires-clause-room : goal.swap_kids-requires-clause-room
swap_kids-requires-clause-room g c = grind (arith, common_steps)

pub push_bare-requires-clause-place : goal.push_bare-requires-clause-place
push_bare-requires-clause-place g c = grind (arith, common_steps)
