use Rattle.std.proofs.Common.{ℕ, ℤ, ◌≡◌, ◌+◌, ◌≤◌, ◌++◌, ◌∷◌, [], length, map, List, Option, Some, None, sym, ap, ◌∙◌, subst, arith}
use Rattle.std.specs.Prelude.{IsSome, option_map}
use Rattle.std.proofs.lemmas.List.{length_push}
use Rattle.std.proofs.lemmas.Option.{none-some}
use Rattle.std.proofs.lemmas.Grind.{common_steps}
use Rattle.lsys_level.specs.Places.{seen_in, params_in}
use Rattle.lsys_region.specs.Rooms.{list_room}
use Rattle.lsys_forest.specs.Slots.{slot_at}
use Rattle.lsys_forest.specs.declared.node.Stored.{Stored}
use Rattle.lsys_forest.specs.declared.note.Was.TheVariants as was
use Rattle.lsys_forest.specs.Shelves.{Shelf, run_list, past_room}
use Rattle.lsys_forest.specs.Nodes.{Node, with_node}
use Rattle.lsys_forest.specs.Changes.{Missing}
use Rattle.lsys_forest.specs.Stocks.{Stock, row_at, node_of, changes_told, stock_of, Journals}
use Rattle.lsys_forest.proofs.ShelfLemmas.{room_nil}
use Rattle.lsys_forest.proofs.StockLemmas.{IsStock-note, shown_nodes, told_plain, node_put}
use Rattle.lsys_forest.proofs.stock.Parts.insert.Goals as goal

pub invariant_of-self : goal.invariant_of-self
invariant_of-self g c =
    let i = c.self.inside in
    let e = c.insert-number.ensures in
    let k = c.insert-number.result in
    let t' = c.insert-number.new.table in
    let p' = c.insert-number.new.params in
    let q' = c.insert-number.new.kids in
    let past = map (run_list i.params.pool) i.params.past in
    let past_kids = map (run_list i.kids.pool) i.kids.past in
    let pp = ap (λ (s : Shelf ℤ). s.past) e.has_params.rest in
    let qp = ap (λ (s : Shelf ℕ). s.past) e.no_kids.rest in
    record {
      params = e.params;
      kids = e.kids;
      stock = IsStock-note i.journal.notes c.push_bare.new.self.notes _ past (map (run_list p'.pool) p'.past) past_kids (map (run_list q'.pool) q'.past) c.push_bare.ensures.pushed (let l = ap length pp in omega (arith, l)) (let l = ap length qp in omega (arith, l)) c.self.invariant.stock;
    }

pub returns-clause-added : goal.returns-clause-added
returns-clause-added g c =
    let i = c.self.inside in
    let e = c.insert-number.ensures in
    let k = c.insert-number.result in
    let t' = c.insert-number.new.table in
    let p' = c.insert-number.new.params in
    let q' = c.insert-number.new.kids in
    let past = map (run_list i.params.pool) i.params.past in
    let past_kids = map (run_list i.kids.pool) i.kids.past in
    let pp = ap (λ (s : Shelf ℤ). s.past) e.has_params.rest in
    let qp = ap (λ (s : Shelf ℕ). s.past) e.no_kids.rest in
    let ns = c.push_bare.new.self in
    let params = map (run_list i.params.pool) i.table.param_runs in
    let kids = map (run_list i.kids.pool) i.table.kid_runs in
    let l = params_in c.args.symbol.now in
    let s : Stored g.row.A.Denot = record { parent = c.args.parent; code = c.args.code; count = c.args.count; depth = c.args.depth; kind = c.kind_of.result; key = c.args.key; answer = None } in
    let n : Node g.row.A.Denot = record { parent = c.args.parent; code = c.args.code; count = c.args.count; depth = c.args.depth; seen = seen_in c.args.symbol.now; key = c.args.key; kids = []; answer = None } in
    subst (λ (t : Stock g.row.A.Denot). Journals t (stock_of t' p' q' ns) k (Some n) Missing 1 (list_room l) 0) c.self.view_is
    (record {
      nodes =
          node_put i.table.slots t'.slots params (map (run_list p'.pool) t'.param_runs) kids (map (run_list q'.pool) t'.kid_runs) k s c.params_of.result.now [] e.here e.others e.has_params.comes e.no_kids.comes
          ∙ ap (λ x. with_node (shown_nodes i.table.slots params kids) k (Some (node_of x [] s))) c.params_of.ensures.params
          ∙ ap (λ y. with_node (shown_nodes i.table.slots params kids) k (Some (record n { seen = y }))) c.kind_of.ensures;
      noted =
          ap (λ ns. changes_told ns (map (run_list p'.pool) p'.past) (map (run_list q'.pool) q'.past)) c.push_bare.ensures.pushed
          ∙ ap (λ x. changes_told (i.journal.notes ++ record { node = k; was = was.Missing } ∷ []) x (map (run_list q'.pool) q'.past)) pp
          ∙ ap (changes_told (i.journal.notes ++ record { node = k; was = was.Missing } ∷ []) past) qp
          ∙ told_plain i.journal.notes (record { node = k; was = was.Missing }) past past_kids c.self.invariant.stock.past_params_long c.self.invariant.stock.past_kids_long;
      notes = ap length c.push_bare.ensures.pushed ∙ length_push i.journal.notes _;
      live = e.live;
      capacity = e.capacity;
      note_room =
          let x = ap past_room e.has_params.rest in
          let y = ap past_room e.no_kids.rest in
          omega (arith, x, y, c.push_bare.ensures.room);
      param_room = subst (λ m. i.params.pool.spare ≤ p'.pool.spare + list_room m) c.params_of.ensures.params e.has_params.spare;
      kid_room = omega (arith, e.no_kids.spare, room_nil 0);
      hand = ap (λ (r : Shelf ℕ). r.hand) e.no_kids.rest;
      footings = λ j lives. e.footings j (λ same. gone (slot_at i.table.slots j) (row_at params j) (row_at kids j) (ap (slot_at i.table.slots) same ∙ e.vacant) lives);
    })
  where
    gone : {A : Type 0} (o : Option (Stored A)) (x : List ℤ) (y : List ℕ) → o ≡ None → IsSome (option_map (node_of x y) o) → ⊥
    gone None x y e lives = grind (arith, lives)
    gone (Some s) x y e lives = none-some s (sym e)

pub insert-number-requires-clause-capacity : goal.insert-number-requires-clause-capacity
insert-number-requires-clause-capacity g c = grind (arith, common_steps)

pub insert-number-requires-clause-numbers : goal.insert-number-requires-clause-numbers
insert-number-requires-clause-numbers g c = grind (arith, common_steps)

pub insert-number-requires-clause-room : goal.insert-number-requires-clause-room
insert-number-requires-clause-room g c = grind (arith, common_steps)

pub push_bare-requires-clause-place : goal.push_bare-requires-clause-place
push_bare-requires-clause-place g c = grind (arith, common_steps)
