use Rattle.std.proofs.Common.{arith, ℕ, ℤ, List, length, map, refl, sym, ap, ap₂, ◌∙◌, subst}
use Rattle.std.proofs.lemmas.Grind.{common_steps}
use Rattle.lsys_forest.specs.Shelves.{run_list}
use Rattle.lsys_forest.specs.Stocks.{Stock, nodes_of, stock_of, IsStock, KeepsRoom}
use Rattle.lsys_forest.proofs.ShelfLemmas.{reserve_done}
use Rattle.lsys_forest.proofs.StockLemmas.{shown_nodes}
use Rattle.lsys_forest.proofs.stock.Parts.reserve.Goals as goal

pub invariant_of-self-in_err-reserve-2 : goal.invariant_of-self-in_err-reserve-2
invariant_of-self-in_err-reserve-2 g c =
    let i = c.self.inside in
    let p = reserve_done i.params c.reserve-2.new.self i.table.param_runs c.reserve-2.ensures.kept c.reserve-2.ensures.pool c.self.invariant.params in
    let stock = subst (λ ns. IsStock ns (map (run_list i.params.pool) i.params.past) (map (run_list i.kids.pool) i.kids.past)) (sym c.reserve.ensures.notes) c.self.invariant.stock in
    record {
      params = p.owned;
      kids = c.self.invariant.kids;
      stock = subst (λ (x : List (List ℤ)). IsStock c.reserve.new.self.notes x (map (run_list i.kids.pool) i.kids.past)) (sym p.after) stock;
    }

pub invariant_of-self-2 : goal.invariant_of-self-2
invariant_of-self-2 g c =
    let i = c.self.inside in
    let p = reserve_done i.params c.reserve-2.new.self i.table.param_runs c.reserve-2.ensures.kept c.reserve-2.ensures.pool c.self.invariant.params in
    let q = reserve_done i.kids c.reserve-3.new.self i.table.kid_runs c.reserve-3.ensures.kept c.reserve-3.ensures.pool c.self.invariant.kids in
    let stock = subst (λ ns. IsStock ns (map (run_list i.params.pool) i.params.past) (map (run_list i.kids.pool) i.kids.past)) (sym c.reserve.ensures.notes) c.self.invariant.stock in
    record {
      params = p.owned;
      kids = q.owned;
      stock = subst (λ (y : List (List ℕ)). IsStock c.reserve.new.self.notes (map (run_list c.reserve-2.new.self.pool) c.reserve-2.new.self.past) y) (sym q.after) (subst (λ (x : List (List ℤ)). IsStock c.reserve.new.self.notes x (map (run_list i.kids.pool) i.kids.past)) (sym p.after) stock);
    }

pub returns-clause-nodes : goal.returns-clause-nodes
returns-clause-nodes g c =
    let i = c.self.inside in
    let p = reserve_done i.params c.reserve-2.new.self i.table.param_runs c.reserve-2.ensures.kept c.reserve-2.ensures.pool c.self.invariant.params in
    let q = reserve_done i.kids c.reserve-3.new.self i.table.kid_runs c.reserve-3.ensures.kept c.reserve-3.ensures.pool c.self.invariant.kids in
    ap₂ (λ (x : List (List ℤ)) (y : List (List ℕ)). shown_nodes i.table.slots x y) p.current q.current ∙ ap nodes_of c.self.view_is

pub invariant_of-self : goal.invariant_of-self
invariant_of-self g c = grind (arith, common_steps)

pub returns-in_err-reserve-clause-live : goal.returns-in_err-reserve-clause-live
returns-in_err-reserve-clause-live g c = grind (arith, common_steps)

pub returns-in_err-reserve-clause-keeps : goal.returns-in_err-reserve-clause-keeps
returns-in_err-reserve-clause-keeps g c = grind (arith, common_steps)

pub returns-in_err-reserve-2-clause-live : goal.returns-in_err-reserve-2-clause-live
returns-in_err-reserve-2-clause-live g c = grind (arith, common_steps)

pub returns-clause-notes : goal.returns-clause-notes
returns-clause-notes g c = grind (arith, common_steps)

pub returns-clause-live : goal.returns-clause-live
returns-clause-live g c = grind (arith, common_steps)

pub returns-in_err-reserve-2-clause-nodes : goal.returns-in_err-reserve-2-clause-nodes
returns-in_err-reserve-2-clause-nodes g c =
    let i = c.self.inside in
    let p = reserve_done i.params c.reserve-2.new.self i.table.param_runs c.reserve-2.ensures.kept c.reserve-2.ensures.pool c.self.invariant.params in
    ap (λ (x : List (List ℤ)). shown_nodes i.table.slots x (map (run_list i.kids.pool) i.table.kid_runs)) p.current ∙ ap nodes_of c.self.view_is

pub returns-in_err-reserve-2-clause-keeps : goal.returns-in_err-reserve-2-clause-keeps
returns-in_err-reserve-2-clause-keeps g c =
    let i = c.self.inside in
    let p = reserve_done i.params c.reserve-2.new.self i.table.param_runs c.reserve-2.ensures.kept c.reserve-2.ensures.pool c.self.invariant.params in
    subst (λ (t : Stock g.row.A.Denot). KeepsRoom t (stock_of i.table c.reserve-2.new.self i.kids c.reserve.new.self)) c.self.view_is (record {
      capacity = refl;
      note_room = let l = ap length p.after in omega (arith, l, c.reserve.ensures.more_room, c.reserve-2.ensures.more_places);
      param_room = c.reserve-2.ensures.more_spare;
      kid_room = omega arith;
    })

pub returns-clause-keeps : goal.returns-clause-keeps
returns-clause-keeps g c =
    let i = c.self.inside in
    let p = reserve_done i.params c.reserve-2.new.self i.table.param_runs c.reserve-2.ensures.kept c.reserve-2.ensures.pool c.self.invariant.params in
    let q = reserve_done i.kids c.reserve-3.new.self i.table.kid_runs c.reserve-3.ensures.kept c.reserve-3.ensures.pool c.self.invariant.kids in
    subst (λ (t : Stock g.row.A.Denot). KeepsRoom t (stock_of i.table c.reserve-2.new.self c.reserve-3.new.self c.reserve.new.self)) c.self.view_is (record {
      capacity = refl;
      note_room = let l = ap length p.after in let m = ap length q.after in omega (arith, l, m, c.reserve.ensures.more_room, c.reserve-2.ensures.more_places, c.reserve-3.ensures.more_places);
      param_room = c.reserve-2.ensures.more_spare;
      kid_room = c.reserve-3.ensures.more_spare;
    })
