use Rattle.std.proofs.Common.{◌≡◌, ℤ, refl, sym, ap, ◌∙◌, subst}
use Rattle.lsys_region.specs.Pool.{Pool, IsLiveRun}
use Rattle.lsys_forest.specs.Shelves.{Hoard, shelf_of, IsOwner, IsFreed}
use Rattle.lsys_forest.specs.Slots.{SlotTable, slot_at}
use Rattle.lsys_forest.specs.Stocks.{Restores}
use Rattle.lsys_forest.proofs.ShelfLemmas.{restore_live, restore_done}
use Rattle.lsys_forest.proofs.runs.restore_params.Goals as goal

pub free-requires : goal.free-requires
free-requires g c =
    let h : Hoard ℤ = c.args.lists.now in
    let t = c.args.table.now in
    let u = c.swap_params-displaced.new.self in
    let there = slot_at t.slots c.args.node in
    let run = c.in-Some.run' in
    let before = c.swap_params-displaced.result in
    let changed = ap (λ (x : SlotTable g.row.A.Denot). x.param_runs) c.swap_params-displaced.ensures.changed in
    let pool = ap (λ (x : Hoard ℤ). x.pool) c.pop.ensures.popped in
    subst (λ (x : Pool ℤ). IsLiveRun x before) (sym pool) (restore_live h c.pop.new.self there t.param_runs u.param_runs run before c.args.node c.swap_params-displaced.ensures.before c.swap_params-displaced.ensures.here changed c.in-Some.ensures.some c.requires.owned)

pub returns-in-Some-clause-owned : goal.returns-in-Some-clause-owned
returns-in-Some-clause-owned g c =
    let h : Hoard ℤ = c.args.lists.now in
    let t = c.args.table.now in
    let u = c.swap_params-displaced.new.self in
    let there = slot_at t.slots c.args.node in
    let run = c.in-Some.run' in
    let before = c.swap_params-displaced.result in
    let changed = ap (λ (x : SlotTable g.row.A.Denot). x.param_runs) c.swap_params-displaced.ensures.changed in
    let pool = ap (λ (x : Hoard ℤ). x.pool) c.pop.ensures.popped in
    let new : Hoard ℤ = record h { pool = c.free.new.self.pool; past = c.pop.new.self.past } in
    let is : c.free.new.self ≡ new = c.free.ensures.kept ∙ ap (λ (x : Hoard ℤ). record x { pool = c.free.new.self.pool }) c.pop.ensures.popped in
    let free = subst (λ (x : Pool ℤ). IsFreed x c.free.new.self.pool before) pool c.free.ensures.freed in
    let done = restore_done h new there t.param_runs u.param_runs run before c.args.node c.swap_params-displaced.ensures.before c.swap_params-displaced.ensures.here changed c.in-Some.ensures.some refl free (c.free.ensures.spare ∙ ap (λ (x : Pool ℤ). x.spare) pool) refl c.requires.owned in
    subst (λ (x : Hoard ℤ). IsOwner x u.param_runs) (sym is) done.0

pub returns-in-Some-clause-restored : goal.returns-in-Some-clause-restored
returns-in-Some-clause-restored g c =
    let h : Hoard ℤ = c.args.lists.now in
    let t = c.args.table.now in
    let u = c.swap_params-displaced.new.self in
    let there = slot_at t.slots c.args.node in
    let run = c.in-Some.run' in
    let before = c.swap_params-displaced.result in
    let changed = ap (λ (x : SlotTable g.row.A.Denot). x.param_runs) c.swap_params-displaced.ensures.changed in
    let pool = ap (λ (x : Hoard ℤ). x.pool) c.pop.ensures.popped in
    let new : Hoard ℤ = record h { pool = c.free.new.self.pool; past = c.pop.new.self.past } in
    let is : c.free.new.self ≡ new = c.free.ensures.kept ∙ ap (λ (x : Hoard ℤ). record x { pool = c.free.new.self.pool }) c.pop.ensures.popped in
    let free = subst (λ (x : Pool ℤ). IsFreed x c.free.new.self.pool before) pool c.free.ensures.freed in
    let done = restore_done h new there t.param_runs u.param_runs run before c.args.node c.swap_params-displaced.ensures.before c.swap_params-displaced.ensures.here changed c.in-Some.ensures.some refl free (c.free.ensures.spare ∙ ap (λ (x : Pool ℤ). x.spare) pool) refl c.requires.owned in
    subst (λ (x : Hoard ℤ). Restores there c.args.node (shelf_of h t.param_runs) (shelf_of x u.param_runs)) (sym is) done.1

pub returns-in_default-clause-owned : goal.returns-in_default-clause-owned
returns-in_default-clause-owned g c = subst (λ (x : Hoard ℤ). IsOwner x c.args.table.now.param_runs) (sym c.in_default.ensures.none.1) c.requires.owned
