use Rattle.std.proofs.Common.{◌≡◌, ◌≤◌, ◌++◌, ◌∷◌, [], ℤ, refl, sym, ap, ◌∙◌, subst, arith}
use Rattle.lsys_forest.specs.Shelves.{Hoard, shelf_of, IsOwner}
use Rattle.lsys_forest.specs.Slots.{SlotTable, slot_at}
use Rattle.lsys_forest.specs.Stocks.{Swaps}
use Rattle.lsys_forest.proofs.ShelfLemmas.{swap_done}
use Rattle.lsys_forest.proofs.runs.swap_params.Goals as goal

pub returns-clause-owned : goal.returns-clause-owned
returns-clause-owned g c =
    let h : Hoard ℤ = c.args.lists.now in
    let t = c.args.table.now in
    let u = c.swap_params-before.new.self in
    let run = c.place-run.result in
    let before = c.swap_params-before.result in
    let new : Hoard ℤ = record h { pool = c.place-run.new.self.pool; past = h.past ++ before ∷ []; past_places = c.push.new.self.past_places } in
    let is : c.push.new.self ≡ new = c.push.ensures.pushed ∙ ap (λ (x : Hoard ℤ). record x { past = x.past ++ before ∷ []; past_places = c.push.new.self.past_places }) c.place-run.ensures.kept in
    let places : h.past_places ≤ c.push.new.self.past_places = let same = ap (λ (x : Hoard ℤ). x.past_places) c.place-run.ensures.kept in omega (arith, same, c.push.ensures.places) in
    let done = swap_done h new (slot_at t.slots c.args.node) t.param_runs u.param_runs run before c.args.list.now c.args.node c.requires.lives c.place-run.ensures.placed c.swap_params-before.ensures.before c.swap_params-before.ensures.here (ap (λ (x : SlotTable g.row.A.Denot). x.param_runs) c.swap_params-before.ensures.changed) refl refl c.place-run.ensures.spare places c.requires.owned in
    subst (λ (x : Hoard ℤ). IsOwner x u.param_runs) (sym is) done.0

pub returns-clause-swapped : goal.returns-clause-swapped
returns-clause-swapped g c =
    let h : Hoard ℤ = c.args.lists.now in
    let t = c.args.table.now in
    let u = c.swap_params-before.new.self in
    let run = c.place-run.result in
    let before = c.swap_params-before.result in
    let new : Hoard ℤ = record h { pool = c.place-run.new.self.pool; past = h.past ++ before ∷ []; past_places = c.push.new.self.past_places } in
    let is : c.push.new.self ≡ new = c.push.ensures.pushed ∙ ap (λ (x : Hoard ℤ). record x { past = x.past ++ before ∷ []; past_places = c.push.new.self.past_places }) c.place-run.ensures.kept in
    let places : h.past_places ≤ c.push.new.self.past_places = let same = ap (λ (x : Hoard ℤ). x.past_places) c.place-run.ensures.kept in omega (arith, same, c.push.ensures.places) in
    let done = swap_done h new (slot_at t.slots c.args.node) t.param_runs u.param_runs run before c.args.list.now c.args.node c.requires.lives c.place-run.ensures.placed c.swap_params-before.ensures.before c.swap_params-before.ensures.here (ap (λ (x : SlotTable g.row.A.Denot). x.param_runs) c.swap_params-before.ensures.changed) refl refl c.place-run.ensures.spare places c.requires.owned in
    subst (λ (x : Hoard ℤ). Swaps c.args.node c.args.list.now (shelf_of h t.param_runs) (shelf_of x u.param_runs)) (sym is) done.1
