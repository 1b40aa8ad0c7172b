use Rattle.std.proofs.Common.{arith, ℕ, ℤ, refl, sym, ap, subst}
use Rattle.std.proofs.lemmas.Grind.{common_steps}
use Rattle.lsys_forest.specs.Shelves.{Hoard, shelf_of, IsOwner}
use Rattle.lsys_forest.specs.Slots.{SlotTable}
use Rattle.lsys_forest.specs.Stocks.{Clears}
use Rattle.lsys_forest.proofs.ShelfLemmas.{clear_live, clear_done}
use Rattle.lsys_forest.proofs.runs.clear.Goals as goal

pub free-requires : goal.free-requires
free-requires g c = clear_live c.args.params.now c.args.params.now c.args.table.now.param_runs c.in-Some.entry.params c.args.node c.in-Some.ensures.was.params c.requires.params

pub free-requires-in-Some : goal.free-requires-in-Some
free-requires-in-Some g c = clear_live c.args.kids.now c.args.kids.now c.args.table.now.kid_runs c.in-Some.entry.kids c.args.node c.in-Some.ensures.was.kids c.requires.kids

pub returns-in-Some-clause-params : goal.returns-in-Some-clause-params
returns-in-Some-clause-params g c =
    let h : Hoard ℤ = c.args.params.now in
    let t = c.args.table.now in
    let u = c.remove.new.self in
    let new : Hoard ℤ = record h { pool = c.free.new.self.pool } in
    let done = clear_done h new t.param_runs u.param_runs c.in-Some.entry.params c.args.node c.in-Some.ensures.was.params (ap (λ (x : SlotTable g.row.A.Denot). x.param_runs) c.remove.ensures.gone) c.free.ensures.freed refl refl c.free.ensures.spare refl c.requires.params in
    subst (λ (x : Hoard ℤ). IsOwner x u.param_runs) (sym c.free.ensures.kept) done.0

pub returns-in-Some-clause-kids : goal.returns-in-Some-clause-kids
returns-in-Some-clause-kids g c =
    let h : Hoard ℕ = c.args.kids.now in
    let t = c.args.table.now in
    let u = c.remove.new.self in
    let new : Hoard ℕ = record h { pool = c.free-in-Some.new.self.pool } in
    let done = clear_done h new t.kid_runs u.kid_runs c.in-Some.entry.kids c.args.node c.in-Some.ensures.was.kids (ap (λ (x : SlotTable g.row.A.Denot). x.kid_runs) c.remove.ensures.gone) c.free-in-Some.ensures.freed refl refl c.free-in-Some.ensures.spare refl c.requires.kids in
    subst (λ (x : Hoard ℕ). IsOwner x u.kid_runs) (sym c.free-in-Some.ensures.kept) done.0

pub returns-in-Some-clause-no_params : goal.returns-in-Some-clause-no_params
returns-in-Some-clause-no_params g c =
    let h : Hoard ℤ = c.args.params.now in
    let t = c.args.table.now in
    let u = c.remove.new.self in
    let new : Hoard ℤ = record h { pool = c.free.new.self.pool } in
    let done = clear_done h new t.param_runs u.param_runs c.in-Some.entry.params c.args.node c.in-Some.ensures.was.params (ap (λ (x : SlotTable g.row.A.Denot). x.param_runs) c.remove.ensures.gone) c.free.ensures.freed refl refl c.free.ensures.spare refl c.requires.params in
    subst (λ (x : Hoard ℤ). Clears c.args.node (shelf_of h t.param_runs) (shelf_of x u.param_runs)) (sym c.free.ensures.kept) done.1

pub returns-in-Some-clause-no_kids : goal.returns-in-Some-clause-no_kids
returns-in-Some-clause-no_kids g c =
    let h : Hoard ℕ = c.args.kids.now in
    let t = c.args.table.now in
    let u = c.remove.new.self in
    let new : Hoard ℕ = record h { pool = c.free-in-Some.new.self.pool } in
    let done = clear_done h new t.kid_runs u.kid_runs c.in-Some.entry.kids c.args.node c.in-Some.ensures.was.kids (ap (λ (x : SlotTable g.row.A.Denot). x.kid_runs) c.remove.ensures.gone) c.free-in-Some.ensures.freed refl refl c.free-in-Some.ensures.spare refl c.requires.kids in
    subst (λ (x : Hoard ℕ). Clears c.args.node (shelf_of h t.kid_runs) (shelf_of x u.kid_runs)) (sym c.free-in-Some.ensures.kept) done.1

pub returns-in_default-clause-params : goal.returns-in_default-clause-params
returns-in_default-clause-params g c = grind (arith, common_steps)

pub returns-in_default-clause-kids : goal.returns-in_default-clause-kids
returns-in_default-clause-kids g c = grind (arith, common_steps)

pub returns-in_default-clause-no_params : goal.returns-in_default-clause-no_params
returns-in_default-clause-no_params g c = grind (arith, common_steps)

pub returns-in_default-clause-no_kids : goal.returns-in_default-clause-no_kids
returns-in_default-clause-no_kids g c = grind (arith, common_steps)
