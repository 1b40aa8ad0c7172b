use Rattle.std.proofs.Common.{[], ℕ, ℤ, refl, sym, subst}
use Rattle.lsys_forest.specs.Shelves.{Hoard, shelf_of, IsOwner}
use Rattle.lsys_forest.specs.Stocks.{Inserts}
use Rattle.lsys_forest.proofs.ShelfLemmas.{room_nil, add_done}
use Rattle.lsys_forest.proofs.runs.insert.Goals as goal

pub place-requires-2 : goal.place-requires-2
place-requires-2 g c = room_nil _

pub returns-clause-params : goal.returns-clause-params
returns-clause-params g c =
    let h : Hoard ℤ = c.args.params.now in
    let t = c.args.table.now in
    let u = c.insert.new.self in
    let new : Hoard ℤ = record h { pool = c.place.new.self.pool } in
    let done = add_done h new t.param_runs u.param_runs c.place.result c.args.list.now c.insert.result c.insert.ensures.none c.insert.ensures.put.params c.insert.ensures.put.other_params c.place.ensures.placed refl refl c.place.ensures.spare refl c.requires.params in
    subst (λ (x : Hoard ℤ). IsOwner x u.param_runs) (sym c.place.ensures.kept) done.0

pub returns-clause-kids : goal.returns-clause-kids
returns-clause-kids g c =
    let h : Hoard ℕ = c.args.kids.now in
    let t = c.args.table.now in
    let u = c.insert.new.self in
    let new : Hoard ℕ = record h { pool = c.place-2.new.self.pool } in
    let done = add_done h new t.kid_runs u.kid_runs c.place-2.result [] c.insert.result c.insert.ensures.no_kids c.insert.ensures.put.kids c.insert.ensures.put.other_kids c.place-2.ensures.placed refl refl c.place-2.ensures.spare refl c.requires.kids in
    subst (λ (x : Hoard ℕ). IsOwner x u.kid_runs) (sym c.place-2.ensures.kept) done.0

pub returns-clause-has_params : goal.returns-clause-has_params
returns-clause-has_params g c =
    let h : Hoard ℤ = c.args.params.now in
    let t = c.args.table.now in
    let u = c.insert.new.self in
    let new : Hoard ℤ = record h { pool = c.place.new.self.pool } in
    let done = add_done h new t.param_runs u.param_runs c.place.result c.args.list.now c.insert.result c.insert.ensures.none c.insert.ensures.put.params c.insert.ensures.put.other_params c.place.ensures.placed refl refl c.place.ensures.spare refl c.requires.params in
    subst (λ (x : Hoard ℤ). Inserts c.insert.result c.args.list.now (shelf_of h t.param_runs) (shelf_of x u.param_runs)) (sym c.place.ensures.kept) done.1

pub returns-clause-no_kids : goal.returns-clause-no_kids
returns-clause-no_kids g c =
    let h : Hoard ℕ = c.args.kids.now in
    let t = c.args.table.now in
    let u = c.insert.new.self in
    let new : Hoard ℕ = record h { pool = c.place-2.new.self.pool } in
    let done = add_done h new t.kid_runs u.kid_runs c.place-2.result [] c.insert.result c.insert.ensures.no_kids c.insert.ensures.put.kids c.insert.ensures.put.other_kids c.place-2.ensures.placed refl refl c.place-2.ensures.spare refl c.requires.kids in
    subst (λ (x : Hoard ℕ). Inserts c.insert.result [] (shelf_of h t.kid_runs) (shelf_of x u.kid_runs)) (sym c.place-2.ensures.kept) done.1
