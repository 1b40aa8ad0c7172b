use Rattle.std.proofs.Common.{refl, sym, subst}
use Rattle.std.specs.Prelude.{vec_capacity}
use Rattle.lsys_region.specs.Pool.{IsLiveRun}
use Rattle.lsys_forest.specs.Shelves.{Hoard, Hand, shelf_of, IsOwner, IsFreed}
use Rattle.lsys_forest.specs.Stocks.{TakesLastUp}
use Rattle.lsys_forest.proofs.ShelfLemmas.{take_up_done}
use Rattle.lsys_forest.proofs.lists.Lists.take_up.Goals as goal

pub free-requires : goal.free-requires
free-requires g c =
    let i = c.self.inside in
    let owned = subst (λ (x : Hoard g.row.T.Denot). IsOwner x c.requires.owned.0) (sym c.self.view_is) c.requires.owned.1 in
    subst (IsLiveRun i.region) (sym c.replace-before.ensures.value) (owned.live Hand i.hand refl)

pub returns-in-Some-clause-owned : goal.returns-in-Some-clause-owned
returns-in-Some-clause-owned g c = λ now is.
    let i = c.self.inside in
    let h : Hoard g.row.T.Denot = record { pool = i.region; past = i.past.items; hand = i.hand; past_places = vec_capacity i.past } in
    let new : Hoard g.row.T.Denot = record { pool = c.free.new.self; past = c.pop.new.self.items; hand = c.replace-before.new.dest; past_places = vec_capacity c.pop.new.self } in
    let owned = subst (λ (x : Hoard g.row.T.Denot). IsOwner x now) (sym c.self.view_is) is in
    let free : IsFreed i.region c.free.new.self i.hand = subst (λ r. IsFreed i.region c.free.new.self r) c.replace-before.ensures.value (record { gone = c.free.ensures.gone; others = c.free.ensures.others }) in
    (take_up_done h new now c.in-Some.run' c.in-Some.ensures.items c.replace-before.ensures.after free c.free.ensures.spare c.in-Some.ensures.capacity owned).0

pub returns-in-Some-clause-taken : goal.returns-in-Some-clause-taken
returns-in-Some-clause-taken g c = λ now is.
    let i = c.self.inside in
    let h : Hoard g.row.T.Denot = record { pool = i.region; past = i.past.items; hand = i.hand; past_places = vec_capacity i.past } in
    let new : Hoard g.row.T.Denot = record { pool = c.free.new.self; past = c.pop.new.self.items; hand = c.replace-before.new.dest; past_places = vec_capacity c.pop.new.self } in
    let owned = subst (λ (x : Hoard g.row.T.Denot). IsOwner x now) (sym c.self.view_is) is in
    let free : IsFreed i.region c.free.new.self i.hand = subst (λ r. IsFreed i.region c.free.new.self r) c.replace-before.ensures.value (record { gone = c.free.ensures.gone; others = c.free.ensures.others }) in
    subst (λ (x : Hoard g.row.T.Denot). TakesLastUp (shelf_of x now) (shelf_of new now)) c.self.view_is
    (take_up_done h new now c.in-Some.run' c.in-Some.ensures.items c.replace-before.ensures.after free c.free.ensures.spare c.in-Some.ensures.capacity owned).1
