use Rattle.std.proofs.Common.{[], refl, sym, subst, arith}
use Rattle.std.specs.Prelude.{vec_capacity}
use Rattle.lsys_region.specs.Pool.{IsLiveRun}
use Rattle.lsys_forest.specs.Shelves.{Hoard, shelf_of, IsOwner, IsListPlaced, IsFreed}
use Rattle.lsys_forest.specs.Stocks.{PutsDown}
use Rattle.lsys_forest.proofs.ShelfLemmas.{room_nil, put_down_live, put_down_done}
use Rattle.lsys_forest.proofs.lists.Lists.put_down.Goals as goal

pub place-run-requires : goal.place-run-requires
place-run-requires g c = room_nil _

pub free-requires : goal.free-requires
free-requires g c =
    let i = c.self.inside in
    let h : Hoard g.row.T.Denot = record { pool = i.region; past = i.past.items; hand = i.hand; past_places = vec_capacity i.past } in
    let owned = subst (λ (x : Hoard g.row.T.Denot). IsOwner x c.requires.owned.0) (sym c.self.view_is) c.requires.owned.1 in
    let put : IsListPlaced i.region c.place-run.new.self c.place-run.result [] = record { placed = c.place-run.ensures.placed; fresh = c.place-run.ensures.fresh; others = c.place-run.ensures.others } in
    subst (IsLiveRun c.place-run.new.self) (sym c.replace-before.ensures.value) (put_down_live h h c.place-run.new.self c.requires.owned.0 c.place-run.result put owned)

pub returns-clause-owned : goal.returns-clause-owned
returns-clause-owned g c = λ now is.
    let i = c.self.inside in
    let h : Hoard g.row.T.Denot = record { pool = i.region; past = i.past.items; hand = i.hand; past_places = vec_capacity i.past } in
    let new : Hoard g.row.T.Denot = record { pool = c.free.new.self; past = i.past.items; hand = c.replace-before.new.dest; past_places = vec_capacity i.past } in
    let owned = subst (λ (x : Hoard g.row.T.Denot). IsOwner x now) (sym c.self.view_is) is in
    let put : IsListPlaced i.region c.place-run.new.self c.place-run.result [] = record { placed = c.place-run.ensures.placed; fresh = c.place-run.ensures.fresh; others = c.place-run.ensures.others } in
    let free : IsFreed c.place-run.new.self c.free.new.self i.hand = subst (λ r. IsFreed c.place-run.new.self c.free.new.self r) c.replace-before.ensures.value (record { gone = c.free.ensures.gone; others = c.free.ensures.others }) in
    let done = put_down_done h new c.place-run.new.self now c.place-run.result put free refl c.replace-before.ensures.after (omega (arith, c.place-run.ensures.spare, room_nil 0, c.free.ensures.spare)) refl owned in
    done.0

pub returns-clause-put : goal.returns-clause-put
returns-clause-put g c = λ now is.
    let i = c.self.inside in
    let h : Hoard g.row.T.Denot = record { pool = i.region; past = i.past.items; hand = i.hand; past_places = vec_capacity i.past } in
    let new : Hoard g.row.T.Denot = record { pool = c.free.new.self; past = i.past.items; hand = c.replace-before.new.dest; past_places = vec_capacity i.past } in
    let owned = subst (λ (x : Hoard g.row.T.Denot). IsOwner x now) (sym c.self.view_is) is in
    let put : IsListPlaced i.region c.place-run.new.self c.place-run.result [] = record { placed = c.place-run.ensures.placed; fresh = c.place-run.ensures.fresh; others = c.place-run.ensures.others } in
    let free : IsFreed c.place-run.new.self c.free.new.self i.hand = subst (λ r. IsFreed c.place-run.new.self c.free.new.self r) c.replace-before.ensures.value (record { gone = c.free.ensures.gone; others = c.free.ensures.others }) in
    let done = put_down_done h new c.place-run.new.self now c.place-run.result put free refl c.replace-before.ensures.after (omega (arith, c.place-run.ensures.spare, room_nil 0, c.free.ensures.spare)) refl owned in
    subst (λ (x : Hoard g.row.T.Denot). PutsDown (shelf_of x now) (shelf_of new now)) c.self.view_is done.1
