use Rattle.std.proofs.Common.{◌≡◌, ◌≤◌, length, sym, ap, ◌∙◌, arith}
use Rattle.lsys_region.specs.Pool.{Pool}
use Rattle.lsys_region.specs.Parts.{Parts}
use Rattle.lsys_region.proofs.RoomLemmas.{room_bounds, room_fits}
use Rattle.lsys_region.proofs.PoolLemmas.{IsTaken-take, taken_within, IsPlaced-again, IsPlaced-new, IsSound-take, IsSound-push}
use Rattle.lsys_region.proofs.Region.place_some.Goals as goal

pub class_of-class-requires-clause-bounded : goal.class_of-class-requires-clause-bounded
class_of-class-requires-clause-bounded g c =
    let spare : c.self.inside.spare ≡ c.args.self.now.spare = ap (λ (p : Pool g.row.T.Denot). p.spare) c.self.view_is in
    room_bounds (length c.args.list.now) (omega arith)

pub take-requires-clause-len : goal.take-requires-clause-len
take-requires-clause-len g c =
    let spare : c.self.inside.spare ≡ c.args.self.now.spare = ap (λ (p : Pool g.row.T.Denot). p.spare) c.self.view_is in
    omega (arith, room_fits (length c.args.list.now), c.self.invariant.told)

pub span-requires : goal.span-requires
span-requires g c = IsTaken-take c.in-Some.ensures.taken

pub overwrite-requires : goal.overwrite-requires
overwrite-requires g c = taken_within c.self.invariant.lie c.in-Some.ensures.taken c.span.ensures (sym c.class_of-class.ensures ∙ c.class_of-class.result.power)

pub invariant_of-self : goal.invariant_of-self
invariant_of-self g c =
    IsSound-take c.self.invariant c.in-Some.ensures.taken (sym c.class_of-class.ensures ∙ c.class_of-class.result.power) c.overwrite.ensures.written.size (omega arith) c.in-Some.ensures.capacity c.in-Some.ensures.end c.in-Some.ensures.most

pub returns-in-Some : goal.returns-in-Some
returns-in-Some g c =
    let done = IsPlaced-again c.to.ensures c.self.view_is c.self.invariant.lie c.in-Some.ensures.taken c.span.ensures (sym c.class_of-class.ensures ∙ c.class_of-class.result.power) c.overwrite.ensures.written in
    record {
      placed = done.placed;
      fresh = done.fresh;
      others = done.others;
      spare = done.spare;
      reuses = done.reuses;
      grows = done.grows;
      other_rooms = done.other_rooms;
    }

pub append-requires-clause-fits : goal.append-requires-clause-fits
append-requires-clause-fits g c = omega (arith, room_fits (length c.args.list.now), c.class_of-class.ensures)

pub invariant_of-self-2 : goal.invariant_of-self-2
invariant_of-self-2 g c =
    let added = rw c.in_default.ensures.same at c.add-number.ensures.added in
    let capacity : c.self.inside.table.capacity ≤ c.take.new.self.capacity = c.in_default.ensures.capacity in
    let ended = rw c.in_default.ensures.same at c.add-number.ensures.end in
    let told = c.add-number.ensures.most ∙ ap (λ (t : Parts). t.most) c.in_default.ensures.same in
    IsSound-push _ _ _ _ c.self.view_is c.self.invariant added ended c.append.ensures.appended c.class_of-class.result.power c.class_of-class.ensures c.requires.room c.append.ensures.capacity (omega (arith, c.add-number.ensures.capacity)) told

pub returns : goal.returns
returns g c =
    let added = rw c.in_default.ensures.same at c.add-number.ensures.added in
    let done = IsPlaced-new c.to-2.ensures c.self.view_is c.self.invariant.lie c.in_default.ensures.none c.self.invariant.ends added c.append.ensures.appended c.class_of-class.result.power c.class_of-class.ensures c.requires.room in
    record {
      placed = done.placed;
      fresh = done.fresh;
      others = done.others;
      spare = done.spare;
      reuses = done.reuses;
      grows = done.grows;
      other_rooms = done.other_rooms;
    }
