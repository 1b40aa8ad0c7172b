use Rattle.std.proofs.Common.{◌+◌, ◌-◌, length, take, drop, Some, sym, ap, ◌∙◌, arith}
use Rattle.lsys_region.proofs.PoolLemmas.{live_taken, list_of-taken, places_within}
use Rattle.lsys_region.proofs.Region.read.Goals as goal

pub span-span-requires : goal.span-span-requires
span-span-requires g c = live_taken c.self.inside.cells.items c.self.view_is (sym c.run.view_is ∙ sym c.in-Some.ensures.same) c.requires

pub overflow_add-result : goal.overflow_add-result
overflow_add-result g c =
    let within = places_within c.self.invariant.lie c.span-span.ensures in
    omega arith

pub offset_bounds-deref-span : goal.offset_bounds-deref-span
offset_bounds-deref-span g c =
    let within = places_within c.self.invariant.lie c.span-span.ensures in
    let all = ap length c.deref.ensures.value in
    omega arith

pub slice_bounds-result-end : goal.slice_bounds-result-end
slice_bounds-result-end g c =
    let within = places_within c.self.invariant.lie c.span-span.ensures in
    let all = ap length c.deref.ensures.value in
    omega arith

pub returns-in-Some : goal.returns-in-Some
returns-in-Some g c =
    let span = c.span-span.result in
    list_of-taken c.self.inside.cells.items c.self.view_is (sym c.run.view_is ∙ sym c.in-Some.ensures.same) c.span-span.ensures
    ∙ ap (λ all. Some (take (span.start + span.len - span.start) (drop span.start all))) (sym c.deref.ensures.value)
