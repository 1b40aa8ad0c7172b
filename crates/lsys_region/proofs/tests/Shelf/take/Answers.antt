use Rattle.std.proofs.Common.{◌<◌, ℕ, List, Option, length, map, ap, ◌∙◌, refl}
use Rattle.std.specs.Option.{option_map}
use Rattle.std.proofs.lemmas.Option.{slice_get-map, slice_get_read}
use Rattle.lsys_region.specs.declared.tests.KeptList.{KeptList}
use Rattle.lsys_region.proofs.HeldLemmas.{AreHeld-live, AreHeld-free, map-remove}
use Rattle.lsys_region.proofs.tests.Shelf.take.Goals as goal

pub free-requires : goal.free-requires
free-requires c =
    let view : KeptList → Option ℕ × List ℕ = λ k. (k.run, k.list.items) in
    let within : c.args.at < length c.self.inside.kept.items = rw c.self.view_is c.requires in
    let here = slice_get-map view c.self.inside.kept.items c.args.at ∙ ap (option_map view) (slice_get_read c.self.inside.kept.items _ c.args.at c.remove-run.result refl within c.remove-run.ensures.value) in
    AreHeld-live c.self.inside.region _ c.args.at c.remove-run.result.run c.remove-run.result.list.items c.self.invariant here

pub invariant_of-self : goal.invariant_of-self
invariant_of-self c =
    let view : KeptList → Option ℕ × List ℕ = λ k. (k.run, k.list.items) in
    let within : c.args.at < length c.self.inside.kept.items = rw c.self.view_is c.requires in
    let here = slice_get-map view c.self.inside.kept.items c.args.at ∙ ap (option_map view) (slice_get_read c.self.inside.kept.items _ c.args.at c.remove-run.result refl within c.remove-run.ensures.value) in
    let freed = AreHeld-free c.self.inside.region c.free.new.self (map view c.self.inside.kept.items) c.args.at c.remove-run.result.run c.remove-run.result.list.items here c.free.ensures.others c.self.invariant in
    rw (c.remove-run.ensures.items, map-remove) freed
