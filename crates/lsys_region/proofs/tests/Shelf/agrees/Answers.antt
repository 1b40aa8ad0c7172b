use Rattle.std.proofs.Common.{◌≡◌, ℕ, List, Option, Some, slice_get, ap, ◌∙◌, sym, refl}
use Rattle.std.specs.Option.{option_map}
use Rattle.std.proofs.lemmas.Option.{slice_get-map, slice_get_read}
use Rattle.lsys_region.specs.declared.tests.KeptList.{KeptList}
use Rattle.lsys_region.proofs.HeldLemmas.{AreHeld-live}
use Rattle.lsys_region.proofs.tests.Shelf.agrees.Goals as goal

pub read-requires : goal.read-requires
read-requires c =
    let view : KeptList → Option ℕ × List ℕ = λ k. (k.run, k.list.items) in
    let items = c.deref-kept-items.result.now in
    let there : slice_get items c.loop-kept.kept-index ≡ Some c.kept-item.result = slice_get_read items _ c.loop-kept.kept-index c.kept-item.result refl c.loop-kept-test.true c.kept-item.is in
    let stood : slice_get c.self.inside.kept.items c.loop-kept.kept-index ≡ Some c.kept-item.result = ap (λ (all : List KeptList). slice_get all c.loop-kept.kept-index) (sym c.deref-kept-items.ensures.value) ∙ there in
    let here = slice_get-map view c.self.inside.kept.items c.loop-kept.kept-index ∙ ap (option_map view) stood in
    AreHeld-live c.self.inside.region _ c.loop-kept.kept-index c.kept-item.result.run c.kept-item.result.list.items c.self.invariant here
