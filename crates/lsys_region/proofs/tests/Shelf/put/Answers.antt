use Rattle.std.proofs.Common.{◌≡◌, List, [], ◌∷◌, ◌++◌, map, ap, ◌∙◌}
use Rattle.std.proofs.lemmas.List.{map_push}
use Rattle.lsys_region.specs.declared.tests.KeptList.{KeptList}
use Rattle.lsys_region.proofs.HeldLemmas.{AreHeld-slots, AreHeld-place}
use Rattle.lsys_region.proofs.tests.Shelf.put.Goals as goal

pub invariant_of-self-2 : goal.invariant_of-self-2
invariant_of-self-2 c =
    let items : c.push.new.self.items ≡ c.self.inside.kept.items ++ record { run = c.place-run.result; list = c.in_ok-copy.copy } ∷ [] =
    c.in-Ok.ensures.items ∙ ap (λ (all : List KeptList). all ++ record { run = c.place-run.result; list = c.in_ok-copy.copy } ∷ []) c.in_ok-reserve.ensures.items in
    let slots = ap (λ p. p.slots) c.in_ok-reserve-2.ensures.runs in
    let placed = AreHeld-place c.reserve-2.new.self c.place-run.new.self (map (λ (k : KeptList). (k.run, k.list.items)) c.self.inside.kept.items) c.place-run.result c.args.list.now c.place-run.ensures.placed c.place-run.ensures.fresh c.place-run.ensures.others (AreHeld-slots c.self.inside.region c.reserve-2.new.self _ slots c.self.invariant) in
    rw (items, map_push, c.in_ok-copy.ensures.items) placed
