use Rattle.std.proofs.Common.{arith}
use Rattle.std.proofs.lemmas.Grind.{common_steps}
use Rattle.lsys_flat.specs.Lookups.{ArePlacesOf}
use Rattle.lsys_flat.proofs.Lookups.{looked_up}
use Rattle.lsys_flat.proofs.places.Places.look_up.Goals as goal
use Rattle.lsys_flat.proofs.places.Places.look_up.Goals.{then-is_empty+in_ok-self, else-is_empty}

pub returns-clause-found : goal.returns-clause-found
returns-clause-found c =
    let all : ArePlacesOf c.args.old.now c.if-is_empty.self.sorted.items = elim c.if-is_empty.branch [
      | then-is_empty+in_ok-self w ↦ rw w.self-is w.in_ok-self.ensures
      | else-is_empty w ↦ rw w.self-is (c.requires.sorted (grind (arith, common_steps, w.if-is_empty.ensures)))
    ] in
    looked_up c.args.old.now c.if-is_empty.self.sorted.items c.args.wanted c.search.result all (rw c.as_slice.ensures.value at c.search.ensures.found) (rw c.as_slice.ensures.value at c.search.ensures.none)
