use Rattle.std.proofs.Common.{arith, ap, ◌∙◌}
use Rattle.std.proofs.lemmas.Grind.{elements}
use Rattle.lsys_children.specs.Matches.{Matched}
use Rattle.lsys_children.proofs.brood.Brood.change.Goals as goal

pub renew_all-requires-clause-matched : goal.renew_all-requires-clause-matched
renew_all-requires-clause-matched g c = λ n is.
    let matched = c.self.view_is ∙ c.in_ok-find.ensures.matched n is in
    record {
      found = c.deref.ensures.value ∙ ap (λ (x : Matched). x.found) matched;
      left = c.deref-2.ensures.value ∙ ap (λ (x : Matched). x.gone) matched;
    }

pub renew_all-requires-clause-sound : goal.renew_all-requires-clause-sound
renew_all-requires-clause-sound g c = grind (arith, elements)
