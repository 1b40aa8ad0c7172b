use Rattle.std.proofs.Common.{◌<◌, ℕ, refl, sym, subst}
use Rattle.std.specs.Prelude.{IsSome}
use Rattle.lsys_forest.specs.Groves.{Grove, IsLive}
use Rattle.lsys_forest.proofs.StockLemmas.{lives_stored}
use Rattle.lsys_forest.proofs.forest.Forest.numbers.Goals as goal

pub returns-clause-below : goal.returns-clause-below
returns-clause-below g c =
    let i = c.self.inside in
    subst (λ (f : Grove g.row.A.Denot). (k : ℕ) → IsLive f k → k < c.numbers.result) c.self.view_is
    (λ k lives. (let s = lives_stored i.parts.slots i.parts.params i.parts.kids k lives in c.numbers.ensures.below k (subst IsSome (sym s.1) refl)))
