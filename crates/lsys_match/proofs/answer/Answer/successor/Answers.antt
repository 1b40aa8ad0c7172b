use Rattle.std.proofs.Common.{rules, ◌≡◌, None, refl, subst}
use Rattle.lsys_match.specs.Constants.{constant_chosen, symbols_by}
use Rattle.lsys_match.specs.Kept.{Kept}
use Rattle.lsys_match.proofs.Constants.{has_own}
use Rattle.lsys_match.proofs.answer.Answer.successor.Goals as goal

pub returns-in-None : goal.returns-in-None
returns-in-None g c =
    let e : c.args.self.now.successor ≡ symbols_by c.args.self.now.bodies c.args.self.now.chosen c.self.inside.symbols =
    subst (λ (a : Kept). a.successor ≡ symbols_by a.bodies a.chosen c.self.inside.symbols) c.self.view_is refl in
    let none : constant_chosen c.args.self.now.bodies c.args.self.now.chosen ≡ None = search rules in
    has_own c.args.self.now c.self.inside.symbols e none
