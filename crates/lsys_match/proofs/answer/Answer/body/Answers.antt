use Rattle.std.proofs.Common.{rules, ◌≡◌, subst}
use Rattle.std.specs.Prelude.{IfSome, option_map}
use Rattle.lsys_match.specs.Constants.{MayBecome, body_chosen}
use Rattle.lsys_match.specs.Groups.{bodies_of}
use Rattle.lsys_match.specs.Kept.{Kept}
use Rattle.lsys_match.proofs.Constants.{lends}
use Rattle.lsys_match.proofs.answer.Answer.body.Goals as goal

pub returns-clause-replaces : goal.returns-clause-replaces
returns-clause-replaces g c =
    let there : option_map (λ b. b.now) c.body_at.result ≡ body_chosen (bodies_of c.self.inside.group) c.self.inside.chosen = search rules in
    subst (λ (a : Kept). IfSome c.body_at.result (λ b. MayBecome a.successor b.now)) c.self.view_is
    (lends (bodies_of c.self.inside.group) c.self.inside.chosen c.self.inside.symbols c.body_at.result there)
