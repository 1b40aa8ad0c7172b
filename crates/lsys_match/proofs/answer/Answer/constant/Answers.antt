use Rattle.std.proofs.Common.{rules, ◌≡◌, Some}
use Rattle.lsys_match.specs.Constants.{body_chosen}
use Rattle.lsys_match.proofs.Constants.{constant_lent, replaces_lent}
use Rattle.lsys_match.proofs.answer.Answer.constant.Goals as goal

pub returns-clause-symbols : goal.returns-clause-symbols
returns-clause-symbols g c =
    let there : Some c.in_ok-body.body.now ≡ body_chosen c.args.self.now.bodies c.args.self.now.chosen = search rules in
    constant_lent (body_chosen c.args.self.now.bodies c.args.self.now.chosen) c.in_ok-body.body.now there c.constant.result c.constant.ensures.symbols

pub returns-clause-replaces : goal.returns-clause-replaces
returns-clause-replaces g c = replaces_lent c.args.self.now.successor c.in_ok-body.body.now c.constant.result c.constant.ensures.symbols c.in_ok-body.ensures.replaces
