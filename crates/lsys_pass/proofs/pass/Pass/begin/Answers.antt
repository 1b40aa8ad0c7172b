use Rattle.std.proofs.Common.{rules}
use Rattle.lsys_pass.proofs.Telling.{first_whys, first_exact}
use Rattle.lsys_pass.proofs.pass.Pass.begin.Goals as goal

pub returns-then-is_err-clause-refusal : goal.returns-then-is_err-clause-refusal
returns-then-is_err-clause-refusal g c = first_whys c.args.system c.args.self.now.limit c.come_to_first-begun.result (search rules)

pub returns-else-is_err-clause-refusal : goal.returns-else-is_err-clause-refusal
returns-else-is_err-clause-refusal g c = first_whys c.args.system c.args.self.now.limit c.come_to_first-begun.result (search rules)

pub returns-then-is_err-clause-exact : goal.returns-then-is_err-clause-exact
returns-then-is_err-clause-exact g c = first_exact c.args.system c.args.self.now.limit c.come_to_first-begun.result (search rules) (search rules)

pub returns-else-is_err-clause-exact : goal.returns-else-is_err-clause-exact
returns-else-is_err-clause-exact g c = first_exact c.args.system c.args.self.now.limit c.come_to_first-begun.result (search rules) (search rules)
