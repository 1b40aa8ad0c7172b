use Rattle.lsys_reading.specs.Tokens.{kinds_in}
use Rattle.lsys_reading.proofs.RuleReads.{line-read}
use Rattle.lsys_reading.proofs.rule.rule_line.Goals as goal

pub returns-clause-read : goal.returns-clause-read
returns-clause-read c = line-read c.args.form (kinds_in c.args.line.now) c.args.at c.rule_parts.result c.rule_parts.ensures.read
