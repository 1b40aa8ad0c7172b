use Rattle.std.proofs.Common.{subst}
use Rattle.lsys_text.proofs.LineTokens.{line-forms}
use Rattle.lsys_rules.specs.Parsing.{IsParsedLine}
use Rattle.lsys_session.proofs.Requests.{parsed_line}
use Rattle.lsys_session.proofs.request.command_in.Goals as goal

pub parse_command-requires-clause-forms : goal.parse_command-requires-clause-forms
parse_command-requires-clause-forms c = line-forms c.args.line.now c.args.found.now c.requires.tokens

pub returns : goal.returns
returns c =
    let read = subst (λ n. IsParsedLine c.args.found.now n c.parse_command.result) c.len.ensures.length c.parse_command.ensures in
    parsed_line c.args.line.now c.args.found.now c.requires.tokens c.parse_command.result read
