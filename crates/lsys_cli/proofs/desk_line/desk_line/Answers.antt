use Rattle.std.proofs.Common.{◌≡◌, ◌∙◌, None, length, rules}
use Rattle.lsys_cli.proofs.Answering.{asks_by_tokens, passed_asks}
use Rattle.lsys_cli.proofs.desk_line.desk_line.Goals as goal

pub asked_by-requires : goal.asked_by-requires
asked_by-requires c = (length c.args.line.now, c.in_ok-found.ensures.places)

pub returns-in_err-found : goal.returns-in_err-found
returns-in_err-found c =
    let none : c.from_residual.result ≡ None = search rules in
    rw none (passed_asks c.args.line.now c.in_err-found.ensures)

pub returns : goal.returns
returns c = asks_by_tokens c.args.line.now c.in_ok-found.found.now c.in_ok-found.ensures ∙ c.asked_by.ensures
