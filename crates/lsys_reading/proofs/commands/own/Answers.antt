use Rattle.std.proofs.Common.{[]}
use Rattle.std.proofs.lemmas.Result.{err_from_is_err_and}
use Rattle.lsys_syntax.specs.LineMachine.{TableDue, InNames, of_own}
use Rattle.lsys_reading.specs.Tokens.{kinds_in}
use Rattle.lsys_reading.specs.Commands.{list_kind_of}
use Rattle.lsys_reading.proofs.LineParts.{refused-on}
use Rattle.lsys_reading.proofs.commands.own.Goals as goal

pub returns-in_err-table-clause-rest : goal.returns-in_err-table-clause-rest
returns-in_err-table-clause-rest c =
    let p = err_from_is_err_and c.from_residual.result c.from_residual.ensures.1 in rw (p.1, p.2) (c.in_err-table.ensures.heading (list_kind_of c.args.kind))

pub returns-in_err-names-clause-rest : goal.returns-in_err-names-clause-rest
returns-in_err-names-clause-rest c =
    let p = err_from_is_err_and c.from_residual-in_err-names.result c.from_residual-in_err-names.ensures.1 in
    let k = list_kind_of c.args.kind in
    let t = c.in_ok-table.table in
    rw (p.1, p.2) (refused-on (kinds_in c.args.line.now) 1 3 (TableDue k) (InNames (of_own k t) []) c.in_err-names.field-0.0 (c.in_ok-table.ensures.heading k) (c.in_err-names.ensures (of_own k t)))
