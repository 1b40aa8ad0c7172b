use Rattle.std.proofs.Common.{◌<◌, ◌≤◌, length, arith}
use Rattle.std.proofs.lemmas.Result.{err_from_is_err_and}
use Rattle.lsys_syntax.specs.Tokens.{RightParen}
use Rattle.lsys_syntax.specs.Rules.{formal_pieces}
use Rattle.lsys_text.specs.Tokens.{name_of}
use Rattle.lsys_bodies.proofs.CountLoops.{module-at_name, module-alone, module-at_params, module-whole}
use Rattle.lsys_bodies.proofs.many.count_module.Goals as goal

pub returns-in_err-named : goal.returns-in_err-named
returns-in_err-named c k =
    let p = err_from_is_err_and c.from_residual.result c.from_residual.ensures.1 in
    rw (p.1, p.2) (module-at_name c.args.counter formal_pieces name_of k c.args.formals.now (c.in_err-named.ensures k))

pub returns-then-is_empty : goal.returns-then-is_empty
returns-then-is_empty c k =
    let none : length c.args.formals.now ≤ 0 = grind arith in
    module-alone c.args.counter formal_pieces name_of k c.args.formals.now none (c.in_ok-named.ensures k)

pub returns-in_err-counted : goal.returns-in_err-counted
returns-in_err-counted c k =
    let some : 0 < length c.args.formals.now = grind arith in
    let p = err_from_is_err_and c.from_residual-in_err-counted.result c.from_residual-in_err-counted.ensures.1 in
    rw (p.1, p.2) (module-at_params c.args.counter formal_pieces name_of k c.args.formals.now some (c.in_ok-named.ensures k) c.in_err-counted.ensures)

pub returns : goal.returns
returns c k =
    let some : 0 < length c.args.formals.now = grind arith in
    module-whole c.args.counter formal_pieces name_of k c.args.formals.now some (c.in_ok-named.ensures k) c.in_ok-counted.ensures (c.mark.ensures.counted RightParen)
