use Rattle.std.proofs.Common.{arith}
use Rattle.std.proofs.lemmas.Result.{err_from_is_err_and}
use Rattle.lsys_text.specs.Tokens.{kind_row}
use Rattle.lsys_reading.specs.declared.span.ExprSpan.{ExprSpan}
use Rattle.lsys_bodies.proofs.Searches.{copied-item, spans-item, param-room, param-more, param-found, params-done, params}
use Rattle.lsys_bodies.proofs.unknown.search_params.Goals as goal

abbrev none : ExprSpan
none = record { from = 0; to = 0 }

pub overflow_add-end : goal.overflow_add-end
overflow_add-end c =
    let ks = kind_row c.args.tokens.now in
    let item = copied-item c.args.params.now c.loop-param.param-index none c.loop-param-test.true in
    let room = param-room ks (params ks c.args.params.now) c.args.params.now c.loop-param.param-index _ c.loop-param-test.true item c.loop-param.invariant _ c.requires.room in
    omega (arith, room)

pub search_expression-requires-clause-span : goal.search_expression-requires-clause-span
search_expression-requires-clause-span c =
    spans-item (kind_row c.args.tokens.now) c.args.params.now c.loop-param.param-index _ c.loop-param-test.true (copied-item c.args.params.now c.loop-param.param-index none c.loop-param-test.true) c.requires.spans

pub search_expression-requires-clause-room : goal.search_expression-requires-clause-room
search_expression-requires-clause-room c =
    let ks = kind_row c.args.tokens.now in
    let item = copied-item c.args.params.now c.loop-param.param-index none c.loop-param-test.true in
    param-room ks (params ks c.args.params.now) c.args.params.now c.loop-param.param-index _ c.loop-param-test.true item c.loop-param.invariant _ c.requires.room

pub returns-in_err-end : goal.returns-in_err-end
returns-in_err-end c =
    let ks = kind_row c.args.tokens.now in
    let p = err_from_is_err_and c.from_residual.result c.from_residual.ensures.1 in
    let item = copied-item c.args.params.now c.loop-param.param-index none c.loop-param-test.true in
    rw (p.1, p.2) (param-found ks (params ks c.args.params.now) c.args.params.now c.loop-param.param-index _ c.loop-param-test.true item c.loop-param.invariant c.in_err-end.ensures)

pub loop-param-preserved : goal.loop-param-preserved
loop-param-preserved c =
    let ks = kind_row c.args.tokens.now in
    let item = copied-item c.args.params.now c.loop-param.param-index none c.loop-param-test.true in
    param-more ks (params ks c.args.params.now) c.args.params.now c.loop-param.param-index _ c.loop-param-test.true item c.loop-param.invariant c.in_ok-end.ensures

pub returns : goal.returns
returns c =
    let ks = kind_row c.args.tokens.now in
    params-done ks (params ks c.args.params.now) c.args.params.now c.loop-param.param-index c.loop-param-test.false c.loop-param.invariant
