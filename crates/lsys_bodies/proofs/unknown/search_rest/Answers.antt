use Rattle.std.proofs.Common.{arith}
use Rattle.std.proofs.lemmas.Result.{err_from_is_err_and}
use Rattle.lsys_syntax.specs.Tokens.{Colon, At}
use Rattle.lsys_text.specs.Tokens.{kind_row}
use Rattle.lsys_bodies.proofs.Searches.{rest-count, rest-at_condition, rest-at_weight, rest-after}
use Rattle.lsys_bodies.proofs.unknown.search_rest.Goals as goal

pub search_option-requires-clause-room : goal.search_option-requires-clause-room
search_option-requires-clause-room c = omega (arith, rest-count (kind_row c.args.tokens.now) c.args.rule.now, c.requires.room)

pub returns-in_err-place : goal.returns-in_err-place
returns-in_err-place c =
    let p = err_from_is_err_and c.from_residual.result c.from_residual.ensures.1 in
    rw (p.1, p.2) (rest-at_condition (kind_row c.args.tokens.now) c.args.rule.now (c.in_err-place.ensures Colon))

pub search_option-requires-2-clause-room : goal.search_option-requires-2-clause-room
search_option-requires-2-clause-room c = omega (arith, rest-count (kind_row c.args.tokens.now) c.args.rule.now, c.requires.room, (c.in_ok-place.ensures Colon).place)

pub returns-in_err-place-2 : goal.returns-in_err-place-2
returns-in_err-place-2 c =
    let p = err_from_is_err_and c.from_residual-in_err-place-2.result c.from_residual-in_err-place-2.ensures.1 in
    rw (p.1, p.2) (rest-at_weight (kind_row c.args.tokens.now) c.args.rule.now (c.in_ok-place.ensures Colon) (c.in_err-place-2.ensures At))

pub overflow_add-place : goal.overflow_add-place
overflow_add-place c = omega (arith, rest-count (kind_row c.args.tokens.now) c.args.rule.now, c.requires.room, (c.in_ok-place.ensures Colon).place, (c.in_ok-place-2.ensures Colon).place)

pub search_images-requires-clause-room : goal.search_images-requires-clause-room
search_images-requires-clause-room c = rw c.deref.ensures.value (omega (arith, rest-count (kind_row c.args.tokens.now) c.args.rule.now, c.requires.room, (c.in_ok-place.ensures Colon).place, (c.in_ok-place-2.ensures Colon).place))

pub returns : goal.returns
returns c = rest-after (kind_row c.args.tokens.now) c.args.rule.now (c.in_ok-place.ensures Colon) (c.in_ok-place-2.ensures At) (rw c.deref.ensures.value at c.search_images.ensures)
