use Rattle.std.proofs.Common.{◌≤◌, ◌+◌, ◌-◌, length, take, drop, sym, ◌∙◌, arith}
use Rattle.std.proofs.lemmas.Grind.{common_steps, elements}
use Rattle.lsys_text.specs.Tokens.{kind_row}
use Rattle.lsys_reading.specs.Spans.{expr_at}
use Rattle.lsys_bodies.proofs.Searches.{passes-room, passes-found, span-tokens, searches-expr, searches-expr_found, expr-length}
use Rattle.lsys_bodies.proofs.unknown.search_expression.Goals as goal

pub returns-then-is_unknown : goal.returns-then-is_unknown
returns-then-is_unknown c =
    let ts = take (c.args.span.to - c.args.span.from) (drop c.args.span.from c.args.tokens.now) in
    let e = expr_at (kind_row c.args.tokens.now) c.args.span in
    searches-expr_found e ts (span-tokens c.args.tokens.now c.args.span c.requires.span)
    (passes-found ts ts c.loop-token.token-index c.token-item.result c.loop-token-test.true c.token-item.is c.loop-token.invariant (λ fs known. sym c.if-is_unknown.true ∙ c.is_unknown.ensures fs known))

pub overflow_add-end : goal.overflow_add-end
overflow_add-end c =
    let ts = take (c.args.span.to - c.args.span.from) (drop c.args.span.from c.args.tokens.now) in
    let e = expr_at (kind_row c.args.tokens.now) c.args.span in
    let room : c.loop-token.end + 1 ≤ c.args.place + length ts = passes-room ts ts c.loop-token.token-index c.token-item.result c.loop-token-test.true c.token-item.is c.loop-token.invariant in
    omega (arith, room, expr-length e ts (span-tokens c.args.tokens.now c.args.span c.requires.span), c.requires.room)

pub returns : goal.returns
returns c =
    let ts = take (c.args.span.to - c.args.span.from) (drop c.args.span.from c.args.tokens.now) in
    let e = expr_at (kind_row c.args.tokens.now) c.args.span in
    searches-expr e ts c.loop-token.token-index (span-tokens c.args.tokens.now c.args.span c.requires.span) c.loop-token-test.false c.loop-token.invariant

pub offset_bounds-token-items-token-index : goal.offset_bounds-token-items-token-index
offset_bounds-token-items-token-index c = grind (arith, elements)

pub loop-token-preserved : goal.loop-token-preserved
loop-token-preserved c = grind (arith, common_steps)
