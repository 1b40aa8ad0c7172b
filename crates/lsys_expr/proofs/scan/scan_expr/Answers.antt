use Rattle.std.proofs.Common.{arith, ◌≡◌, ◌+◌, ℕ, List, [], ◌∷◌, drop, length, Ok, Err, subst}
use Rattle.std.proofs.lemmas.Grind.{common_steps, elements}
use Rattle.lsys_syntax.specs.Tokens.{Kind}
use Rattle.lsys_syntax.specs.ExpressionPlaces.{extent}
use Rattle.lsys_syntax.proofs.Places.{tokens-rest}
use Rattle.lsys_text.specs.Tokens.{kind_of, kind_row}
use Rattle.lsys_text.specs.declared.refusals.PlaceRefusal.TheVariants.{Token, Deep}
use Rattle.lsys_expr.specs.Scanned.{IsExtent}
use Rattle.lsys_expr.proofs.Walk.{reached-next, reached-ends, reached-stops, reached-deep, reached-whole, reached-early, later-extent, placed-so, token-next, token-end, place-end}
use Rattle.lsys_expr.proofs.scan.scan_expr.Goals as goal

pub returns-in-Ends-clause-extent : goal.returns-in-Ends-clause-extent
returns-in-Ends-clause-extent c =
    let from : ℕ = c.args.from in
    let ks : List Kind = drop from (kind_row c.args.tokens.now) in
    let i : ℕ = c.loop-ahead.ahead in
    let r = c.loop-ahead.invariant.reached in
    let q : drop i ks ≡ kind_of c.token-item.result.kind ∷ drop (i + 1) ks = token-next c.args.tokens.now _ from i c.token-item.result c.loop-ahead.invariant.items c.loop-ahead-test.true c.token-item.is in
    let scan = c.loop-ahead.scan in
    let next = c.take.new.self in
    later-extent from (extent ks) (Ok i) (reached-ends ks i (kind_of c.token-item.result.kind) scan.awaited scan.levels r q next.awaited next.levels (c.in-Ends.ensures r.state r.kept))

pub returns-in-Ends-clause-place : goal.returns-in-Ends-clause-place
returns-in-Ends-clause-place c = placed-so c.args.from (drop c.args.from (kind_row c.args.tokens.now)) (Ok (c.args.from + c.loop-ahead.ahead)) (tokens-rest c.args.from (kind_row c.args.tokens.now) c.requires.forms) (returns-in-Ends-clause-extent c)

pub returns-in-Stops-clause-extent : goal.returns-in-Stops-clause-extent
returns-in-Stops-clause-extent c =
    let from : ℕ = c.args.from in
    let ks : List Kind = drop from (kind_row c.args.tokens.now) in
    let i : ℕ = c.loop-ahead.ahead in
    let r = c.loop-ahead.invariant.reached in
    let q : drop i ks ≡ kind_of c.token-item.result.kind ∷ drop (i + 1) ks = token-next c.args.tokens.now _ from i c.token-item.result c.loop-ahead.invariant.items c.loop-ahead-test.true c.token-item.is in
    let scan = c.loop-ahead.scan in
    let next = c.take.new.self in
    later-extent from (extent ks) (Err (Token i)) (reached-stops ks i (kind_of c.token-item.result.kind) scan.awaited scan.levels r q next.awaited next.levels (c.in-Stops.ensures r.state r.kept))

pub returns-in-Stops-clause-place : goal.returns-in-Stops-clause-place
returns-in-Stops-clause-place c = placed-so c.args.from (drop c.args.from (kind_row c.args.tokens.now)) (Err (Token (c.args.from + c.loop-ahead.ahead))) (tokens-rest c.args.from (kind_row c.args.tokens.now) c.requires.forms) (returns-in-Stops-clause-extent c)

pub returns-in-TooDeep-clause-extent : goal.returns-in-TooDeep-clause-extent
returns-in-TooDeep-clause-extent c =
    let from : ℕ = c.args.from in
    let ks : List Kind = drop from (kind_row c.args.tokens.now) in
    let i : ℕ = c.loop-ahead.ahead in
    let r = c.loop-ahead.invariant.reached in
    let q : drop i ks ≡ kind_of c.token-item.result.kind ∷ drop (i + 1) ks = token-next c.args.tokens.now _ from i c.token-item.result c.loop-ahead.invariant.items c.loop-ahead-test.true c.token-item.is in
    let scan = c.loop-ahead.scan in
    let next = c.take.new.self in
    later-extent from (extent ks) (Err (Deep i)) (reached-deep ks i (kind_of c.token-item.result.kind) scan.awaited scan.levels r q next.awaited next.levels (c.in-TooDeep.ensures r.state r.kept))

pub returns-in-TooDeep-clause-place : goal.returns-in-TooDeep-clause-place
returns-in-TooDeep-clause-place c = placed-so c.args.from (drop c.args.from (kind_row c.args.tokens.now)) (Err (Deep (c.args.from + c.loop-ahead.ahead))) (tokens-rest c.args.from (kind_row c.args.tokens.now) c.requires.forms) (returns-in-TooDeep-clause-extent c)

pub loop-ahead-preserved : goal.loop-ahead-preserved
loop-ahead-preserved c =
    let from : ℕ = c.args.from in
    let ks : List Kind = drop from (kind_row c.args.tokens.now) in
    let i : ℕ = c.loop-ahead.ahead in
    let r = c.loop-ahead.invariant.reached in
    let q : drop i ks ≡ kind_of c.token-item.result.kind ∷ drop (i + 1) ks = token-next c.args.tokens.now _ from i c.token-item.result c.loop-ahead.invariant.items c.loop-ahead-test.true c.token-item.is in
    let scan = c.loop-ahead.scan in
    let next = c.take.new.self in
    record {
      items = c.loop-ahead.invariant.items;
      reached = reached-next ks i (kind_of c.token-item.result.kind) scan.awaited scan.levels r q next.awaited next.levels (c.in-Goes.ensures r.state r.kept);
    }

pub returns-then-is_whole-clause-place : goal.returns-then-is_whole-clause-place
returns-then-is_whole-clause-place c =
    let from : ℕ = c.args.from in
    let ks : List Kind = drop from (kind_row c.args.tokens.now) in
    let i : ℕ = c.loop-ahead.ahead in
    let r = c.loop-ahead.invariant.reached in
    let items = c.loop-ahead.invariant.items in
    let q : drop i ks ≡ [] = token-end c.args.tokens.now _ from i items c.loop-ahead-test.false in
    let end : from + i ≡ length c.args.tokens.now = place-end c.args.tokens.now _ from i items c.requires.within c.loop-ahead.auto.ahead-end c.loop-ahead-test.false in
    let told : IsExtent from (extent ks) (Ok (length c.args.tokens.now)) =
    subst (λ n. IsExtent from (extent ks) (Ok n)) end
    (later-extent from (extent ks) (Ok i) (reached-whole ks i c.loop-ahead.scan.awaited c.loop-ahead.scan.levels r q (c.if-is_whole.ensures r.state r.kept))) in
    placed-so from ks (Ok (length c.args.tokens.now)) (tokens-rest from (kind_row c.args.tokens.now) c.requires.forms) told

pub returns-else-is_whole-clause-place : goal.returns-else-is_whole-clause-place
returns-else-is_whole-clause-place c =
    let from : ℕ = c.args.from in
    let ks : List Kind = drop from (kind_row c.args.tokens.now) in
    let i : ℕ = c.loop-ahead.ahead in
    let r = c.loop-ahead.invariant.reached in
    let items = c.loop-ahead.invariant.items in
    let q : drop i ks ≡ [] = token-end c.args.tokens.now _ from i items c.loop-ahead-test.false in
    let end : from + i ≡ length c.args.tokens.now = place-end c.args.tokens.now _ from i items c.requires.within c.loop-ahead.auto.ahead-end c.loop-ahead-test.false in
    let told : IsExtent from (extent ks) (Err (Token (length c.args.tokens.now))) =
    subst (λ n. IsExtent from (extent ks) (Err (Token n))) end
    (later-extent from (extent ks) (Err (Token i)) (reached-early ks i c.loop-ahead.scan.awaited c.loop-ahead.scan.levels r q (c.if-is_whole.ensures r.state r.kept))) in
    placed-so from ks (Err (Token (length c.args.tokens.now))) (tokens-rest from (kind_row c.args.tokens.now) c.requires.forms) told

pub loop-ahead-init : goal.loop-ahead-init
loop-ahead-init c = grind (arith, elements)

pub returns-else-is_whole-clause-extent : goal.returns-else-is_whole-clause-extent
returns-else-is_whole-clause-extent c = grind (arith, common_steps)
