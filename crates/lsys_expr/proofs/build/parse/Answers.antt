use Rattle.std.proofs.Common.{arith, ◌≡◌, ap, Some}
use Rattle.std.specs.Option.{option_map}
use Rattle.std.proofs.lemmas.Result.{IfOk-weaker}
use Rattle.std.proofs.lemmas.Grind.{common_steps}
use Rattle.lsys_spec.specs.Values.{expr_tree}
use Rattle.lsys_expr.specs.InsideExpr.{expression_spelled}
use Rattle.lsys_expr.specs.Parts.{names_of}
use Rattle.lsys_expr.specs.Stacks.{frames_of}
use Rattle.lsys_expr.specs.Trees.{tree_of}
use Rattle.lsys_expr.specs.Frames.{reduced}
use Rattle.lsys_expr.proofs.Parsing.{token-possible, token-read, tokens-end, known-at, whole-tree}
use Rattle.lsys_expr.proofs.Reading.{IsWhole}
use Rattle.lsys_expr.proofs.build.parse.Goals as goal

pub read_token-requires-clause-possible : goal.read_token-requires-clause-possible
read_token-requires-clause-possible c =
    token-possible (names_of c.args.formals.now) (expression_spelled c.args.kinds.now) c.args.kinds.now c.loop-kind.kind-index c.kind-item.result _ _ c.loop-kind.invariant c.loop-kind-test.true c.kind-item.is

pub read_token-requires-clause-known : goal.read_token-requires-clause-known
read_token-requires-clause-known c =
    known-at c.args.formals.now c.args.kinds.now c.loop-kind.kind-index c.kind-item.result c.requires.known c.loop-kind-test.true c.kind-item.is

pub loop-kind-preserved : goal.loop-kind-preserved
loop-kind-preserved c =
    token-read (names_of c.args.formals.now) (expression_spelled c.args.kinds.now) c.args.kinds.now c.loop-kind.kind-index c.kind-item.result _ _ _ _ c.loop-kind.invariant c.loop-kind-test.true c.kind-item.is
    c.in_ok-operand.ensures

pub returns : goal.returns
returns c =
    let fs = names_of c.args.formals.now in
    let whole : IsWhole fs (expression_spelled c.args.kinds.now) (option_map tree_of c.loop-kind.operand) (frames_of c.loop-kind.frames.items) =
    tokens-end fs (expression_spelled c.args.kinds.now) c.args.kinds.now c.loop-kind.kind-index _ _ c.loop-kind.invariant c.loop-kind-test.false in
    let last : option_map tree_of c.loop-kind.operand ≡ Some (tree_of c.in-Some.last) = ap (option_map tree_of) c.in-Some.is in
    IfOk-weaker c.reduce.result
    (λ t. (tree_of t, frames_of c.reduce.new.frames.items) ≡ reduced 1 (tree_of c.in-Some.last) (frames_of c.loop-kind.frames.items))
    (λ t. tree_of t ≡ expr_tree fs (expression_spelled c.args.kinds.now))
    (λ t h. whole-tree fs (expression_spelled c.args.kinds.now) (tree_of c.in-Some.last) (tree_of t) _ _ _ whole last h)
    c.reduce.ensures

pub unreachable-requires : goal.unreachable-requires
unreachable-requires c = grind (arith, common_steps)
