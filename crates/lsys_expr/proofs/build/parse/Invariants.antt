use Rattle.std.proofs.Common.{drop, map}
use Rattle.std.specs.Option.{option_map}
use Rattle.lsys_text.specs.Tokens.{kind_of}
use Rattle.lsys_expr.specs.InsideExpr.{expression_spelled}
use Rattle.lsys_expr.specs.Parts.{names_of}
use Rattle.lsys_expr.specs.Stacks.{frames_of}
use Rattle.lsys_expr.specs.Trees.{tree_of}
use Rattle.lsys_expr.proofs.Reading.{Reads}
use Rattle.lsys_expr.proofs.build.parse.Given as goal

abbrev pub invariant-loop-kind : goal.invariant-loop-kind
invariant-loop-kind l =
    Reads (names_of l.formals) (expression_spelled l.kinds) (map kind_of (drop l.kind-index l.kinds)) (option_map tree_of l.operand) (frames_of l.frames.items)
