use Rattle.std.proofs.Common.{◌≡◌, ◌++◌, drop, map}
use Rattle.lsys_text.specs.Tokens.{kind_row, name_of}
use Rattle.lsys_reading.specs.Spans.{expr_at}
use Rattle.lsys_bodies.specs.Views.{expr_in, tree_in}
use Rattle.lsys_bodies.specs.Building.{tree_at}
use Rattle.lsys_bodies.proofs.building.params.Given as goal

abbrev pub invariant-loop-span : goal.invariant-loop-span
invariant-loop-span l = record {
  spelled : map expr_in l.params.items ++ map (expr_at (kind_row l.tokens)) (drop l.span-index l.spans) ≡ map (expr_at (kind_row l.tokens)) l.spans;
  trees : map tree_in l.params.items ++ map (tree_at (map name_of l.formals) (kind_row l.tokens)) (drop l.span-index l.spans) ≡ map (tree_at (map name_of l.formals) (kind_row l.tokens)) l.spans;
}
