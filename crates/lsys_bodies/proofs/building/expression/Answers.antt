use Rattle.std.proofs.Common.{map}
use Rattle.lsys_text.specs.Tokens.{kind_row, name_of}
use Rattle.lsys_bodies.proofs.Known.{none-unknown}
use Rattle.lsys_bodies.proofs.building.expression.Goals as goal

pub build_expr-requires-clause-known : goal.build_expr-requires-clause-known
build_expr-requires-clause-known c = none-unknown (map name_of c.args.formals.now) (kind_row c.args.tokens.now) c.args.span c.requires.span c.requires.known
