use Rattle.std.proofs.Common.{◌<◌, length, refl, arith}
use Rattle.lsys_syntax.specs.Tokens.{Less}
use Rattle.lsys_bodies.proofs.Adding.{adds-token, adds-left, left-count}
use Rattle.lsys_bodies.proofs.formals.FormalNames.add_left.Goals as goal

pub add_patterns-requires : goal.add_patterns-requires
add_patterns-requires c = let some : 0 < length c.args.symbols.now = grind arith in omega (arith, left-count c.args.symbols.now some, c.requires.room)

pub overflow_add-self : goal.overflow_add-self
overflow_add-self c = let some : 0 < length c.args.symbols.now = grind arith in omega (arith, left-count c.args.symbols.now some, c.requires.room, c.in_ok-add_patterns.ensures.place)

pub returns : goal.returns
returns c = let some : 0 < length c.args.symbols.now = grind arith in adds-left c.args.symbols.now some c.in_ok-add_patterns.ensures (adds-token Less refl refl refl)
