use Rattle.std.proofs.Common.{◌<◌, length, refl, arith}
use Rattle.lsys_syntax.specs.Tokens.{RightParen}
use Rattle.lsys_bodies.proofs.Adding.{adds-name, adds-token, adds-module, params-count}
use Rattle.lsys_bodies.proofs.formals.FormalNames.add_module.Goals as goal

pub add_formals-requires : goal.add_formals-requires
add_formals-requires c = let some : 0 < length c.args.formals.now = grind arith in omega (arith, params-count c.args.formals.now some, c.requires.room)

pub overflow_add-self-2 : goal.overflow_add-self-2
overflow_add-self-2 c = let some : 0 < length c.args.formals.now = grind arith in omega (arith, params-count c.args.formals.now some, c.requires.room, c.in_ok-add_formals.ensures.place)

pub returns : goal.returns
returns c k =
    let some : 0 < length c.args.formals.now = grind arith in
    adds-module k c.args.formals.now some (adds-name k refl refl refl) c.in_ok-add_formals.ensures (adds-token RightParen refl refl refl)
