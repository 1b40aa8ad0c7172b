use Rattle.std.proofs.Common.{arith}
use Rattle.lsys_bodies.proofs.Adding.{pattern-step, pattern-end, pattern-room}
use Rattle.lsys_bodies.proofs.formals.FormalNames.add_patterns.Goals as goal

pub add_pattern-requires : goal.add_pattern-requires
add_pattern-requires c =
    let room = pattern-room c.args.symbols.now c.loop-symbol.symbol-index c.symbol-item.result c.loop-symbol.self.end _ c.loop-symbol-test.true c.symbol-item.is c.loop-symbol.invariant.place in
    omega (arith, room, c.requires.room)

pub loop-symbol-preserved : goal.loop-symbol-preserved
loop-symbol-preserved c = pattern-step _ _ c.args.symbols.now c.loop-symbol.symbol-index c.symbol-item.result c.loop-symbol-test.true c.symbol-item.is c.loop-symbol.invariant c.in_ok-add_pattern.ensures

pub returns : goal.returns
returns c = pattern-end _ _ c.args.symbols.now c.loop-symbol.symbol-index c.loop-symbol-test.false c.loop-symbol.invariant
