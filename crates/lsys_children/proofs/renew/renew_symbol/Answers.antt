use Rattle.std.proofs.Common.{arith}
use Rattle.lsys_level.specs.Places.{seen_in}
use Rattle.lsys_children.proofs.PlacedLemmas.{turned_told}
use Rattle.lsys_children.proofs.renew.renew_symbol.Goals as goal

pub returns-then-not-has_symbol-clause-told : goal.returns-then-not-has_symbol-clause-told
returns-then-not-has_symbol-clause-told g c =
    turned_told c.args.forest.now c.set_symbol.new.self c.args.node (seen_in c.args.symbol.now) c.args.changes.now c.tell_changed.new.self c.requires.lives c.set_symbol.ensures.set
    (λ n is e. absurd (grind (arith, c.if-not-has_symbol.true, (c.has_symbol.ensures n is).1 e))) c.tell_changed.ensures.told c.tell_changed.ensures.room

pub returns-then-not-has_symbol-clause-kept : goal.returns-then-not-has_symbol-clause-kept
returns-then-not-has_symbol-clause-kept g c = c.set_symbol.ensures.kept
