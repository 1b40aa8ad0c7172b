use Rattle.lsys_module.proofs.Forms.{forms-take}
use Rattle.lsys_module.proofs.symbol_list.SymbolList.truncate.Goals as goal

pub invariant_of-self : goal.invariant_of-self
invariant_of-self c = rw c.truncate.ensures.items (forms-take c.args.len c.self.inside.symbols.items c.self.invariant)
