use Rattle.lsys_module.proofs.Forms.{forms-set}
use Rattle.lsys_module.proofs.symbol_list.SymbolList.set.Goals as goal

pub invariant_of-self : goal.invariant_of-self
invariant_of-self c = forms-set c.self.inside.symbols.items c.args.place c.args.symbol c.self.invariant c.law_of_symbols.ensures
