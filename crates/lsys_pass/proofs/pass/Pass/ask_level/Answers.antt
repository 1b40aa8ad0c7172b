use Rattle.std.proofs.Common.{arith}
use Rattle.std.proofs.lemmas.Grind.{elements}
use Rattle.lsys_pass.proofs.pass.Pass.ask_level.Goals as goal

pub ask_all-requires-clause-above : goal.ask_all-requires-clause-above
ask_all-requires-clause-above g c = grind (arith, elements)

pub ask_all-requires-clause-found : goal.ask_all-requires-clause-found
ask_all-requires-clause-found g c = (c.args.found.now.beside.items, c.args.found.now.readers.items, c.requires.found)

pub ask_found-requires-clause-was : goal.ask_found-requires-clause-was
ask_found-requires-clause-was g c = grind (arith, elements)
