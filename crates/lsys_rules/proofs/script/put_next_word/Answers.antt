use Rattle.std.proofs.Common.{arith}
use Rattle.std.proofs.lemmas.Grind.{elements}
use Rattle.lsys_io.proofs.Puts.{puts_then}
use Rattle.lsys_rules.proofs.script.put_next_word.Goals as goal

pub returns : goal.returns
returns g c = puts_then c.in_ok-put.ensures (c.put_word.ensures)

pub returns-in_err-put : goal.returns-in_err-put
returns-in_err-put g c = grind (arith, elements)
