use Rattle.std.proofs.Common.{arith, map}
use Rattle.std.proofs.lemmas.Grind.{elements}
use Rattle.lsys_io.proofs.Puts.{puts_then, puts_failed, puts_refused, puts_answering}
use Rattle.lsys_module.specs.Views.{module_name}
use Rattle.lsys_module.specs.Printing.{params_text}
use Rattle.lsys_module.proofs.PrintedTexts.{module-after}
use Rattle.lsys_module.proofs.print.put_symbol.Goals as goal

pub returns-in_err-long-in-Module-clause-put : goal.returns-in_err-long-in-Module-clause-put
returns-in_err-long-in-Module-clause-put g c =
    let n = g.N.Notation.way in
    let params = map n.param c.in-Module.params.now in
    rw (← c.in-Module.ensures, module-after n.print c.args.runs_on (module_name c.in-Module.name) params) (puts_failed (params_text n.print params) c.from_residual.ensures.0 c.in_err-long-in-Module.ensures.put)

pub returns-in_err-put_params-in-Module-clause-put : goal.returns-in_err-put_params-in-Module-clause-put
returns-in_err-put_params-in-Module-clause-put g c =
    let n = g.N.Notation.way in
    rw (← c.in-Module.ensures, module-after n.print c.args.runs_on (module_name c.in-Module.name) (map n.param c.in-Module.params.now)) (puts_then c.in_ok-long-in-Module.ensures.put (puts_refused c.from_residual-in_err-put_params-in-Module.ensures.0 c.in_err-put_params-in-Module.ensures))

pub returns-then-long-clause-put : goal.returns-then-long-clause-put
returns-then-long-clause-put g c =
    let n = g.N.Notation.way in
    rw (← c.in-Module.ensures, module-after n.print c.args.runs_on (module_name c.in-Module.name) (map n.param c.in-Module.params.now)) (puts_then c.in_ok-long-in-Module.ensures.put (puts_answering c.in_ok-put_params-in-Module.ensures))

pub returns-else-long-clause-put : goal.returns-else-long-clause-put
returns-else-long-clause-put g c =
    let n = g.N.Notation.way in
    rw (← c.in-Module.ensures, module-after n.print c.args.runs_on (module_name c.in-Module.name) (map n.param c.in-Module.params.now)) (puts_then c.in_ok-long-in-Module.ensures.put (puts_answering c.in_ok-put_params-in-Module.ensures))

pub returns-then-long-clause-runs_on : goal.returns-then-long-clause-runs_on
returns-then-long-clause-runs_on g c = grind (arith, elements)
