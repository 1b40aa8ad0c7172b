use Rattle.std.proofs.Common.{◌∷◌, ◌++◌, [], map}
use Rattle.lsys_io.proofs.Puts.{puts_then, puts_failed}
use Rattle.lsys_module.specs.Views.{module_name}
use Rattle.lsys_rules.specs.Showing.{names_text}
use Rattle.lsys_rules.proofs.ShownTexts.{listed-text, some_symbols, no_items}
use Rattle.lsys_rules.proofs.script.put_listed.Goals as goal

pub returns-in_err-put : goal.returns-in_err-put
returns-in_err-put g c =
    rw (listed-text (map module_name c.args.names.now) (some_symbols module_name c.args.names.now (no_items c.is_empty.result _ c.is_empty.ensures c.if-is_empty.false))) (puts_failed (names_text (map module_name c.args.names.now) ++ (10 ∷ [])) c.from_residual.ensures.0 c.in_err-put.ensures)

pub returns-in_err-put_names : goal.returns-in_err-put_names
returns-in_err-put_names g c =
    rw (listed-text (map module_name c.args.names.now) (some_symbols module_name c.args.names.now (no_items c.is_empty.result _ c.is_empty.ensures c.if-is_empty.false))) (puts_then c.in_ok-put.ensures (puts_failed (10 ∷ []) c.from_residual-in_err-put_names.ensures.0 c.in_err-put_names.ensures))

pub returns : goal.returns
returns g c =
    rw (listed-text (map module_name c.args.names.now) (some_symbols module_name c.args.names.now (no_items c.is_empty.result _ c.is_empty.ensures c.if-is_empty.false))) (puts_then c.in_ok-put.ensures (puts_then c.in_ok-put_names.ensures (c.put-3.ensures)))
