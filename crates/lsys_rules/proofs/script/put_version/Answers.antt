use Rattle.lsys_io.proofs.Puts.{puts_then, puts_failed}
use Rattle.lsys_spec.specs.Shown.{numbering_commands, script_of}
use Rattle.lsys_reading.specs.Commands.{numbering_of}
use Rattle.lsys_rules.proofs.ShownTexts.{later-lines}
use Rattle.lsys_rules.proofs.script.put_version.Goals as goal

pub returns-in_err-put_number_line : goal.returns-in_err-put_number_line
returns-in_err-put_number_line g c =
    rw (later-lines c.args.version (numbering_of c.args.numbering) c.if-version-eq1.false)
    (puts_failed (script_of (numbering_commands (numbering_of c.args.numbering))) c.from_residual.ensures.0 (rw c.from.ensures at c.in_err-put_number_line.ensures))

pub returns : goal.returns
returns g c =
    rw (later-lines c.args.version (numbering_of c.args.numbering) c.if-version-eq1.false) (puts_then (rw c.from.ensures at c.in_ok-put_number_line.ensures) c.put_numbering.ensures)
