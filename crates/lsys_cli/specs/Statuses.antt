-- Exit codes.
use Rattle.std.specs.Prelude.{ℕ}
use Rattle.lsys_cli.specs.declared.status.Status.{Status}
use Rattle.lsys_cli.specs.declared.status.Status.TheVariants.{Done, Refused, Usage, ReadFault, WriteFault, Memory, TooLong}

abbrev pub exit_code : Status → ℕ
exit_code Done = 0
exit_code Refused = 1
exit_code Usage = 2
exit_code ReadFault = 3
exit_code WriteFault = 4
exit_code Memory = 5
exit_code TooLong = 6
