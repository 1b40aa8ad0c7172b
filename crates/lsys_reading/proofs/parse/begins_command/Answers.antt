use Rattle.std.proofs.Common.{◌∙◌, ap, sym}
use Rattle.std.specs.Option.{option_copied}
use Rattle.lsys_reading.proofs.FirstWords.{begun_line}
use Rattle.lsys_reading.proofs.parse.begins_command.Goals as goal

pub returns-in-Some : goal.returns-in-Some
returns-in-Some c = begun_line c.is_command_word.result c.args.tokens.now c.in-Some.token.now (sym c.first.ensures.value ∙ ap option_copied c.in-Some.is) c.is_command_word.ensures
