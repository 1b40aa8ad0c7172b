use Rattle.std.proofs.Common.{◌∙◌, ap, sym, not}
use Rattle.lsys_syntax.specs.LineMachine.{is_stop, first_word}
use Rattle.lsys_text.specs.Tokens.{kind_of}
use Rattle.lsys_reading.proofs.FirstWords.{begins_by, stepped_word}
use Rattle.lsys_reading.proofs.parse.is_command_word.Goals as goal

pub returns-in-Some : goal.returns-in-Some
returns-in-Some c =
    c.is_some.ensures ∙ begins_by c.command_word.result ∙ ap (λ s. not (is_stop s)) (sym c.command_word.ensures ∙ sym (stepped_word first_word (kind_of c.args.kind) c.in-Some.word (sym c.in-Some.is ∙ c.word_of.ensures)))
