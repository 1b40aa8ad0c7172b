use Rattle.std.proofs.Common.{◌∷◌, ◌++◌, []}
use Rattle.lsys_io.proofs.Puts.{puts_then, puts_failed}
use Rattle.lsys_syntax.specs.Pieces.{text_of}
use Rattle.lsys_syntax.specs.Commands.{words_pieces}
use Rattle.lsys_rules.proofs.script.put_schedule.Goals as goal

pub returns-in_err-put : goal.returns-in_err-put
returns-in_err-put g c =
    puts_failed (text_of (words_pieces c.args.words.now) ++ (10 ∷ [])) c.from_residual.ensures.0 c.in_err-put.ensures

pub returns-in_err-put_words : goal.returns-in_err-put_words
returns-in_err-put_words g c =
    puts_then c.in_ok-put.ensures (puts_failed (10 ∷ []) c.from_residual-in_err-put_words.ensures.0 c.in_err-put_words.ensures)

pub returns : goal.returns
returns g c =
    puts_then c.in_ok-put.ensures (puts_then c.in_ok-put_words.ensures (c.put-2.ensures))
