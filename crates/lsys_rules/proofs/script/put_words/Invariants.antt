use Rattle.std.proofs.Common.{take, Ok, List, ℕ}
use Rattle.lsys_io.specs.Writes.{WasPut}
use Rattle.lsys_syntax.specs.Pieces.{text_of}
use Rattle.lsys_syntax.specs.Commands.{words_pieces}
use Rattle.lsys_rules.proofs.script.put_words.Given as goal

-- those so far are put
abbrev pub invariant-loop-word : goal.invariant-loop-word
invariant-loop-word g l = record {
  put : WasPut {A = Unit {0}} g.K.Sink.written g.K.Sink.faults l.initial.sink l.sink l.initial.out l.out ((λ (xs : List (List ℕ)). text_of (words_pieces xs)) (take l.word-index l.words)) (Ok tt);
}
