use Rattle.std.proofs.Common.{◌≡◌, drop}
use Rattle.lsys_reading.specs.Words.{meaning_in}
use Rattle.lsys_reading.proofs.word.meaning_in.Given as goal

abbrev pub invariant-loop-word : goal.invariant-loop-word
invariant-loop-word g l = meaning_in l.table l.text ≡ meaning_in (drop l.word-index l.table) l.text
