use Rattle.std.proofs.Common.{◌≡◌, drop}
use Rattle.lsys_syntax.specs.Lines.{is_blank_line}
use Rattle.lsys_session.proofs.line.is_blank.Given as goal

-- the bytes so far were blanks
abbrev pub invariant-loop-byte : goal.invariant-loop-byte
invariant-loop-byte l = is_blank_line (drop l.byte-index l.line) ≡ is_blank_line l.line
