use Rattle.std.proofs.Common.{take, map, Ok, List}
use Rattle.lsys_io.specs.Writes.{WasPut}
use Rattle.lsys_text.specs.declared.token_kind.TokenKind.{TokenKind}
use Rattle.lsys_text.specs.Tokens.{kind_of}
use Rattle.lsys_rules.specs.Showing.{kinds_text}
use Rattle.lsys_rules.proofs.show_rules.put_kinds.Given as goal

-- those so far are put
abbrev pub invariant-loop-kind : goal.invariant-loop-kind
invariant-loop-kind g l = record {
  put : WasPut {A = Unit {0}} g.K.Sink.written g.K.Sink.faults l.initial.sink l.sink l.initial.out l.out ((λ (xs : List TokenKind). kinds_text (map kind_of xs)) (take l.kind-index l.kinds)) (Ok tt);
}
