use Rattle.std.proofs.Common.{◌+◌, drop, map, List}
use Rattle.std.proofs.lemmas.List.{take_all}
use Rattle.lsys_io.proofs.Puts.{puts_nothing, puts_then, puts_failed}
use Rattle.lsys_syntax.specs.Pieces.{token_text}
use Rattle.lsys_text.specs.declared.token_kind.TokenKind.{TokenKind}
use Rattle.lsys_text.specs.Tokens.{kind_of}
use Rattle.lsys_rules.specs.Showing.{kinds_text}
use Rattle.lsys_rules.proofs.ShownTexts.{gathered-step, gathered-rest, kinds_gather}
use Rattle.lsys_rules.proofs.show_rules.put_kinds.Goals as goal

pub loop-kind-init : goal.loop-kind-init
loop-kind-init g c = record { put = puts_nothing }

pub loop-kind-preserved : goal.loop-kind-preserved
loop-kind-preserved g c = record {
  put = rw (gathered-step (λ (xs : List TokenKind). kinds_text (map kind_of xs)) (λ (x : TokenKind). token_text (kind_of x)) (kinds_gather kind_of) c.args.kinds.now c.loop-kind.kind-index c.kind-item.result c.loop-kind-test.true c.kind-item.is) (puts_then c.loop-kind.invariant.put c.in_ok-put_kind.ensures);
}

pub returns-in_err-put_kind : goal.returns-in_err-put_kind
returns-in_err-put_kind g c =
    let items = c.args.kinds.now in
    let i = c.loop-kind.kind-index in
    rw (gathered-rest (λ (xs : List TokenKind). kinds_text (map kind_of xs)) (λ (x : TokenKind). token_text (kind_of x)) (kinds_gather kind_of) items (i + 1), gathered-step (λ (xs : List TokenKind). kinds_text (map kind_of xs)) (λ (x : TokenKind). token_text (kind_of x)) (kinds_gather kind_of) items i c.kind-item.result c.loop-kind-test.true c.kind-item.is)
    (puts_failed ((λ (xs : List TokenKind). kinds_text (map kind_of xs)) (drop (i + 1) items)) c.from_residual.ensures.0 (puts_then c.loop-kind.invariant.put c.in_err-put_kind.ensures))

pub returns : goal.returns
returns g c = rw (← take_all c.loop-kind.kind-index c.args.kinds.now c.loop-kind-test.false) c.loop-kind.invariant.put
