use Rattle.std.proofs.Common.{◌≡◌, ◌∙◌, ◌+◌, Some, None, Err, arith, ap, sym, subst, drop}
use Rattle.std.specs.Option.{option_map}
use Rattle.std.specs.List.{prefix_len}
use Rattle.lsys_syntax.specs.Tokens.{is_blank}
use Rattle.lsys_text.specs.Tokens.{kind_of}
use Rattle.lsys_text.specs.Scans.{mode_of, lexeme_of, first_token, IsPassed}
use Rattle.lsys_text.proofs.Fronts.{part-from}
use Rattle.lsys_text.proofs.Reading.{step-end, step-none, step-token, same-rest}
use Rattle.lsys_text.proofs.scan.pass_token.Goals as goal

pub returns-then-start-line-clause-passed : goal.returns-then-start-line-clause-passed
returns-then-start-line-clause-passed c =
    let blanks : c.blanks_len.result ≡ prefix_len is_blank (drop c.args.cursor.place c.args.line.now) = c.blanks_len.ensures.len ∙ ap (prefix_len is_blank) (part-from c.args.cursor.place c.args.line.now) in
    step-end (mode_of c.args.cursor.mode) c.args.line.now c.args.cursor.place c.blanks_len.result blanks c.if-start-line.true

pub returns-in-Some-clause-passed : goal.returns-in-Some-clause-passed
returns-in-Some-clause-passed c =
    let blanks : c.blanks_len.result ≡ prefix_len is_blank (drop c.args.cursor.place c.args.line.now) = c.blanks_len.ensures.len ∙ ap (prefix_len is_blank) (part-from c.args.cursor.place c.args.line.now) in
    let found : first_token (mode_of c.args.cursor.mode) (drop (c.args.cursor.place + c.blanks_len.result) c.args.line.now) ≡ Some (kind_of c.in-Some.lexeme.kind, c.in-Some.lexeme.more) =
    ap (first_token (mode_of c.args.cursor.mode)) (sym (part-from (c.args.cursor.place + c.blanks_len.result) c.args.line.now)) ∙ sym c.token_at.ensures.token ∙ ap (option_map lexeme_of) c.in-Some.is in (
      _,
      step-token (mode_of c.args.cursor.mode) c.args.line.now c.args.cursor.place c.blanks_len.result (kind_of c.in-Some.lexeme.kind) c.in-Some.lexeme.more blanks found
          ∙ same-rest _ _ _ _ _ c.args.line.now (sym c.mode_after.ensures) (omega arith),
    )

pub returns-in-None-clause-passed : goal.returns-in-None-clause-passed
returns-in-None-clause-passed c =
    let blanks : c.blanks_len.result ≡ prefix_len is_blank (drop c.args.cursor.place c.args.line.now) = c.blanks_len.ensures.len ∙ ap (prefix_len is_blank) (part-from c.args.cursor.place c.args.line.now) in
    let found : first_token (mode_of c.args.cursor.mode) (drop (c.args.cursor.place + c.blanks_len.result) c.args.line.now) ≡ None =
    ap (first_token (mode_of c.args.cursor.mode)) (sym (part-from (c.args.cursor.place + c.blanks_len.result) c.args.line.now)) ∙ sym c.token_at.ensures.token ∙ ap (option_map lexeme_of) c.in-None.is in
    subst (λ r. IsPassed c.args.line.now c.args.cursor (Err r)) (sym c.refused_byte.ensures) (step-none (mode_of c.args.cursor.mode) c.args.line.now c.args.cursor.place c.blanks_len.result blanks (omega arith) found)
