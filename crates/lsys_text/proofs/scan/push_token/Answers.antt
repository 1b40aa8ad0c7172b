use Rattle.std.proofs.Common.{◌≡◌, ◌∙◌, ◌+◌, ◌≤◌, ℕ, length, length-drop, Some, None, Err, arith, ap, sym, subst, drop}
use Rattle.std.specs.Option.{option_map}
use Rattle.std.specs.List.{prefix_len}
use Rattle.lsys_syntax.specs.Tokens.{is_blank}
use Rattle.lsys_text.specs.Tokens.{HasMarkByte, LiesInLine}
use Rattle.lsys_text.specs.Scans.{mode_of, lexeme_of, first_token, IsStep}
use Rattle.lsys_text.proofs.Fronts.{part-from}
use Rattle.lsys_text.proofs.Reading.{step-end, step-none, after-err, after-nothing}
use Rattle.lsys_text.proofs.Pushed.{pushed-step, pushed-all}
use Rattle.lsys_text.proofs.scan.push_token.Goals as goal

pub returns-then-start-line-clause-step : goal.returns-then-start-line-clause-step
returns-then-start-line-clause-step c =
    let blanks : c.blanks_len.result ≡ prefix_len is_blank (drop c.args.cursor.place c.args.line.now) = c.blanks_len.ensures.len ∙ ap (prefix_len is_blank) (part-from c.args.cursor.place c.args.line.now) in
    after-nothing _ _ (step-end (mode_of c.args.cursor.mode) c.args.line.now c.args.cursor.place c.blanks_len.result blanks c.if-start-line.true)

pub returns-in-None-clause-step : goal.returns-in-None-clause-step
returns-in-None-clause-step c =
    let blanks : c.blanks_len.result ≡ prefix_len is_blank (drop c.args.cursor.place c.args.line.now) = c.blanks_len.ensures.len ∙ ap (prefix_len is_blank) (part-from c.args.cursor.place c.args.line.now) in
    let found : first_token (mode_of c.args.cursor.mode) (drop (c.args.cursor.place + c.blanks_len.result) c.args.line.now) ≡ None =
    ap (first_token (mode_of c.args.cursor.mode)) (sym (part-from (c.args.cursor.place + c.blanks_len.result) c.args.line.now)) ∙ sym c.token_at.ensures.token ∙ ap (option_map lexeme_of) c.in-None.is in
    subst (λ r. IsStep c.args.line.now c.args.found.now.items c.args.cursor c.args.found.now.items (Err r)) (sym c.refused_byte.ensures)
    (after-err _ _ _ (step-none (mode_of c.args.cursor.mode) c.args.line.now c.args.cursor.place c.blanks_len.result blanks (omega arith) found))

pub returns-in-Some-clause-step : goal.returns-in-Some-clause-step
returns-in-Some-clause-step c =
    let blanks : c.blanks_len.result ≡ prefix_len is_blank (drop c.args.cursor.place c.args.line.now) = c.blanks_len.ensures.len ∙ ap (prefix_len is_blank) (part-from c.args.cursor.place c.args.line.now) in
    let found : first_token (mode_of c.args.cursor.mode) (drop (c.args.cursor.place + c.blanks_len.result) c.args.line.now) ≡ Some (lexeme_of c.in-Some.lexeme) =
    ap (first_token (mode_of c.args.cursor.mode)) (sym (part-from (c.args.cursor.place + c.blanks_len.result) c.args.line.now)) ∙ sym c.token_at.ensures.token ∙ ap (option_map lexeme_of) c.in-Some.is in
    pushed-step _ _ _ c.args.cursor _ _ _ blanks found c.push_lexeme.ensures.pushed

pub returns-in-Some-clause-marks : goal.returns-in-Some-clause-marks
returns-in-Some-clause-marks c =
    pushed-all HasMarkByte _ _ _ _ _ _ _ c.requires.marks c.in-Some.ensures.mark c.push_lexeme.ensures.pushed

pub returns-in-Some-clause-places : goal.returns-in-Some-clause-places
returns-in-Some-clause-places c =
    let start : ℕ = c.args.cursor.place + c.blanks_len.result in
    let end : start + 1 + c.in-Some.lexeme.more ≤ length c.args.line.now =
    omega (arith, c.in-Some.ensures.within, ap length (part-from start c.args.line.now), length-drop start c.args.line.now) in
    pushed-all (LiesInLine (length c.args.line.now)) _ _ _ _ _ _ _ c.requires.places (omega arith, end) c.push_lexeme.ensures.pushed
