use Rattle.std.proofs.Common.{◌≡◌, ◌<◌, ◌∙◌, arith, ap, sym, drop, length, min}
use Rattle.std.specs.List.{prefix_len}
use Rattle.lsys_syntax.specs.Tokens.{is_alphanumeric, front}
use Rattle.lsys_text.proofs.Fronts.{part-from, length-front}
use Rattle.lsys_text.proofs.Longest.{name_more-tail}
use Rattle.lsys_text.proofs.scan.name_more.Goals as goal

pub returns-in_default-clause-more : goal.returns-in_default-clause-more
returns-in_default-clause-more c =
    let plain : c.plain_len.result ≡ length (front is_alphanumeric (drop 1 c.args.after.now)) =
    c.plain_len.ensures.len ∙ ap (prefix_len is_alphanumeric) (part-from 1 c.args.after.now) ∙ sym (length-front is_alphanumeric (drop 1 c.args.after.now)) in
    let some : 0 < length c.args.after.now = omega arith in
    let tail : 0 < c.min.result = omega arith in
    name_more-tail c.args.after.now c.min.result some c.if-after-ne95.false (c.min.ensures ∙ ap (λ n. min n 6) plain) tail
