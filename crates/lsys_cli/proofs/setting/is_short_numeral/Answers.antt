use Rattle.std.proofs.Common.{◌≡◌, true, ap, sym, ◌∙◌, arith, nat_le, ◌&&◌, length}
use Rattle.std.specs.Char.{is_ascii_digit}
use Rattle.std.specs.List.{list_all}
use Rattle.std.proofs.lemmas.Bool.Decides.{nat_tests}
use Rattle.std.proofs.Math.Bool.{and-true}
use Rattle.lsys_cli.proofs.Numbers.{all_digits}
use Rattle.lsys_cli.proofs.setting.is_short_numeral.Goals as goal

pub returns-then-word-le20 : goal.returns-then-word-le20
returns-then-word-le20 c =
    let short : nat_le (length c.args.word.now) 20 ≡ true = grind (arith, nat_tests) in
    all_digits c.has_only_digits.result c.args.word.now c.has_only_digits.ensures ∙ sym (ap (λ b. list_all is_ascii_digit c.args.word.now && b) short ∙ and-true (list_all is_ascii_digit c.args.word.now))
