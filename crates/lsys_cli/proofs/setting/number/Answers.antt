use Rattle.std.proofs.Common.{◌∙◌, sym}
use Rattle.lsys_cli.proofs.Numbers.{parsed, unparsed}
use Rattle.lsys_cli.proofs.setting.number.Goals as goal

pub returns-then-is_short_numeral : goal.returns-then-is_short_numeral
returns-then-is_short_numeral c = c.ok.ensures.value ∙ parsed c.args.word.now c.parse.result c.parse.ensures.value.0 (sym c.is_short_numeral.ensures ∙ c.if-is_short_numeral.true)

pub returns-else-is_short_numeral : goal.returns-else-is_short_numeral
returns-else-is_short_numeral c = unparsed c.args.word.now (sym c.is_short_numeral.ensures ∙ c.if-is_short_numeral.false)
