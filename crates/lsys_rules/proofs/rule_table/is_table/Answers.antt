use Rattle.std.proofs.Common.{rules, ◌∙◌, sym, bytes_eq}
use Rattle.std.proofs.lemmas.Iterator.{YieldsList-from_slice}
use Rattle.std.proofs.lemmas.Iterator.Search.{any_from_yields_List}
use Rattle.lsys_rules.proofs.Tables.{any_same}
use Rattle.lsys_rules.proofs.rule_table.is_table.Goals as goal

pub returns : goal.returns
returns c =
    any_from_yields_List (λ t. bytes_eq t c.args.word) _ _ _ c.any.ensures.ran (YieldsList-from_slice c.args.tables.now cc) (λ x b q k. search rules)
    ∙ sym (any_same (λ t. bytes_eq t c.args.word) c.args.tables.now)
