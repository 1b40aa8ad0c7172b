use Rattle.std.proofs.Common.{ap, ap₂, sym, refl, ◌∙◌}
use Rattle.std.specs.Cmp.Lexicographic.{lists_agrees}
use Rattle.std.specs.Ordering.{is_lt, is_some_and}
use Rattle.lsys_spec.specs.Systems.{comes_before}
use Rattle.lsys_rules.proofs.OwnOrder.{before_compared}
use Rattle.lsys_growth.proofs.Names.{module_name-text}
use Rattle.lsys_growth.proofs.letters.comes_before.Goals as goal

pub returns : goal.returns
returns c =
    let one = c.as_bytes.result.now in
    let other = c.as_bytes-2.result.now in
    c.lt.ensures ∙ ap (is_some_and is_lt) (lists_agrees (λ x y. refl) one other) ∙ sym (before_compared one other)
    ∙ ap₂ comes_before
    (c.as_bytes.ensures.bytes ∙ c.text.ensures.text ∙ sym (module_name-text c.args.one c.text.ensures.name))
    (c.as_bytes-2.ensures.bytes ∙ c.text-2.ensures.text ∙ sym (module_name-text c.args.other c.text-2.ensures.name))
