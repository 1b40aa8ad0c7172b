use Rattle.std.proofs.Common.{arith, map, ap, sym, ◌∙◌}
use Rattle.std.proofs.lemmas.Grind.{elements}
use Rattle.lsys_module.specs.Views.{module_name}
use Rattle.lsys_reading.specs.Commands.{list_kind_of}
use Rattle.lsys_front.proofs.Listed.{same_in_order, same_lists}
use Rattle.lsys_front.proofs.filters.have_same_names.Goals as goal

pub returns-then-eq : goal.returns-then-eq
returns-then-eq c =
    let old = c.args.old in
    let new = c.args.new in
    sym (same_in_order (list_kind_of old.kind) (list_kind_of new.kind) (map module_name old.names.now) (map module_name new.names.now)
    (sym c.is_same_kind.ensures ∙ c.if-not-is_same_kind.false)
    (ap (map module_name) (same_lists old.names.now new.names.now (sym c.eq.ensures ∙ c.if-eq.true))))

pub returns-in_ok-are_listed-2 : goal.returns-in_ok-are_listed-2
returns-in_ok-are_listed-2 c = grind (arith, elements)
