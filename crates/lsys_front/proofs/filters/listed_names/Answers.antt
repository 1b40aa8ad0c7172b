use Rattle.std.proofs.Common.{map, subst}
use Rattle.std.proofs.lemmas.List.{take_all}
use Rattle.lsys_module.specs.Views.{module_name}
use Rattle.lsys_front.specs.Listed.{ListsNames}
use Rattle.lsys_front.proofs.Listed.{no_names, next_name}
use Rattle.lsys_front.proofs.filters.listed_names.Goals as goal

pub loop-name-init : goal.loop-name-init
loop-name-init c = no_names c.new-listed.result c.new-listed.ensures.empty

pub loop-name-preserved : goal.loop-name-preserved
loop-name-preserved c =
    next_name c.loop-name.listed c.list_name.new.listed c.args.names.now c.loop-name.name-index c.name-item.result c.loop-name-test.true c.name-item.is c.in_ok-list_name.ensures c.loop-name.invariant

pub returns : goal.returns
returns c = subst (λ ns. ListsNames c.loop-name.listed (map module_name ns)) (take_all c.loop-name.name-index c.args.names.now c.loop-name-test.false) c.loop-name.invariant
