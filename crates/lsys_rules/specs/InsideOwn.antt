-- How own lists are kept: by table, in the order of the tables' words.
use Rattle.std.specs.Prelude.{not, map}
use Rattle.indexmap.specs.IndexMap.{IndexMap, values}
use Rattle.lsys_spec.specs.Systems as spec
use Rattle.lsys_spec.specs.Systems.{in_order, Apart}
use Rattle.lsys_text.specs.declared.names.Word.{Word}
use Rattle.lsys_module.specs.Views.{module_name}
use Rattle.lsys_reading.specs.Commands.{list_kind_of}
use Rattle.lsys_rules.specs.declared.own_list.OwnList.TheInside as lists
use Rattle.lsys_rules.specs.declared.own_list.OwnList.{OwnList}
use Rattle.lsys_rules.specs.InsideRules.{HaveOwnLabels}

abbrev pub own_in : lists.Inside → spec.Own
own_in a = record { table = a.table; kind = list_kind_of a.kind; names = map module_name a.names.items }

-- each list stands under its own table, before those of later words
pub record AreByTable {S : Type 0} (m : IndexMap Word OwnList S) : Type 0 where
  pub tables : HaveOwnLabels (λ o. o.table) m.entries
  pub ordered : Apart (λ o q. not (in_order o q)) (values m)
