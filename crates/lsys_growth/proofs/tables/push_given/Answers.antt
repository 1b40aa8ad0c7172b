use Rattle.std.proofs.Common.{map}
use Rattle.lsys_module.specs.Views.{module_name}
use Rattle.lsys_growth.proofs.Counts.{given_added, alone_added}
use Rattle.lsys_growth.proofs.Results.{on_ok}
use Rattle.lsys_growth.proofs.tables.push_given.Goals as goal

pub returns-in-Some-first : goal.returns-in-Some-first
returns-in-Some-first c =
    on_ok c.push_successor.result
    (λ a. given_added c.args.system.now c.args.level (map module_name c.args.letters.now) c.in-Some.name c.args.letter c.rules_for.result.now c.in-Some-first.rule.now c.get.result.now c.deref.result.now c.args.entries.now.items c.push_successor.new.entries.items
    c.in-Some.is c.rules_for.ensures c.in-Some-first.ensures.value c.get.ensures.body c.deref.ensures.value a)
    c.push_successor.ensures

pub returns-in-None : goal.returns-in-None
returns-in-None c =
    on_ok c.push_alone-in-None.result
    (λ a. alone_added c.args.system.now c.args.level (map module_name c.args.letters.now) c.in-Some.name c.args.letter c.rules_for.result.now c.args.entries.now.items c.push_alone-in-None.new.entries.items
    c.in-Some.is c.rules_for.ensures c.in-None.ensures.value a)
    c.push_alone-in-None.ensures
