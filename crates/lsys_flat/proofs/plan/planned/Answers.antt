use Rattle.std.proofs.Common.{map, arith}
use Rattle.std.proofs.lemmas.Grind.{common_steps}
use Rattle.lsys_flat.specs.Answers.{lists_of}
use Rattle.lsys_flat.specs.Lines.{line_of}
use Rattle.lsys_flat.proofs.DraftingSteps.{few_filled, is_planned}
use Rattle.lsys_flat.proofs.plan.planned.Goals as goal

pub returns-in-Ok-clause-planned : goal.returns-in-Ok-clause-planned
returns-in-Ok-clause-planned g c = λ xs olds.
    is_planned c.args.system.now c.args.limit xs (map line_of c.args.olds.now.ancestries.now) (lists_of c.args.olds.now.answers.now) c.args.store.now c.complete.new.store c.args.visited.now c.complete.new.visited c.complete.new.self c.finish.result.view _ _ _ c.finish.result.count c.in-Ok.ensures.well
    (c.in-Ok.ensures.completed c.args.limit xs c.in_ok-draft.ensures olds) c.in-Ok.ensures.found c.finish.ensures.view c.finish.ensures.lines c.finish.ensures.fresh c.finish.ensures.taken c.finish.ensures.asked c.finish.ensures.all

pub returns-in-Err-clause-few_asked : goal.returns-in-Err-clause-few_asked
returns-in-Err-clause-few_asked g c =
    let few = c.in-Err.ensures.few_asked c.args.limit c.in_ok-draft.ensures in
    let most = few_filled c.complete.new.self.fresh in
    record { from = omega (arith, c.in-Err.ensures.asked); to = omega (arith, c.in-Err.ensures.asked, few, most) }

pub complete-requires : goal.complete-requires
complete-requires g c = grind (arith, common_steps)

pub returns-in-Ok-clause-new : goal.returns-in-Ok-clause-new
returns-in-Ok-clause-new g c = grind (arith, common_steps)

pub returns-in-Ok-clause-asked : goal.returns-in-Ok-clause-asked
returns-in-Ok-clause-asked g c = grind (arith, common_steps)
