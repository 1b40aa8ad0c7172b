use Rattle.std.proofs.Common.{◌∙◌, Bool, ap, sym}
use Rattle.lsys_pass.specs.Queues.{those_in}
use Rattle.lsys_pass.proofs.Queued.{filled_left, filled_counted}
use Rattle.lsys_pass.proofs.queue.give_slots.Goals as goal

pub returns-then-whole-clause-counted : goal.returns-then-whole-clause-counted
returns-then-whole-clause-counted c = filled_counted c.add_slots.new.slots.items c.args.nodes.now c.add_slots.ensures

pub returns-then-whole-clause-left : goal.returns-then-whole-clause-left
returns-then-whole-clause-left c =
    filled_left c.add_slots.new.slots.items c.args.nodes.now c.add_slots.ensures ∙ ap (λ (b : Bool). those_in b c.args.nodes.now c.args.slots.now.items) (sym c.if-whole.true)
