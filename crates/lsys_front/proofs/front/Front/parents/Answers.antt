use Rattle.lsys_front.proofs.Gathered.{gathered_all}
use Rattle.lsys_front.proofs.front.Front.parents.Goals as goal

pub returns-clause-are : goal.returns-clause-are
returns-clause-are c = gathered_all c.args.self.now c.args.renewed.now c.args.seats.now c.gather_parents-outcome.new.seats c.new-nodes.result.items c.gather_parents-outcome.new.nodes.items c.new-nodes.ensures.items c.requires.clear
    c.gather_parents-outcome.ensures.gathers c.in_ok-outcome.ensures.all
