use Rattle.lsys_pass.proofs.Beginnings.{first_origin}
use Rattle.lsys_pass.proofs.pass.Pass.come_to_first.Goals as goal

pub come_to-requires-clause-origin : goal.come_to-requires-clause-origin
come_to-requires-clause-origin g c = first_origin c.args.self.now c.make_first_level.new.self c.requires.still c.in_ok-make_first_level.ensures.goes
