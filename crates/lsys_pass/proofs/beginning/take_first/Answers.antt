use Rattle.lsys_pass.proofs.beginning.take_first.Goals as goal

pub returns-clause-first : goal.returns-clause-first
returns-clause-first g c = let front = c.in_ok-front.ensures in record { told = front.told; looked = front.looked; bare = front.bare }
