use Rattle.lsys_pass.proofs.level.next_front.Goals as goal

pub returns : goal.returns
returns g c = let front = c.in_ok-next.ensures in record { told = front.told; looks = front.looks; below = front.below; bare = front.bare }
