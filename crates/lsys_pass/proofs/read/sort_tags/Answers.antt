use Rattle.lsys_pass.proofs.Settling.{has_in_order}
use Rattle.lsys_pass.proofs.read.sort_tags.Goals as goal

pub returns-then-not-is_sorted_by_key : goal.returns-then-not-is_sorted_by_key
returns-then-not-is_sorted_by_key c = λ k. has_in_order c.args.tags.now.items c.sort_unstable_by_key.new.self.items k c.sort_unstable_by_key.ensures.permutation
