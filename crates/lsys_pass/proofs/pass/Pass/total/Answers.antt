use Rattle.std.proofs.Common.{◌≤◌, sym, ap, subst}
use Rattle.lsys_pass.specs.Sizes.{total_of}
use Rattle.lsys_pass.proofs.Deriving.{under_limit}
use Rattle.lsys_pass.proofs.pass.Pass.total.Goals as goal

pub room_under-requires : goal.room_under-requires
room_under-requires g c = subst (λ n. n ≤ c.self.inside.limit) (sym (ap total_of c.deref.ensures.value)) (under_limit _ c.self.invariant)
