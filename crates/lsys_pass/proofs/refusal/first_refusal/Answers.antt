use Rattle.std.proofs.Common.{refl, arith}
use Rattle.lsys_pass.proofs.refusal.first_refusal.Goals as goal

pub returns-then-symbols-limit : goal.returns-then-symbols-limit
returns-then-symbols-limit c = λ s e. (refl, (let m = c.if-symbols-limit.true in omega (arith, m, e)))
