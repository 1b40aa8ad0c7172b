use Rattle.std.proofs.Common.{arith, ℤ, ◌≡◌}
use Rattle.std.proofs.lemmas.Int.{ints}
use Rattle.std.proofs.lemmas.Grind.{common_steps}
use Rattle.lsys_lattice.proofs.cubic.CubicLattice.project.Goals as goal

pair : (a b c d : ℤ) → a ≡ b → c ≡ d → ◌≡◌ {A = ℤ × ℤ} (a, c) (b, d)
pair a b c d p q = cc

pub returns : goal.returns
returns c = pair _ _ _ _ (omega (arith, ints)) (omega (arith, ints))

pub overflow_mul-result-2 : goal.overflow_mul-result-2
overflow_mul-result-2 c = grind (arith, common_steps)
