use Rattle.std.proofs.Common.{◌≡◌, List}
use Rattle.std.specs.Prelude.{ℤ}
use Rattle.std.proofs.lemmas.Result.{IfOk-weaker}
use Rattle.lsys_syntax.specs.Strings as S
use Rattle.lsys_motion.specs.Keepers.{Keeps, begun}
use Rattle.lsys_motion.proofs.Keeping.{begin_keeps}
use Rattle.lsys_motion.proofs.keeper.Keeper.begin_where.Goals as goal

pub returns-then-wanted : goal.returns-then-wanted
returns-then-wanted g c =
    let l = g.T.Lattice.shape in
    let old = c.args.self.now in
    let new = c.begin.new.self in
    IfOk-weaker c.begin.result (λ _. new ≡ begun l old) (λ _. (rest : List (S.Symbol ℤ)) → Keeps l rest rest old new) (λ _ e. begin_keeps l old new e c.begin.ensures.known) c.begin.ensures.begun
