use Rattle.std.proofs.Common.{◌∷◌, []}
use Rattle.std.proofs.lemmas.Result.{err_from_is_err_and}
use Rattle.lsys_syntax.specs.Pieces.{token, note, a_param}
use Rattle.lsys_bodies.proofs.Counted.{counts-on, counts-passed, counts-formal}
use Rattle.lsys_bodies.proofs.counter.RuleCounts.formal.Goals as goal

pub returns-in_err-marked : goal.returns-in_err-marked
returns-in_err-marked c j k =
    let p = err_from_is_err_and c.from_residual.result c.from_residual.ensures.1 in
    rw (p.1, p.2) (counts-passed (token j ∷ []) (note a_param ∷ token k ∷ []) (c.in_err-marked.ensures.counted j))

pub returns : goal.returns
returns c j k = counts-on (token j ∷ []) (note a_param ∷ token k ∷ []) (c.in_ok-marked.ensures.counted j) (counts-formal c.in_ok-marked.marked k c.one_more.result c.one_more.ensures)
