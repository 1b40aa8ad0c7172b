use Rattle.std.proofs.Common.{◌∷◌, ◌++◌, [], map}
use Rattle.std.proofs.lemmas.Result.{err_from_is_err_and}
use Rattle.lsys_syntax.specs.Pieces.{token, note, a_param, expr_begins, expr_ends}
use Rattle.lsys_bodies.proofs.Counted.{counts-on, counts-passed, counts-param}
use Rattle.lsys_bodies.proofs.counter.RuleCounts.param.Goals as goal

pub returns-in_err-marked : goal.returns-in_err-marked
returns-in_err-marked c k ks e =
    let p = err_from_is_err_and c.from_residual.result c.from_residual.ensures.1 in
    rw (p.1, p.2) (counts-passed (token k ∷ []) (note a_param ∷ note expr_begins ∷ (map token ks ++ note expr_ends ∷ [])) (c.in_err-marked.ensures.counted k))

pub returns : goal.returns
returns c k ks e =
    let inner = note expr_begins ∷ (map token ks ++ note expr_ends ∷ []) in
    counts-on (token k ∷ []) (note a_param ∷ inner) (c.in_ok-marked.ensures.counted k) (counts-param c.in_ok-marked.marked inner (c.tokens_inside.ensures ks e))
