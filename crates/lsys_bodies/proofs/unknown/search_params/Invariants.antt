use Rattle.std.proofs.Common.{drop}
use Rattle.lsys_text.specs.Tokens.{kind_row}
use Rattle.lsys_bodies.proofs.Searches.{SearchGoes, params}
use Rattle.lsys_bodies.proofs.unknown.search_params.Given as goal

abbrev pub invariant-loop-param : goal.invariant-loop-param
invariant-loop-param l = SearchGoes l.formals l.place (params (kind_row l.tokens) l.params) l.end (params (kind_row l.tokens) (drop l.param-index l.params))
