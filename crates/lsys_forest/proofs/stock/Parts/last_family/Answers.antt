use Rattle.std.proofs.Common.{◌≡◌, ◌++◌, ◌∷◌, [], List, map, subst}
use Rattle.std.specs.Prelude.{IfSome, IfNone}
use Rattle.lsys_forest.specs.Shelves.{run_list}
use Rattle.lsys_forest.specs.Changes.{Change, KeepsKids}
use Rattle.lsys_forest.specs.Stocks.{Stock, changes_of}
use Rattle.lsys_forest.proofs.LastLemmas.{family_is, family_none}
use Rattle.lsys_forest.proofs.stock.Parts.last_family.Goals as goal

pub returns-clause-some : goal.returns-clause-some
returns-clause-some g c =
    let i = c.self.inside in
    subst (λ (t : Stock g.row.A.Denot). IfSome c.last_family.result (λ k. (x : Change g.row.A.Denot) (earlier : List (Change g.row.A.Denot)) → changes_of t ≡ earlier ++ x ∷ [] → x.node ≡ k)) c.self.view_is
    (family_is c.last_family.result i.journal.notes (map (run_list i.params.pool) i.params.past) (map (run_list i.kids.pool) i.kids.past) c.last_family.ensures.some)

pub returns-clause-none : goal.returns-clause-none
returns-clause-none g c =
    let i = c.self.inside in
    subst (λ (t : Stock g.row.A.Denot). IfNone c.last_family.result ((x : Change g.row.A.Denot) (earlier : List (Change g.row.A.Denot)) → changes_of t ≡ earlier ++ x ∷ [] → KeepsKids x.before)) c.self.view_is
    (family_none c.last_family.result i.journal.notes (map (run_list i.params.pool) i.params.past) (map (run_list i.kids.pool) i.kids.past) c.last_family.ensures.none)
