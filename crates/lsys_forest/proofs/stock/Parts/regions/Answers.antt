use Rattle.std.proofs.Common.{◌≡◌, ℕ, ℤ, [], sym, subst}
use Rattle.lsys_region.specs.Pool.{Pool}
use Rattle.lsys_forest.specs.Stocks.{Stock, nodes_of, changes_of}
use Rattle.lsys_forest.specs.Regions.{StandIn}
use Rattle.lsys_forest.proofs.RegionLemmas.{params_stand, kids_stand, no_past_params, no_past_kids}
use Rattle.lsys_forest.proofs.stock.Parts.regions.Goals as goal

pub returns-clause-params : goal.returns-clause-params
returns-clause-params g c =
    let i = c.self.inside in
    subst (λ (pool : Pool ℤ). StandIn (nodes_of c.args.self.now) c.args.self.now.params c.args.self.now.past_params pool) (sym c.region.ensures)
    (subst (λ (t : Stock g.row.A.Denot). StandIn (nodes_of t) t.params t.past_params i.params.pool) c.self.view_is
    (params_stand i.table i.params i.kids i.journal c.self.invariant c.law_of_vacant_numbers.ensures))

pub returns-clause-kids : goal.returns-clause-kids
returns-clause-kids g c =
    let i = c.self.inside in
    subst (λ (pool : Pool ℕ). StandIn (nodes_of c.args.self.now) c.args.self.now.kids c.args.self.now.past_kids pool) (sym c.region-2.ensures)
    (subst (λ (t : Stock g.row.A.Denot). StandIn (nodes_of t) t.kids t.past_kids i.kids.pool) c.self.view_is
    (kids_stand i.table i.params i.kids i.journal c.self.invariant c.law_of_vacant_numbers.ensures))

pub returns-clause-rest : goal.returns-clause-rest
returns-clause-rest g c =
    let i = c.self.inside in
    subst (λ (t : Stock g.row.A.Denot). changes_of t ≡ [] → (t.past_params ≡ []) × (t.past_kids ≡ [])) c.self.view_is
    (λ h. (no_past_params i.table i.params i.kids i.journal c.self.invariant h, no_past_kids i.table i.params i.kids i.journal c.self.invariant h))
