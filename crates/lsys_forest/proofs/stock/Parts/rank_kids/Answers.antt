use Rattle.std.proofs.Common.{◌≡◌, ◌≢◌, ℕ, map, slice_get, refl, sym, ap, ◌∙◌, subst}
use Rattle.std.specs.Prelude.{IsSome}
use Rattle.lsys_spec.specs.Rows.{In, AreApart}
use Rattle.lsys_forest.specs.Shelves.{run_list}
use Rattle.lsys_forest.specs.declared.walk.Way.{Way}
use Rattle.lsys_forest.specs.Slots.{link_at, footing_mate}
use Rattle.lsys_forest.specs.Nodes.{Nodes}
use Rattle.lsys_forest.specs.Stocks.{Stock, nodes_of, changes_of}
use Rattle.lsys_forest.specs.Groves.{IsRooted}
use Rattle.lsys_forest.specs.Neighbours.{kids_kept}
use Rattle.lsys_forest.specs.Ranks.{AreRanked}
use Rattle.lsys_forest.proofs.StockLemmas.{shown_nodes, lives_stored}
use Rattle.lsys_forest.proofs.RowLemmas.{child, kids_apart}
use Rattle.lsys_forest.proofs.RankLemmas.{reranked}
use Rattle.lsys_forest.proofs.stock.Parts.rank_kids.Goals as goal

pub number-requires-clause-apart : goal.number-requires-clause-apart
number-requires-clause-apart g c =
    let i = c.self.inside in
    let k = c.args.node in
    let m = shown_nodes i.table.slots (map (run_list i.params.pool) i.table.param_runs) (map (run_list i.kids.pool) i.table.kid_runs) in
    let s = subst (λ (t : Stock g.row.A.Denot). (root : ℕ) × IsRooted root (changes_of t) (nodes_of t)) (sym c.self.view_is) c.requires.sound in
    let list = subst (λ (t : Stock g.row.A.Denot). kids_kept t k ≡ c.args.kids.now) (sym c.self.view_is) c.requires.kids in
    subst AreApart list (kids_apart s.0 _ m s.1 k)

pub number-requires-clause-live : goal.number-requires-clause-live
number-requires-clause-live g c = λ j h.
    let i = c.self.inside in
    let k = c.args.node in
    let params = map (run_list i.params.pool) i.table.param_runs in
    let kids = map (run_list i.kids.pool) i.table.kid_runs in
    let m = shown_nodes i.table.slots params kids in
    let s = subst (λ (t : Stock g.row.A.Denot). (root : ℕ) × IsRooted root (changes_of t) (nodes_of t)) (sym c.self.view_is) c.requires.sound in
    let list = subst (λ (t : Stock g.row.A.Denot). kids_kept t k ≡ c.args.kids.now) (sym c.self.view_is) c.requires.kids in
    let under = child s.0 _ m s.1 k j (subst (In j) (sym list) h) in
    let stored = lives_stored i.table.slots params kids j (subst IsSome (sym under.is) refl) in
    subst IsSome (sym stored.1) refl

pub returns-clause-ranked : goal.returns-clause-ranked
returns-clause-ranked g c =
    let i = c.self.inside in
    let k = c.args.node in
    let m = shown_nodes i.table.slots (map (run_list i.params.pool) i.table.param_runs) (map (run_list i.kids.pool) i.table.kid_runs) in
    let s = subst (λ (t : Stock g.row.A.Denot). (root : ℕ) × IsRooted root (changes_of t) (nodes_of t)) (sym c.self.view_is) c.requires.sound in
    let list = subst (λ (t : Stock g.row.A.Denot). kids_kept t k ≡ c.args.kids.now) (sym c.self.view_is) c.requires.kids in
    subst (λ (t : Stock g.row.A.Denot). (before : Nodes g.row.A.Denot) → ((j : ℕ) → j ≢ k → nodes_of t j ≡ before j) → AreRanked before t.footings → AreRanked (nodes_of t) c.number.new.table.footings) c.self.view_is
    (λ before other ranked. reranked s.0 _ before m k i.table.footings c.number.new.table.footings s.1 other (λ x j here. c.number.ensures.stands x j (ap (λ l. slice_get l x) (sym list) ∙ here)) (λ j none. c.number.ensures.others j (λ h. none (subst (In j) (sym list) h))) ranked)

pub returns-clause-links : goal.returns-clause-links
returns-clause-links g c =
    subst (λ (t : Stock g.row.A.Denot). (way : Way) (j : ℕ) → link_at way c.number.new.table.footings j ≡ link_at way t.footings j) c.self.view_is c.number.ensures.links

pub returns-clause-mates : goal.returns-clause-mates
returns-clause-mates g c =
    subst (λ (t : Stock g.row.A.Denot). (j : ℕ) → footing_mate c.number.new.table.footings j ≡ footing_mate t.footings j) c.self.view_is c.number.ensures.mates
