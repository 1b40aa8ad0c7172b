use Rattle.std.proofs.Common.{◌≡◌, ◌≢◌, ℕ, map, slice_get, Option, Some, None, refl, sym, ap, ◌∙◌, subst}
use Rattle.std.specs.Prelude.{IsSome, option_map}
use Rattle.std.proofs.lemmas.Option.{none-some}
use Rattle.lsys_spec.specs.Rows.{In, AreApart}
use Rattle.lsys_forest.specs.Shelves.{run_list, run_at}
use Rattle.lsys_forest.specs.declared.walk.Way.{Way}
use Rattle.lsys_forest.specs.Slots.{slot_at, link_at, footing_mate}
use Rattle.lsys_forest.specs.Nodes.{Node, Nodes}
use Rattle.lsys_forest.specs.Stocks.{Stock, nodes_of, changes_of, row_at, node_of}
use Rattle.lsys_forest.specs.Groves.{IsRooted}
use Rattle.lsys_forest.specs.Rows.{kids_in}
use Rattle.lsys_forest.specs.Ranks.{AreRanked}
use Rattle.lsys_forest.proofs.ShelfLemmas.{run_live, run_read}
use Rattle.lsys_forest.proofs.StockLemmas.{shown_nodes, lives_stored}
use Rattle.lsys_forest.proofs.RowLemmas.{child, kids_apart}
use Rattle.lsys_forest.proofs.WalkLemmas.{rows_are}
use Rattle.lsys_forest.proofs.RankLemmas.{reranked}
use Rattle.lsys_forest.proofs.stock.Parts.rerank.Goals as goal

mapped_some : {X Y : Type 0} (o : Option X) (r run : Option ℕ) → Some run ≡ option_map (λ s. r) o → (f : X → Y) → IsSome (option_map f o)
mapped_some None r run e f = absurd (none-some run (sym e))
mapped_some (Some s) r run e f = refl

mapped_none : {X Y : Type 0} (o : Option X) (r : Option ℕ) → None ≡ option_map (λ s. r) o → (f : X → Y) → option_map f o ≡ None
mapped_none None r e f = refl
mapped_none (Some s) r e f = absurd (none-some r e)

pub read-kids-requires : goal.read-kids-requires
read-kids-requires g c =
    let i = c.self.inside in
    run_live i.kids i.table.kid_runs (slot_at i.table.slots c.args.node) c.args.node c.in-Some.run'.now c.in-Some.ensures c.self.invariant.kids

pub number-requires-clause-apart : goal.number-requires-clause-apart
number-requires-clause-apart g c =
    let i = c.self.inside in
    let k = c.args.node in
    let params = map (run_list i.params.pool) i.table.param_runs in
    let kids = map (run_list i.kids.pool) i.table.kid_runs in
    let m = shown_nodes i.table.slots params kids in
    let s = subst (λ (t : Stock g.row.A.Denot). (root : ℕ) × IsRooted root (changes_of t) (nodes_of t)) (sym c.self.view_is) c.requires in
    let lives = mapped_some (slot_at i.table.slots k) (run_at i.table.kid_runs k) c.in-Some.run'.now c.in-Some.ensures (node_of (row_at params k) (row_at kids k)) in
    let list : c.read-kids.result.now ≡ kids_in (m k) = run_read i.kids i.table.kid_runs (slot_at i.table.slots k) k c.in-Some.run'.now c.read-kids.result.now c.in-Some.ensures c.read-kids.ensures ∙ rows_are i.table.slots params kids k lives in
    subst AreApart (sym list) (kids_apart s.0 _ m s.1 k)

pub number-requires-clause-live : goal.number-requires-clause-live
number-requires-clause-live g c = λ j h.
    let i = c.self.inside in
    let k = c.args.node in
    let params = map (run_list i.params.pool) i.table.param_runs in
    let kids = map (run_list i.kids.pool) i.table.kid_runs in
    let m = shown_nodes i.table.slots params kids in
    let s = subst (λ (t : Stock g.row.A.Denot). (root : ℕ) × IsRooted root (changes_of t) (nodes_of t)) (sym c.self.view_is) c.requires in
    let lives = mapped_some (slot_at i.table.slots k) (run_at i.table.kid_runs k) c.in-Some.run'.now c.in-Some.ensures (node_of (row_at params k) (row_at kids k)) in
    let list : c.read-kids.result.now ≡ kids_in (m k) = run_read i.kids i.table.kid_runs (slot_at i.table.slots k) k c.in-Some.run'.now c.read-kids.result.now c.in-Some.ensures c.read-kids.ensures ∙ rows_are i.table.slots params kids k lives in
    let under = child s.0 _ m s.1 k j (subst (In j) list h) in
    let stored = lives_stored i.table.slots params kids j (subst IsSome (sym under.is) refl) in
    subst IsSome (sym stored.1) refl

pub returns-in-Some-clause-ranked : goal.returns-in-Some-clause-ranked
returns-in-Some-clause-ranked g c =
    let i = c.self.inside in
    let k = c.args.node in
    let params = map (run_list i.params.pool) i.table.param_runs in
    let kids = map (run_list i.kids.pool) i.table.kid_runs in
    let m = shown_nodes i.table.slots params kids in
    let s = subst (λ (t : Stock g.row.A.Denot). (root : ℕ) × IsRooted root (changes_of t) (nodes_of t)) (sym c.self.view_is) c.requires in
    let lives = mapped_some (slot_at i.table.slots k) (run_at i.table.kid_runs k) c.in-Some.run'.now c.in-Some.ensures (node_of (row_at params k) (row_at kids k)) in
    let list : c.read-kids.result.now ≡ kids_in (m k) = run_read i.kids i.table.kid_runs (slot_at i.table.slots k) k c.in-Some.run'.now c.read-kids.result.now c.in-Some.ensures c.read-kids.ensures ∙ rows_are i.table.slots params kids k lives in
    subst (λ (t : Stock g.row.A.Denot). (before : Nodes g.row.A.Denot) → ((j : ℕ) → j ≢ k → nodes_of t j ≡ before j) → AreRanked before t.footings → AreRanked (nodes_of t) c.number.new.table.footings) c.self.view_is
    (λ before other ranked. reranked s.0 _ before m k i.table.footings c.number.new.table.footings s.1 other (λ x j here. c.number.ensures.stands x j (ap (λ l. slice_get l x) list ∙ here)) (λ j none. c.number.ensures.others j (λ h. none (subst (In j) list h))) ranked)

pub returns-in_default-clause-ranked : goal.returns-in_default-clause-ranked
returns-in_default-clause-ranked g c =
    let i = c.self.inside in
    let k = c.args.node in
    let params = map (run_list i.params.pool) i.table.param_runs in
    let kids = map (run_list i.kids.pool) i.table.kid_runs in
    let m = shown_nodes i.table.slots params kids in
    let s = subst (λ (t : Stock g.row.A.Denot). (root : ℕ) × IsRooted root (changes_of t) (nodes_of t)) (sym c.self.view_is) c.requires in
    let none : m k ≡ None = mapped_none (slot_at i.table.slots k) (run_at i.table.kid_runs k) c.in_default.ensures (node_of (row_at params k) (row_at kids k)) in
    subst (λ (t : Stock g.row.A.Denot). (before : Nodes g.row.A.Denot) → ((j : ℕ) → j ≢ k → nodes_of t j ≡ before j) → AreRanked before t.footings → AreRanked (nodes_of t) t.footings) c.self.view_is
    (λ before other ranked. reranked s.0 _ before m k i.table.footings i.table.footings s.1 other (λ x j here. absurd (none-some j (ap (λ (o : Option (Node g.row.A.Denot)). slice_get (kids_in o) x) (sym none) ∙ here))) (λ j no. refl) ranked)

pub returns-in-Some-clause-links : goal.returns-in-Some-clause-links
returns-in-Some-clause-links g c =
    subst (λ (t : Stock g.row.A.Denot). (way : Way) (j : ℕ) → link_at way c.number.new.table.footings j ≡ link_at way t.footings j) c.self.view_is c.number.ensures.links

pub returns-in-Some-clause-mates : goal.returns-in-Some-clause-mates
returns-in-Some-clause-mates g c =
    subst (λ (t : Stock g.row.A.Denot). (j : ℕ) → footing_mate c.number.new.table.footings j ≡ footing_mate t.footings j) c.self.view_is c.number.ensures.mates
