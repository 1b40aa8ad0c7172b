use Rattle.std.proofs.Common.{◌≡◌, ℕ, map, Option, Some, None, refl, sym, ap, ◌∙◌, subst}
use Rattle.std.specs.Prelude.{IsSome, option_map}
use Rattle.std.proofs.lemmas.Option.{none-some}
use Rattle.lsys_spec.specs.Rows.{In, AreApart}
use Rattle.lsys_forest.specs.Shelves.{run_list, run_at}
use Rattle.lsys_forest.specs.Slots.{slot_at}
use Rattle.lsys_forest.specs.Nodes.{Node}
use Rattle.lsys_forest.specs.Stocks.{Stock, nodes_of, changes_of, row_at, node_of}
use Rattle.lsys_forest.specs.Groves.{IsRooted}
use Rattle.lsys_forest.specs.Rows.{kids_in}
use Rattle.lsys_forest.specs.Ranks.{LinksRow}
use Rattle.lsys_forest.proofs.ShelfLemmas.{run_live, run_read}
use Rattle.lsys_forest.proofs.StockLemmas.{shown_nodes, lives_stored}
use Rattle.lsys_forest.proofs.RowLemmas.{child, kids_apart}
use Rattle.lsys_forest.proofs.WalkLemmas.{rows_are}
use Rattle.lsys_forest.proofs.ChainLemmas.{row_start}
use Rattle.lsys_forest.proofs.stock.Parts.link_kids.Goals as goal

mapped_some : {X Y : Type 0} (o : Option X) (r run : Option ℕ) → Some run ≡ option_map (λ s. r) o → (f : X → Y) → IsSome (option_map f o)
mapped_some None r run e f = absurd (none-some run (sym e))
mapped_some (Some s) r run e f = refl

mapped_none : {X Y : Type 0} (o : Option X) (r : Option ℕ) → None ≡ option_map (λ s. r) o → (f : X → Y) → option_map f o ≡ None
mapped_none None r e f = refl
mapped_none (Some s) r e f = absurd (none-some r e)

pub read-kids-requires : goal.read-kids-requires
read-kids-requires g c =
    let i = c.self.inside in
    run_live i.kids i.table.kid_runs (slot_at i.table.slots c.args.node) c.args.node c.in-Some.run'.now c.in-Some.ensures c.self.invariant.kids

pub link_row-requires-clause-apart : goal.link_row-requires-clause-apart
link_row-requires-clause-apart g c =
    let i = c.self.inside in
    let k = c.args.node in
    let params = map (run_list i.params.pool) i.table.param_runs in
    let kids = map (run_list i.kids.pool) i.table.kid_runs in
    let m = shown_nodes i.table.slots params kids in
    let s = subst (λ (t : Stock g.row.A.Denot). (root : ℕ) × IsRooted root (changes_of t) (nodes_of t)) (sym c.self.view_is) c.requires.sound in
    let lives = mapped_some (slot_at i.table.slots k) (run_at i.table.kid_runs k) c.in-Some.run'.now c.in-Some.ensures (node_of (row_at params k) (row_at kids k)) in
    let list : c.read-kids.result.now ≡ kids_in (m k) = run_read i.kids i.table.kid_runs (slot_at i.table.slots k) k c.in-Some.run'.now c.read-kids.result.now c.in-Some.ensures c.read-kids.ensures ∙ rows_are i.table.slots params kids k lives in
    subst AreApart (sym list) (kids_apart s.0 _ m s.1 k)

pub link_row-requires-clause-live : goal.link_row-requires-clause-live
link_row-requires-clause-live g c = λ j h.
    let i = c.self.inside in
    let k = c.args.node in
    let params = map (run_list i.params.pool) i.table.param_runs in
    let kids = map (run_list i.kids.pool) i.table.kid_runs in
    let m = shown_nodes i.table.slots params kids in
    let s = subst (λ (t : Stock g.row.A.Denot). (root : ℕ) × IsRooted root (changes_of t) (nodes_of t)) (sym c.self.view_is) c.requires.sound in
    let lives = mapped_some (slot_at i.table.slots k) (run_at i.table.kid_runs k) c.in-Some.run'.now c.in-Some.ensures (node_of (row_at params k) (row_at kids k)) in
    let list : c.read-kids.result.now ≡ kids_in (m k) = run_read i.kids i.table.kid_runs (slot_at i.table.slots k) k c.in-Some.run'.now c.read-kids.result.now c.in-Some.ensures c.read-kids.ensures ∙ rows_are i.table.slots params kids k lives in
    let under = child s.0 _ m s.1 k j (subst (In j) list h) in
    let stored = lives_stored i.table.slots params kids j (subst IsSome (sym under.is) refl) in
    subst IsSome (sym stored.1) refl

pub link_row-requires-clause-before : goal.link_row-requires-clause-before
link_row-requires-clause-before g c = λ j e.
    let i = c.self.inside in
    let k = c.args.node in
    let params = map (run_list i.params.pool) i.table.param_runs in
    let kids = map (run_list i.kids.pool) i.table.kid_runs in
    let m = shown_nodes i.table.slots params kids in
    let lives = mapped_some (slot_at i.table.slots k) (run_at i.table.kid_runs k) c.in-Some.run'.now c.in-Some.ensures (node_of (row_at params k) (row_at kids k)) in
    let list : c.read-kids.result.now ≡ kids_in (m k) = run_read i.kids i.table.kid_runs (slot_at i.table.slots k) k c.in-Some.run'.now c.read-kids.result.now c.in-Some.ensures c.read-kids.ensures ∙ rows_are i.table.slots params kids k lives in
    let asked = subst (λ (t : Stock g.row.A.Denot). (j : ℕ) → c.args.before ≡ Some j → IsSome (nodes_of t j) × (In j (kids_in (nodes_of t k)) → ⊥)) (sym c.self.view_is) c.requires.before j e in
    let stored = lives_stored i.table.slots params kids j asked.0 in
    (subst IsSome (sym stored.1) refl, λ h. asked.1 (subst (In j) list h))

pub returns-in-Some-clause-row : goal.returns-in-Some-clause-row
returns-in-Some-clause-row g c =
    let i = c.self.inside in
    let k = c.args.node in
    let params = map (run_list i.params.pool) i.table.param_runs in
    let kids = map (run_list i.kids.pool) i.table.kid_runs in
    let m = shown_nodes i.table.slots params kids in
    let lives = mapped_some (slot_at i.table.slots k) (run_at i.table.kid_runs k) c.in-Some.run'.now c.in-Some.ensures (node_of (row_at params k) (row_at kids k)) in
    let list : c.read-kids.result.now ≡ kids_in (m k) = run_read i.kids i.table.kid_runs (slot_at i.table.slots k) k c.in-Some.run'.now c.read-kids.result.now c.in-Some.ensures c.read-kids.ensures ∙ rows_are i.table.slots params kids k lives in
    subst (λ (t : Stock g.row.A.Denot). LinksRow t.footings c.link_row.new.table.footings c.args.before (kids_in (nodes_of t k)) c.link_row.result) c.self.view_is
    (subst (λ l. LinksRow i.table.footings c.link_row.new.table.footings c.args.before l c.link_row.result) list c.link_row.ensures.row)

pub returns-in-None-clause-row : goal.returns-in-None-clause-row
returns-in-None-clause-row g c =
    let i = c.self.inside in
    let k = c.args.node in
    let params = map (run_list i.params.pool) i.table.param_runs in
    let kids = map (run_list i.kids.pool) i.table.kid_runs in
    let m = shown_nodes i.table.slots params kids in
    let none : m k ≡ None = mapped_none (slot_at i.table.slots k) (run_at i.table.kid_runs k) c.in-None.ensures (node_of (row_at params k) (row_at kids k)) in
    subst (λ (t : Stock g.row.A.Denot). LinksRow t.footings t.footings c.args.before (kids_in (nodes_of t k)) c.args.before) c.self.view_is
    (subst (λ l. LinksRow i.table.footings i.table.footings c.args.before l c.args.before) (sym (ap (λ (o : Option (Node g.row.A.Denot)). kids_in o) none)) (row_start i.table.footings c.args.before))
