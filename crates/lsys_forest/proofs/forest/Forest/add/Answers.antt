use Rattle.std.proofs.Common.{◌≡◌, ◌<◌, ◌+◌, ◌-◌, [], Some, None, refl, sym, ap, ◌∙◌, subst, arith}
use Rattle.std.specs.Prelude.{IsSome}
use Rattle.lsys_level.specs.Places.{seen_in, params_in}
use Rattle.lsys_region.specs.Rooms.{list_room}
use Rattle.lsys_forest.specs.Nodes.{Node, Nodes}
use Rattle.lsys_forest.specs.Stocks.{nodes_of, changes_of}
use Rattle.lsys_forest.specs.Groves.{Grove, now_of, Sets, kept_in}
use Rattle.lsys_forest.proofs.SoundLemmas.{some_of}
use Rattle.std.proofs.lemmas.Option.{same_Some}
use Rattle.lsys_forest.specs.declared.node.Stored.{Stored}
use Rattle.lsys_forest.proofs.StockLemmas.{stored_of}
use Rattle.lsys_forest.proofs.DepthLemmas.{depth_fits}
use Rattle.lsys_forest.proofs.RankLemmas.{add_ranked}
use Rattle.lsys_forest.proofs.GroveLemmas.{sound_now, IsGrove-add, add_rested}
use Rattle.lsys_forest.proofs.AnswerLemmas.{kept_stay}
use Rattle.lsys_forest.specs.Answers.{answer_of}
use Rattle.std.specs.Option.{option_and_then}
use Rattle.lsys_forest.specs.Changes.{Missing}
use Rattle.lsys_forest.proofs.LinkLemmas.{add_linked}
use Rattle.lsys_forest.proofs.MatedLemmas.{add_mated}
use Rattle.lsys_forest.specs.Loosened.{AreLoose}
use Rattle.lsys_forest.proofs.LooseLemmas.{loose_with_one}
use Rattle.lsys_forest.proofs.ModuleLemmas.{modules_put}
use Rattle.lsys_forest.specs.Pairs.{AreModules}
use Rattle.lsys_forest.proofs.forest.Forest.add.Goals as goal

pub overflow_add-depth : goal.overflow_add-depth
overflow_add-depth g c =
    let i = c.self.inside in
    let asked = subst (λ (f : Grove g.row.A.Denot). IsSome (now_of f c.args.parent) × (0 < f.spare_nodes) × (0 < f.spare_notes)) (sym c.self.view_is) (c.requires.parent, c.requires.nodes, c.requires.notes) in
    let s = some_of (nodes_of i.parts c.args.parent) asked.0 in
    let t = stored_of i.parts.slots i.parts.params i.parts.kids c.args.parent s.0 s.1 in
    let above : c.in-Some.above.now ≡ t.0 = same_Some c.in-Some.above.now t.0 (c.in-Some.ensures ∙ t.1) in
    let depth : c.in-Some.above.now.depth + 1 ≡ s.0.depth + 1 = ap (λ (x : Stored g.row.A.Denot). x.depth + 1) above ∙ ap (λ (x : Node g.row.A.Denot). x.depth + 1) t.2 in
    let fits = depth_fits i.root (changes_of i.parts) (nodes_of i.parts) i.parts.slots (sound_now c.self.invariant.grove) (λ k n is. let x = stored_of i.parts.slots i.parts.params i.parts.kids k n is in subst IsSome (sym x.1) refl) c.args.parent s.0 s.1 in
    omega (arith, fits, depth, asked.1, c.self.invariant.grove.numbers)

pub insert-requires-clause-numbers : goal.insert-requires-clause-numbers
insert-requires-clause-numbers g c =
    let asked = subst (λ (f : Grove g.row.A.Denot). 0 < f.spare_nodes) (sym c.self.view_is) c.requires.nodes in
    c.self.invariant.grove.fit asked

pub invariant_of-self : goal.invariant_of-self
invariant_of-self g c =
    let i = c.self.inside in
    let asked = subst (λ (f : Grove g.row.A.Denot). IsSome (now_of f c.args.parent) × (0 < f.spare_nodes) × (0 < f.spare_notes)) (sym c.self.view_is) (c.requires.parent, c.requires.nodes, c.requires.notes) in
    let s = some_of (nodes_of i.parts c.args.parent) asked.0 in
    let t = stored_of i.parts.slots i.parts.params i.parts.kids c.args.parent s.0 s.1 in
    let above : c.in-Some.above.now ≡ t.0 = same_Some c.in-Some.above.now t.0 (c.in-Some.ensures ∙ t.1) in
    let depth : c.in-Some.above.now.depth + 1 ≡ s.0.depth + 1 = ap (λ (x : Stored g.row.A.Denot). x.depth + 1) above ∙ ap (λ (x : Node g.row.A.Denot). x.depth + 1) t.2 in
    let n : Node g.row.A.Denot = record { parent = c.args.parent; code = c.args.code; count = c.args.count; depth = c.in-Some.above.now.depth + 1; seen = seen_in c.args.symbol.now; key = c.args.key; kids = []; answer = None } in
    record {
      grove = IsGrove-add i.parts c.insert.new.self i.root i.spare_nodes (i.spare_nodes - 1) i.spare_notes (i.spare_notes - 1) c.insert.result n s.0 (list_room (params_in c.args.symbol.now)) 0 c.insert.ensures.vacant s.1 depth refl c.insert.ensures.few c.insert.ensures.added (omega (arith, asked.1)) (omega (arith, asked.2)) c.self.invariant.grove;
      ranked = add_ranked i.root i.parts c.insert.new.self c.insert.result n (list_room (params_in c.args.symbol.now)) 0 (sound_now c.self.invariant.grove) refl c.insert.ensures.added c.self.invariant.ranked;
      linked = add_linked i.root i.parts c.insert.new.self c.insert.result i.linked n (list_room (params_in c.args.symbol.now)) 0 (sound_now c.self.invariant.grove) c.insert.ensures.vacant refl c.insert.ensures.added c.self.invariant.linked;
      mated = add_mated i.root i.parts c.insert.new.self c.insert.result i.mated n (list_room (params_in c.args.symbol.now)) 0 (sound_now c.self.invariant.grove) c.insert.ensures.vacant refl c.insert.ensures.added c.self.invariant.mated;
      branches = λ none. (
          let unless = c.branches_with-self-inside.ensures none in
          let modules = c.self.invariant.branches unless.0 in (
            subst (λ (m : Nodes g.row.A.Denot). AreModules m i.root) (sym c.insert.ensures.added.nodes) (modules_put (nodes_of i.parts) i.root c.insert.result n (λ other bracket. unless.1 bracket) modules.0),
            subst (λ (m : Nodes g.row.A.Denot). AreModules m i.root) (sym (add_rested i.parts c.insert.new.self c.insert.result n (list_room (params_in c.args.symbol.now)) 0 c.insert.ensures.vacant c.insert.ensures.added)) modules.1,
          )
          );
      loose = subst (λ (m : Nodes g.row.A.Denot). AreLoose c.loose_with_one-self-inside.result m i.root) (sym c.insert.ensures.added.nodes) (loose_with_one i.loose c.loose_with_one-self-inside.result (nodes_of i.parts) i.root c.insert.result n c.loose_with_one-self-inside.ensures c.insert.ensures.vacant c.self.invariant.loose);
    }

pub returns-clause-added : goal.returns-clause-added
returns-clause-added g c =
    let i = c.self.inside in
    let new : Grove g.row.A.Denot = record { stock = c.insert.new.self; root = i.root; spare_nodes = i.spare_nodes - 1; spare_notes = i.spare_notes - 1 } in
    let n : Node g.row.A.Denot = record { parent = c.args.parent; code = c.args.code; count = c.args.count; depth = c.in-Some.above.now.depth + 1; seen = seen_in c.args.symbol.now; key = c.args.key; kids = []; answer = None } in
    subst (λ (f : Grove g.row.A.Denot). (p : Node g.row.A.Denot) → now_of f c.args.parent ≡ Some p → Sets f new c.insert.result (record n { depth = p.depth + 1 })) c.self.view_is
    (λ p is. (
    let t = stored_of i.parts.slots i.parts.params i.parts.kids c.args.parent p is in
    let above : c.in-Some.above.now ≡ t.0 = same_Some c.in-Some.above.now t.0 (c.in-Some.ensures ∙ t.1) in
    let depth : c.in-Some.above.now.depth + 1 ≡ p.depth + 1 = ap (λ (x : Stored g.row.A.Denot). x.depth + 1) above ∙ ap (λ (x : Node g.row.A.Denot). x.depth + 1) t.2 in
    subst (λ d. Sets (record { stock = i.parts; root = i.root; spare_nodes = i.spare_nodes; spare_notes = i.spare_notes }) new c.insert.result (record n { depth = d })) depth (record {
      now = c.insert.ensures.added.nodes;
      rest = add_rested i.parts c.insert.new.self c.insert.result n (list_room (params_in c.args.symbol.now)) 0 c.insert.ensures.vacant c.insert.ensures.added;
      root = refl;
    })
    ))

pub returns-clause-kept : goal.returns-clause-kept
returns-clause-kept g c =
    let i = c.self.inside in
    let new : Grove g.row.A.Denot = record { stock = c.insert.new.self; root = i.root; spare_nodes = i.spare_nodes - 1; spare_notes = i.spare_notes - 1 } in
    subst (λ (f : Grove g.row.A.Denot). kept_in new ≡ kept_in f) c.self.view_is
    (kept_stay i.parts c.insert.new.self c.insert.result _ Missing 1 (list_room (params_in c.args.symbol.now)) 0 (sym (ap (option_and_then answer_of) c.insert.ensures.vacant)) refl c.insert.ensures.added)
