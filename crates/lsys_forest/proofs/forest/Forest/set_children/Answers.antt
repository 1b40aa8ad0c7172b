use Rattle.std.proofs.Common.{◌≡◌, ◌∙◌, ap, ◌<◌, ◌-◌, Some, false, refl, sym, subst, arith}
use Rattle.std.specs.Prelude.{IsSome}
use Rattle.lsys_region.specs.Rooms.{list_room}
use Rattle.lsys_forest.specs.Nodes.{Node, with_kids, Nodes}
use Rattle.lsys_forest.specs.Stocks.{Stock, nodes_of, changes_of}
use Rattle.lsys_forest.specs.Slots.{live_slots}
use Rattle.lsys_forest.specs.Changes.{undone, OldKids}
use Rattle.lsys_forest.specs.Ranks.{AreRanked, AreLinked}
use Rattle.lsys_forest.specs.Groves.{Grove, now_of, AreKids, Sets, Spends, IsGrove, kept_in}
use Rattle.lsys_forest.proofs.SoundLemmas.{some_of, set_kids}
use Rattle.lsys_forest.proofs.RankLemmas.{kids_ranked}
use Rattle.lsys_forest.proofs.StockLemmas.{put_same}
use Rattle.lsys_forest.proofs.GroveLemmas.{sound_now, IsGrove-set, set_rested}
use Rattle.lsys_forest.proofs.AnswerLemmas.{kept_stay}
use Rattle.lsys_forest.specs.Answers.{answer_of, answers}
use Rattle.std.specs.Option.{option_and_then}
use Rattle.lsys_forest.proofs.LinkLemmas.{kids_linked}
use Rattle.lsys_forest.proofs.MatedLemmas.{kids_mated}
use Rattle.lsys_forest.specs.Pairs.{AreMated}
use Rattle.lsys_forest.specs.Rows.{depth_in, kids_in}
use Rattle.lsys_forest.specs.Loosened.{AreLoose}
use Rattle.lsys_forest.proofs.ModuleLemmas.{modules_put}
use Rattle.lsys_forest.specs.Pairs.{AreModules, AreModulesUnless}
use Rattle.lsys_forest.proofs.forest.Forest.set_children.Goals as goal

pub loose_beside-self-inside-requires : goal.loose_beside-self-inside-requires
loose_beside-self-inside-requires g c = subst (λ (f : Grove g.row.A.Denot). IsSome (now_of f c.args.node)) (sym c.self.view_is) c.requires.lives

pub rank_kids-requires-clause-sound : goal.rank_kids-requires-clause-sound
rank_kids-requires-clause-sound g c =
    let i = c.self.inside in
    let asked = subst (λ (f : Grove g.row.A.Denot). IsSome (now_of f c.args.node) × (0 < f.spare_notes)) (sym c.self.view_is) (c.requires.lives, c.requires.notes) in
    let s = some_of (nodes_of i.parts c.args.node) asked.0 in
    let kids = subst (λ (f : Grove g.row.A.Denot). AreKids (now_of f) f.root c.args.node c.args.kids.now) (sym c.self.view_is) c.requires.kids in
    let j = c.set_kids.ensures s.0 s.1 in
    let grove = IsGrove-set i.parts c.set_kids.new.self i.root i.spare_nodes i.spare_notes (i.spare_notes - 1) c.args.node s.0 (with_kids c.args.kids.now s.0) _ 0 (list_room c.args.kids.now) (set_kids i.root (changes_of i.parts) (nodes_of i.parts) c.args.node s.0 c.args.kids.now kids (sound_now c.self.invariant.grove) s.1) (c.set_kids.ensures s.0 s.1) (omega (arith, asked.1)) c.self.invariant.grove in
    (i.root, sound_now grove)

pub rank_kids-requires-clause-kids : goal.rank_kids-requires-clause-kids
rank_kids-requires-clause-kids g c =
    let i = c.self.inside in
    let lives = subst (λ (f : Grove g.row.A.Denot). IsSome (now_of f c.args.node)) (sym c.self.view_is) c.requires.lives in
    let s = some_of (nodes_of i.parts c.args.node) lives in
    let j = c.set_kids.ensures s.0 s.1 in
    ap (λ (m : Nodes g.row.A.Denot). kids_in (m c.args.node)) j.nodes
    ∙ ap kids_in (put_same (nodes_of i.parts) c.args.node c.args.node (Some (with_kids c.args.kids.now s.0)) refl)

pub invariant_of-self : goal.invariant_of-self
invariant_of-self g c =
    let i = c.self.inside in
    let asked = subst (λ (f : Grove g.row.A.Denot). IsSome (now_of f c.args.node) × (0 < f.spare_notes)) (sym c.self.view_is) (c.requires.lives, c.requires.notes) in
    let s = some_of (nodes_of i.parts c.args.node) asked.0 in
    let kids = subst (λ (f : Grove g.row.A.Denot). AreKids (now_of f) f.root c.args.node c.args.kids.now) (sym c.self.view_is) c.requires.kids in
    let j = c.set_kids.ensures s.0 s.1 in
    let grove = IsGrove-set i.parts c.set_kids.new.self i.root i.spare_nodes i.spare_notes (i.spare_notes - 1) c.args.node s.0 (with_kids c.args.kids.now s.0) _ 0 (list_room c.args.kids.now) (set_kids i.root (changes_of i.parts) (nodes_of i.parts) c.args.node s.0 c.args.kids.now kids (sound_now c.self.invariant.grove) s.1) (c.set_kids.ensures s.0 s.1) (omega (arith, asked.1)) c.self.invariant.grove in
    let e = c.rank_kids.ensures in
    let n = with_kids c.args.kids.now s.0 in
    let footings = c.rank_kids.new.self.footings in
    let old = c.set_kids.new.self in
    let high : c.depth-depth.result ≡ depth_in (nodes_of old c.args.node) = c.depth-depth.ensures ∙ ap (λ (t : Stock g.row.A.Denot). depth_in (nodes_of t c.args.node)) e.same in
    let now : IsGrove (record old { footings = footings }) i.root i.spare_nodes (i.spare_notes - 1) = record { sound = grove.sound; nodes_left = grove.nodes_left; numbers = grove.numbers; fit = grove.fit; notes_left = grove.notes_left } in
    record {
      grove = subst (λ (t : Stock g.row.A.Denot). IsGrove t i.root i.spare_nodes (i.spare_notes - 1)) (sym e.same) now;
      ranked = subst (λ (t : Stock g.row.A.Denot). AreRanked (nodes_of t) footings) (sym e.same) (kids_ranked i.root i.parts old footings c.args.node n _ 0 (list_room c.args.kids.now) (sound_now c.self.invariant.grove) j c.self.invariant.ranked e.ranked);
      linked = subst (λ (t : Stock g.row.A.Denot). AreLinked (nodes_of t) i.root footings c.min-self-inside.result) (sym e.same)
          (kids_linked i.root (changes_of old) i.parts old footings c.args.node i.linked c.min-self-inside.result s.0 n _ 0 (list_room c.args.kids.now) (sound_now grove) s.1 j e.links (omega (arith, c.min-self-inside.ensures)) (omega (arith, c.min-self-inside.ensures, high)) c.self.invariant.linked);
      mated = subst (λ (t : Stock g.row.A.Denot). AreMated (nodes_of t) i.root footings c.min-self-inside-2.result) (sym e.same)
          (kids_mated i.root (changes_of old) i.parts old footings c.args.node i.mated c.min-self-inside-2.result s.0 n _ 0 (list_room c.args.kids.now) (sound_now grove) s.1 refl j e.mates (omega (arith, c.min-self-inside-2.ensures)) (omega (arith, c.min-self-inside-2.ensures, high)) c.self.invariant.mated);
      branches = λ none. (
          let modules = c.self.invariant.branches none in
          subst (λ (t : Stock g.row.A.Denot). AreModulesUnless false t i.root) (sym e.same) (λ no. (
            subst (λ (m : Nodes g.row.A.Denot). AreModules m i.root) (sym j.nodes) (modules_put (nodes_of i.parts) i.root c.args.node n (λ other bracket. modules.0 c.args.node s.0 s.1 other bracket) modules.0),
            subst (λ (m : Nodes g.row.A.Denot). AreModules m i.root) (sym (set_rested i.parts old i.root c.args.node s.0 n _ 0 (list_room c.args.kids.now) (set_kids i.root (changes_of i.parts) (nodes_of i.parts) c.args.node s.0 c.args.kids.now kids (sound_now c.self.invariant.grove) s.1) j)) modules.1,
          )) refl
          );
      loose = subst (λ (t : Stock g.row.A.Denot). AreLoose c.loose_beside-self-inside.result (nodes_of t) i.root) (sym e.same)
          (subst (λ (m : Nodes g.row.A.Denot). AreLoose c.loose_beside-self-inside.result m i.root) (sym j.nodes) (c.loose_beside-self-inside.ensures i.root s.0 s.1 kids c.self.invariant.loose));
    }

pub returns-clause-set : goal.returns-clause-set
returns-clause-set g c =
    let i = c.self.inside in
    let kids = subst (λ (f : Grove g.row.A.Denot). AreKids (now_of f) f.root c.args.node c.args.kids.now) (sym c.self.view_is) c.requires.kids in
    let new : Grove g.row.A.Denot = record { stock = c.rank_kids.new.self; root = i.root; spare_nodes = i.spare_nodes; spare_notes = i.spare_notes - 1 } in
    subst (λ (f : Grove g.row.A.Denot). (n : Node g.row.A.Denot) → now_of f c.args.node ≡ Some n → Sets f new c.args.node (with_kids c.args.kids.now n)) c.self.view_is
    (λ n is. record {
      now = ap (λ (t : Stock g.row.A.Denot). nodes_of t) c.rank_kids.ensures.same ∙ (c.set_kids.ensures n is).nodes;
      rest = ap (λ (t : Stock g.row.A.Denot). undone (changes_of t) (nodes_of t)) c.rank_kids.ensures.same ∙ set_rested i.parts c.set_kids.new.self i.root c.args.node n (with_kids c.args.kids.now n) _ 0 (list_room c.args.kids.now) (set_kids i.root (changes_of i.parts) (nodes_of i.parts) c.args.node n c.args.kids.now kids (sound_now c.self.invariant.grove) is) (c.set_kids.ensures n is);
      root = refl;
    })

pub returns-clause-kept : goal.returns-clause-kept
returns-clause-kept g c =
    let i = c.self.inside in
    let lives = subst (λ (f : Grove g.row.A.Denot). IsSome (now_of f c.args.node)) (sym c.self.view_is) c.requires.lives in
    let s = some_of (nodes_of i.parts c.args.node) lives in
    let new : Grove g.row.A.Denot = record { stock = c.rank_kids.new.self; root = i.root; spare_nodes = i.spare_nodes; spare_notes = i.spare_notes - 1 } in
    subst (λ (f : Grove g.row.A.Denot). kept_in new ≡ kept_in f) c.self.view_is
    (ap (λ (t : Stock g.row.A.Denot). answers (nodes_of t) (changes_of t)) c.rank_kids.ensures.same ∙ kept_stay i.parts c.set_kids.new.self c.args.node (Some (with_kids c.args.kids.now s.0)) (OldKids s.0.kids) 0 0 (list_room c.args.kids.now) (sym (ap (option_and_then answer_of) s.1)) refl (c.set_kids.ensures s.0 s.1))

pub returns-clause-spends : goal.returns-clause-spends
returns-clause-spends g c =
    let i = c.self.inside in
    let asked = subst (λ (f : Grove g.row.A.Denot). IsSome (now_of f c.args.node) × (0 < f.spare_notes)) (sym c.self.view_is) (c.requires.lives, c.requires.notes) in
    let s = some_of (nodes_of i.parts c.args.node) asked.0 in
    let new : Grove g.row.A.Denot = record { stock = c.rank_kids.new.self; root = i.root; spare_nodes = i.spare_nodes; spare_notes = i.spare_notes - 1 } in
    let j = c.set_kids.ensures s.0 s.1 in
    let live = ap (λ (t : Stock g.row.A.Denot). live_slots t.slots) c.rank_kids.ensures.same in
    let params = ap (λ (t : Stock g.row.A.Denot). t.param_room) c.rank_kids.ensures.same in
    let kids = ap (λ (t : Stock g.row.A.Denot). t.kid_room) c.rank_kids.ensures.same in
    subst (λ (f : Grove g.row.A.Denot). Spends f new 0 (0) ((list_room c.args.kids.now)) 1) c.self.view_is (record {
      live = omega (arith, j.live, live);
      numbers = (let room = ap (λ (t : Stock g.row.A.Denot). t.capacity) c.rank_kids.ensures.same in omega (arith, j.capacity, room));
      nodes_left = omega arith;
      params_left = omega (arith, j.param_room, params);
      kids_left = omega (arith, j.kid_room, kids);
      notes_left = omega (arith, asked.1);
    })
