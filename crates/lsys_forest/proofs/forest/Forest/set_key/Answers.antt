use Rattle.std.proofs.Common.{inl, ◌≡◌, ◌<◌, ◌-◌, Some, refl, sym, subst, arith, ap}
use Rattle.std.specs.Prelude.{IsSome}
use Rattle.lsys_forest.specs.Nodes.{Node, with_key, Nodes}
use Rattle.lsys_forest.specs.Stocks.{nodes_of, changes_of}
use Rattle.lsys_forest.specs.Groves.{Grove, now_of, Sets, Spends, kept_in}
use Rattle.lsys_forest.proofs.SoundLemmas.{some_of, set_key}
use Rattle.lsys_forest.proofs.RankLemmas.{set_ranked}
use Rattle.lsys_forest.proofs.GroveLemmas.{sound_now, IsGrove-set, set_rested}
use Rattle.lsys_forest.proofs.AnswerLemmas.{kept_stay}
use Rattle.lsys_forest.specs.Answers.{answer_of}
use Rattle.std.specs.Option.{option_and_then}
use Rattle.lsys_forest.specs.Changes.{OldKey}
use Rattle.lsys_forest.proofs.LinkLemmas.{set_linked}
use Rattle.lsys_forest.proofs.MatedLemmas.{set_mated}
use Rattle.lsys_forest.proofs.BranchLemmas.{same_sort}
use Rattle.lsys_forest.specs.Loosened.{AreLoose}
use Rattle.lsys_forest.proofs.LooseLemmas.{loose_set}
use Rattle.lsys_forest.proofs.ModuleLemmas.{modules_put}
use Rattle.lsys_forest.specs.Pairs.{AreModules}
use Rattle.lsys_forest.proofs.forest.Forest.set_key.Goals as goal

pub invariant_of-self : goal.invariant_of-self
invariant_of-self g c =
    let i = c.self.inside in
    let asked = subst (λ (f : Grove g.row.A.Denot). IsSome (now_of f c.args.node) × (0 < f.spare_notes)) (sym c.self.view_is) (c.requires.lives, c.requires.notes) in
    let s = some_of (nodes_of i.parts c.args.node) asked.0 in
    let j = c.set_key.ensures s.0 s.1 in
    let grove = IsGrove-set i.parts c.set_key.new.self i.root i.spare_nodes i.spare_notes (i.spare_notes - 1) c.args.node s.0 (with_key c.args.key s.0) _ 0 0 (set_key i.root (changes_of i.parts) (nodes_of i.parts) c.args.node s.0 c.args.key (sound_now c.self.invariant.grove) s.1) (c.set_key.ensures s.0 s.1) (omega (arith, asked.1)) c.self.invariant.grove in
    record {
      grove = grove;
      ranked = set_ranked i.root i.parts c.set_key.new.self c.args.node s.0 (with_key c.args.key s.0) _ 0 0 (sound_now c.self.invariant.grove) s.1 refl j c.self.invariant.ranked;
      linked = set_linked i.root (changes_of c.set_key.new.self) i.parts c.set_key.new.self c.args.node i.linked s.0 (with_key c.args.key s.0) _ 0 0 (sound_now grove) s.1 refl j c.self.invariant.linked;
      mated = set_mated i.root (changes_of c.set_key.new.self) i.parts c.set_key.new.self c.args.node i.mated i.mated s.0 (with_key c.args.key s.0) _ 0 0 (sound_now grove) s.1 refl (inl (same_sort s.0.seen s.0.seen refl)) j (omega arith) c.self.invariant.mated;
      branches = λ none. (
          let modules = c.self.invariant.branches none in (
            subst (λ (m : Nodes g.row.A.Denot). AreModules m i.root) (sym j.nodes) (modules_put (nodes_of i.parts) i.root c.args.node (with_key c.args.key s.0) (λ other bracket. modules.0 c.args.node s.0 s.1 other bracket) modules.0),
            subst (λ (m : Nodes g.row.A.Denot). AreModules m i.root) (sym (set_rested i.parts c.set_key.new.self i.root c.args.node s.0 (with_key c.args.key s.0) _ 0 0 (set_key i.root (changes_of i.parts) (nodes_of i.parts) c.args.node s.0 c.args.key (sound_now c.self.invariant.grove) s.1) j)) modules.1,
          )
          );
      loose = subst (λ (m : Nodes g.row.A.Denot). AreLoose i.loose m i.root) (sym j.nodes) (loose_set i.loose (nodes_of i.parts) i.root c.args.node s.0 (with_key c.args.key s.0) s.1 refl refl c.self.invariant.loose);
    }

pub returns-clause-set : goal.returns-clause-set
returns-clause-set g c =
    let i = c.self.inside in
    let new : Grove g.row.A.Denot = record { stock = c.set_key.new.self; root = i.root; spare_nodes = i.spare_nodes; spare_notes = i.spare_notes - 1 } in
    subst (λ (f : Grove g.row.A.Denot). (n : Node g.row.A.Denot) → now_of f c.args.node ≡ Some n → Sets f new c.args.node (with_key c.args.key n)) c.self.view_is
    (λ n is. record {
      now = (c.set_key.ensures n is).nodes;
      rest = set_rested i.parts c.set_key.new.self i.root c.args.node n (with_key c.args.key n) _ 0 0 (set_key i.root (changes_of i.parts) (nodes_of i.parts) c.args.node n c.args.key (sound_now c.self.invariant.grove) is) (c.set_key.ensures n is);
      root = refl;
    })

pub returns-clause-kept : goal.returns-clause-kept
returns-clause-kept g c =
    let i = c.self.inside in
    let lives = subst (λ (f : Grove g.row.A.Denot). IsSome (now_of f c.args.node)) (sym c.self.view_is) c.requires.lives in
    let s = some_of (nodes_of i.parts c.args.node) lives in
    let new : Grove g.row.A.Denot = record { stock = c.set_key.new.self; root = i.root; spare_nodes = i.spare_nodes; spare_notes = i.spare_notes - 1 } in
    subst (λ (f : Grove g.row.A.Denot). kept_in new ≡ kept_in f) c.self.view_is
    (kept_stay i.parts c.set_key.new.self c.args.node (Some (with_key c.args.key s.0)) (OldKey s.0.key) 0 0 0 (sym (ap (option_and_then answer_of) s.1)) refl (c.set_key.ensures s.0 s.1))

pub returns-clause-spends : goal.returns-clause-spends
returns-clause-spends g c =
    let i = c.self.inside in
    let asked = subst (λ (f : Grove g.row.A.Denot). IsSome (now_of f c.args.node) × (0 < f.spare_notes)) (sym c.self.view_is) (c.requires.lives, c.requires.notes) in
    let s = some_of (nodes_of i.parts c.args.node) asked.0 in
    let new : Grove g.row.A.Denot = record { stock = c.set_key.new.self; root = i.root; spare_nodes = i.spare_nodes; spare_notes = i.spare_notes - 1 } in
    let j = c.set_key.ensures s.0 s.1 in
    subst (λ (f : Grove g.row.A.Denot). Spends f new 0 (0) (0) 1) c.self.view_is (record {
      live = omega (arith, j.live);
      numbers = omega (arith, j.capacity);
      nodes_left = omega arith;
      params_left = j.param_room;
      kids_left = j.kid_room;
      notes_left = omega (arith, asked.1);
    })
