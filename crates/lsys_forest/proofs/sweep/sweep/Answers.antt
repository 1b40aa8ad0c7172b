use Rattle.std.proofs.Common.{◌≢◌, ◌∷◌, List, None, sym, ap, ◌∙◌, subst, arith, inl, inr}
use Rattle.std.specs.Prelude.{IsSome}
use Rattle.std.proofs.lemmas.Bool.{cases_eq}
use Rattle.std.proofs.lemmas.Option.{none-some}
use Rattle.std.proofs.lemmas.Grind.{common_steps}
use Rattle.lsys_forest.proofs.StockLemmas.{put_same, put_other}
use Rattle.std.specs.Option.{option_and_then}
use Rattle.lsys_forest.specs.Nodes.{Nodes, with_node}
use Rattle.lsys_forest.specs.Changes.{Change}
use Rattle.lsys_forest.specs.Answers.{AtNode, answer_of, answers}
use Rattle.lsys_forest.specs.Stocks.{nodes_of, changes_of}
use Rattle.lsys_forest.proofs.SweepLemmas.{IsSwept-removes, removed_ranked}
use Rattle.lsys_forest.proofs.SoundLemmas.{some_of}
use Rattle.lsys_forest.proofs.AnswerLemmas.{IsStep, remove_step, step_made, step_follows}
use Rattle.lsys_forest.proofs.sweep.sweep.Goals as goal

pub remove-requires-clause-made : goal.remove-requires-clause-made
remove-requires-clause-made g c = λ n is a answer r holds. c.requires.made.made (AtNode c.args.node) a r (ap (option_and_then answer_of) is ∙ answer) holds

pub remove-requires-clause-lives : goal.remove-requires-clause-lives
remove-requires-clause-lives g c = c.is_loose.ensures.lives c.if-is_loose.true

pub returns-then-is_loose-clause-swept : goal.returns-then-is_loose-clause-swept
returns-then-is_loose-clause-swept g c = λ left first before stood sound is.
    let m = nodes_of c.args.parts.now in
    let s = some_of (m c.args.node) (c.is_loose.ensures.lives c.if-is_loose.true) in
    let done = (c.remove.ensures s.0 s.1).0 in
    let differ : c.args.node ≢ c.args.root = λ same. grind (arith, same, c.ne.ensures, c.if-ne.true) in
    let apart = c.is_loose.ensures.apart s.0 c.if-is_loose.true s.1 is.ranked in
    record {
      swept = IsSwept-removes first c.args.root before sound m (nodes_of c.remove.new.self) (changes_of c.args.parts.now) (changes_of c.remove.new.self) c.args.node s.0 left differ s.1 apart done.nodes done.noted is.swept;
      ranked = removed_ranked first c.args.root before sound m (nodes_of c.remove.new.self) (changes_of c.args.parts.now) c.args.parts.now.footings c.remove.new.self.footings c.args.node s.0 (c.args.node ∷ left) s.1 apart done.nodes done.footings is.swept is.ranked;
      stands = λ j lives. elim (cases_eq j c.args.node) [
        | inl e ↦ absurd (none-some (some_of (nodes_of c.remove.new.self j) lives).0 (sym (ap (λ (f : Nodes g.row.A.Denot). f j) done.nodes ∙ put_same m c.args.node j None e) ∙ (some_of (nodes_of c.remove.new.self j) lives).1))
        | inr ne ↦ done.footings j ne ∙ is.stands j (subst IsSome (ap (λ (f : Nodes g.row.A.Denot). f j) done.nodes ∙ put_other m c.args.node j None ne) lives)
      ];
    }

pub returns-then-is_loose-clause-keeps : goal.returns-then-is_loose-clause-keeps
returns-then-is_loose-clause-keeps g c =
    let s = some_of (nodes_of c.args.parts.now c.args.node) (c.is_loose.ensures.lives c.if-is_loose.true) in
    let done = (c.remove.ensures s.0 s.1).0 in
    record {
      places = omega (arith, done.notes, done.live);
      live = omega (arith, done.live);
      room = done.room;
      hand = done.hand;
    }

pub returns-then-is_loose-clause-made : goal.returns-then-is_loose-clause-made
returns-then-is_loose-clause-made g c =
    let t = c.args.parts.now in
    let u = c.remove.new.self in
    let k = c.args.node in
    let s = some_of (nodes_of t k) (c.is_loose.ensures.lives c.if-is_loose.true) in
    let done = c.remove.ensures s.0 s.1 in
    let step : IsStep (answers (nodes_of t) (changes_of t)) (answers (nodes_of u) (changes_of u)) s.0.answer =
    subst (λ (f : Nodes g.row.A.Denot). IsStep (answers (nodes_of t) (changes_of t)) (answers f (changes_of u)) s.0.answer) (sym done.0.nodes)
    (subst (λ (cs : List (Change g.row.A.Denot)). IsStep (answers (nodes_of t) (changes_of t)) (answers (with_node (nodes_of t) k None) cs) s.0.answer) (sym done.0.noted) (remove_step (nodes_of t) k s.0 (changes_of t) s.1)) in
    step_made g.A.Kept.run_at g.A.Kept.Holds (answers (nodes_of t) (changes_of t)) (answers (nodes_of u) (changes_of u)) s.0.answer c.args.store.now c.remove.new.store step c.requires.made done.1

pub returns-then-is_loose-clause-freed : goal.returns-then-is_loose-clause-freed
returns-then-is_loose-clause-freed g c =
    let t = c.args.parts.now in
    let u = c.remove.new.self in
    let k = c.args.node in
    let s = some_of (nodes_of t k) (c.is_loose.ensures.lives c.if-is_loose.true) in
    let done = c.remove.ensures s.0 s.1 in
    let step : IsStep (answers (nodes_of t) (changes_of t)) (answers (nodes_of u) (changes_of u)) s.0.answer =
    subst (λ (f : Nodes g.row.A.Denot). IsStep (answers (nodes_of t) (changes_of t)) (answers f (changes_of u)) s.0.answer) (sym done.0.nodes)
    (subst (λ (cs : List (Change g.row.A.Denot)). IsStep (answers (nodes_of t) (changes_of t)) (answers (with_node (nodes_of t) k None) cs) s.0.answer) (sym done.0.noted) (remove_step (nodes_of t) k s.0 (changes_of t) s.1)) in
    step_follows g.A.Kept.run_at g.A.Kept.Holds (answers (nodes_of t) (changes_of t)) (answers (nodes_of u) (changes_of u)) s.0.answer c.args.store.now c.remove.new.store step c.requires.made done.1

pub remove-requires-clause-place : goal.remove-requires-clause-place
remove-requires-clause-place g c = grind (arith, common_steps)
