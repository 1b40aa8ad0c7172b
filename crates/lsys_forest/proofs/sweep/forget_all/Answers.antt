use Rattle.std.proofs.Common.{◌++◌, ◌∷◌, [], List, refl, sym, ap, ◌∙◌, subst, arith}
use Rattle.lsys_forest.specs.Nodes.{Nodes}
use Rattle.lsys_forest.specs.Changes.{Change}
use Rattle.lsys_forest.specs.Stocks.{Stock, nodes_of, changes_of}
use Rattle.lsys_forest.specs.Answers.{answers, old_answer, LiveApart, FreesUnheld}
use Rattle.lsys_forest.proofs.AnswerLemmas.{IsStep, take_step, lost_made, step_made, step_follows, follows_on, follows_start}
use Rattle.lsys_forest.proofs.sweep.forget_all.Goals as goal

pub loop-init : goal.loop-init
loop-init g c =
    let t = c.args.parts.now in
    record {
      nodes = refl;
      footings = refl;
      live = refl;
      room = record { capacity = refl; note_room = omega arith; param_room = omega arith; kid_room = omega arith };
      made = c.requires;
      freed = follows_start g.A.Kept.run_at g.A.Kept.Holds (answers (nodes_of t) (changes_of t)) c.args.store.now;
    }

pub forget_one-requires : goal.forget_one-requires
forget_one-requires g c = λ x earlier were.
    let m = nodes_of c.loop.parts in
    lost_made g.A.Kept.run_at g.A.Kept.Holds (answers m (earlier ++ x ∷ [])) (answers m earlier) (old_answer x) c.loop.store (take_step m earlier x)
    (subst (λ cs. LiveApart g.A.Kept.run_at g.A.Kept.Holds c.loop.store (answers m cs)) were c.loop.invariant.made)

pub loop-preserved : goal.loop-preserved
loop-preserved g c =
    let done = (c.loop-test.ensures.one refl).1 in
    let x = done.0 in
    let takes = done.1.takes in
    let m = nodes_of c.loop.parts in
    let u = c.forget_one.new.parts in
    let was = c.loop.invariant in
    let made = subst (λ cs. LiveApart g.A.Kept.run_at g.A.Kept.Holds c.loop.store (answers m cs)) takes.were was.made in
    let step : IsStep (answers m (takes.earlier ++ x ∷ [])) (answers (nodes_of u) (changes_of u)) (old_answer x) =
    subst (λ (f : Nodes g.row.A.Denot). IsStep (answers m (takes.earlier ++ x ∷ [])) (answers f (changes_of u)) (old_answer x)) (sym done.1.nodes)
    (subst (λ (cs : List (Change g.row.A.Denot)). IsStep (answers m (takes.earlier ++ x ∷ [])) (answers m cs) (old_answer x)) (sym takes.are) (take_step m takes.earlier x)) in
    let follows = step_follows g.A.Kept.run_at g.A.Kept.Holds (answers m (takes.earlier ++ x ∷ [])) (answers (nodes_of u) (changes_of u)) (old_answer x) c.loop.store c.forget_one.new.store step made done.2 in
    record {
      nodes = done.1.nodes ∙ was.nodes;
      footings = done.1.footings ∙ was.footings;
      live = done.1.live ∙ was.live;
      room = record {
        capacity = omega (arith, takes.room.capacity, was.room.capacity);
        note_room = omega (arith, takes.room.note_room, was.room.note_room);
        param_room = omega (arith, takes.room.param_room, was.room.param_room);
        kid_room = omega (arith, takes.room.kid_room, was.room.kid_room);
      };
      made = step_made g.A.Kept.run_at g.A.Kept.Holds (answers m (takes.earlier ++ x ∷ [])) (answers (nodes_of u) (changes_of u)) (old_answer x) c.loop.store c.forget_one.new.store step made done.2;
      freed = follows_on g.A.Kept.run_at g.A.Kept.Holds (answers (nodes_of c.args.parts.now) (changes_of c.args.parts.now)) (answers m (changes_of c.loop.parts)) (answers (nodes_of u) (changes_of u)) c.args.store.now c.loop.store c.forget_one.new.store was.made was.freed
          (subst (λ cs. FreesUnheld g.A.Kept.run_at g.A.Kept.Holds (answers m cs) c.loop.store (answers (nodes_of u) (changes_of u)) c.forget_one.new.store) (sym takes.were) follows);
    }

pub returns-clause-nodes : goal.returns-clause-nodes
returns-clause-nodes g c =
    let none = c.loop-test.ensures.none refl in
    c.put_down.ensures.nodes ∙ ap nodes_of none.1 ∙ c.loop.invariant.nodes

pub returns-clause-footings : goal.returns-clause-footings
returns-clause-footings g c =
    let none = c.loop-test.ensures.none refl in
    c.put_down.ensures.footings ∙ ap (λ (u : Stock g.row.A.Denot). u.footings) none.1 ∙ c.loop.invariant.footings

pub returns-clause-made : goal.returns-clause-made
returns-clause-made g c =
    let t = c.put_down.new.self in
    let none = c.loop-test.ensures.none refl in
    subst (λ s. LiveApart g.A.Kept.run_at g.A.Kept.Holds s (answers (nodes_of t) (changes_of t))) (sym none.2)
    (subst (λ (f : Nodes g.row.A.Denot). LiveApart g.A.Kept.run_at g.A.Kept.Holds c.loop.store (answers f (changes_of t))) (sym (c.put_down.ensures.nodes ∙ ap nodes_of none.1))
    (subst (λ cs. LiveApart g.A.Kept.run_at g.A.Kept.Holds c.loop.store (answers (nodes_of c.loop.parts) cs)) (sym (c.put_down.ensures.changes ∙ ap changes_of none.1)) c.loop.invariant.made))

pub returns-clause-freed : goal.returns-clause-freed
returns-clause-freed g c =
    let t = c.put_down.new.self in
    let first = answers (nodes_of c.args.parts.now) (changes_of c.args.parts.now) in
    let none = c.loop-test.ensures.none refl in
    subst (λ s. FreesUnheld g.A.Kept.run_at g.A.Kept.Holds first c.args.store.now (answers (nodes_of t) (changes_of t)) s) (sym none.2)
    (subst (λ (f : Nodes g.row.A.Denot). FreesUnheld g.A.Kept.run_at g.A.Kept.Holds first c.args.store.now (answers f (changes_of t)) c.loop.store) (sym (c.put_down.ensures.nodes ∙ ap nodes_of none.1))
    (subst (λ cs. FreesUnheld g.A.Kept.run_at g.A.Kept.Holds first c.args.store.now (answers (nodes_of c.loop.parts) cs) c.loop.store) (sym (c.put_down.ensures.changes ∙ ap changes_of none.1)) c.loop.invariant.freed))
