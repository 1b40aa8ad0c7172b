use Rattle.std.specs.Prelude.{IsSome}
use Rattle.std.proofs.Common.{◌≡◌, ℕ, refl, ◌++◌, ◌∷◌, [], List, sym, ap, ◌∙◌, subst, arith}
use Rattle.lsys_forest.specs.Nodes.{Nodes}
use Rattle.lsys_forest.specs.Changes.{Change}
use Rattle.lsys_forest.specs.Stocks.{Stock, nodes_of, changes_of, looked}
use Rattle.lsys_forest.specs.Answers.{answers, old_answer, LiveApart, FreesUnheld}
use Rattle.lsys_forest.specs.Slots.{footing_at}
use Rattle.lsys_forest.specs.Ranks.{AreRanked}
use Rattle.lsys_forest.specs.Sweeps.{IsSwept}
use Rattle.lsys_forest.proofs.SweepLemmas.{IsSwept-start, IsSwept-pop}
use Rattle.lsys_forest.proofs.AnswerLemmas.{IsStep, take_step, lost_made, step_made, step_follows, follows_on, follows_start}
use Rattle.lsys_forest.proofs.sweep.sweep_named.Goals as goal

pub loop-look-init : goal.loop-look-init
loop-look-init g c =
    let t = c.args.parts.now in
    record {
      swept = record { swept = IsSwept-start (nodes_of t) c.args.root (changes_of t) c.requires.sound; ranked = c.requires.ranked; stands = λ j lives. refl };
      places = c.requires.places;
      live = omega arith;
      room = record { capacity = refl; note_room = omega arith; param_room = omega arith; kid_room = omega arith };
      made = c.requires.made;
      freed = follows_start g.A.Kept.run_at g.A.Kept.Holds (answers (nodes_of t) (changes_of t)) c.args.store.now;
    }

pub take_last-requires : goal.take_last-requires
take_last-requires g c = record {
  made = λ x earlier were.
      let m = nodes_of c.loop-look.parts in
      lost_made g.A.Kept.run_at g.A.Kept.Holds (answers m (earlier ++ x ∷ [])) (answers m earlier) (old_answer x) c.loop-look.store (take_step m earlier x)
      (subst (λ cs. LiveApart g.A.Kept.run_at g.A.Kept.Holds c.loop-look.store (answers m cs)) were c.loop-look.invariant.made);
}

pub sweep_looked-requires-clause-made : goal.sweep_looked-requires-clause-made
sweep_looked-requires-clause-made g c =
    let done = c.in-Some.ensures.taken in
    let x = done.0 in
    let takes = done.1.takes in
    let m = nodes_of c.loop-look.parts in
    let u = c.take_last.new.self in
    let made = subst (λ cs. LiveApart g.A.Kept.run_at g.A.Kept.Holds c.loop-look.store (answers m cs)) takes.were c.loop-look.invariant.made in
    let step : IsStep (answers m (takes.earlier ++ x ∷ [])) (answers (nodes_of u) (changes_of u)) (old_answer x) =
    subst (λ (f : Nodes g.row.A.Denot). IsStep (answers m (takes.earlier ++ x ∷ [])) (answers f (changes_of u)) (old_answer x)) (sym done.1.nodes)
    (subst (λ (cs : List (Change g.row.A.Denot)). IsStep (answers m (takes.earlier ++ x ∷ [])) (answers m cs) (old_answer x)) (sym takes.are) (take_step m takes.earlier x)) in
    step_made g.A.Kept.run_at g.A.Kept.Holds (answers m (takes.earlier ++ x ∷ [])) (answers (nodes_of u) (changes_of u)) (old_answer x) c.loop-look.store c.take_last.new.store step made done.2

pub loop-look-preserved : goal.loop-look-preserved
loop-look-preserved g c =
    let done = c.in-Some.ensures.taken in
    let x = done.0 in
    let takes = done.1.takes in
    let first = nodes_of c.args.parts.now in
    let m = nodes_of c.loop-look.parts in
    let u = c.take_last.new.self in
    let v = c.sweep_looked.new.parts in
    let e = c.sweep_looked.ensures in
    let was = c.loop-look.invariant in
    let made = subst (λ cs. LiveApart g.A.Kept.run_at g.A.Kept.Holds c.loop-look.store (answers m cs)) takes.were was.made in
    let step : IsStep (answers m (takes.earlier ++ x ∷ [])) (answers (nodes_of u) (changes_of u)) (old_answer x) =
    subst (λ (f : Nodes g.row.A.Denot). IsStep (answers m (takes.earlier ++ x ∷ [])) (answers f (changes_of u)) (old_answer x)) (sym done.1.nodes)
    (subst (λ (cs : List (Change g.row.A.Denot)). IsStep (answers m (takes.earlier ++ x ∷ [])) (answers m cs) (old_answer x)) (sym takes.are) (take_step m takes.earlier x)) in
    let made' = step_made g.A.Kept.run_at g.A.Kept.Holds (answers m (takes.earlier ++ x ∷ [])) (answers (nodes_of u) (changes_of u)) (old_answer x) c.loop-look.store c.take_last.new.store step made done.2 in
    let follows = step_follows g.A.Kept.run_at g.A.Kept.Holds (answers m (takes.earlier ++ x ∷ [])) (answers (nodes_of u) (changes_of u)) (old_answer x) c.loop-look.store c.take_last.new.store step made done.2 in
    let begun : IsSwept first c.args.root (nodes_of u) (changes_of u) (looked x) =
    subst (λ (f : Nodes g.row.A.Denot). IsSwept first c.args.root f (changes_of u) (looked x)) (sym done.1.nodes)
    (subst (λ (cs : List (Change g.row.A.Denot)). IsSwept first c.args.root m cs (looked x)) (sym takes.are)
    (IsSwept-pop first c.args.root m takes.earlier x (subst (λ cs. IsSwept first c.args.root m cs []) takes.were was.swept.swept))) in
    let ranked : AreRanked (nodes_of u) u.footings = subst (λ r. AreRanked (nodes_of u) r) (sym done.1.footings) (subst (λ (f : Nodes g.row.A.Denot). AreRanked f c.loop-look.parts.footings) (sym done.1.nodes) was.swept.ranked) in
    let stands : (j : ℕ) → IsSome (nodes_of u j) → footing_at u.footings j ≡ footing_at c.args.parts.now.footings j =
    λ j lives. ap (λ r. footing_at r j) done.1.footings ∙ was.swept.stands j (subst (λ (f : Nodes g.row.A.Denot). IsSome (f j)) done.1.nodes lives) in
    let freed = follows_on g.A.Kept.run_at g.A.Kept.Holds (answers first (changes_of c.args.parts.now)) (answers m (changes_of c.loop-look.parts)) (answers (nodes_of u) (changes_of u)) c.args.store.now c.loop-look.store c.take_last.new.store was.made was.freed
    (subst (λ cs. FreesUnheld g.A.Kept.run_at g.A.Kept.Holds (answers m cs) c.loop-look.store (answers (nodes_of u) (changes_of u)) c.take_last.new.store) (sym takes.were) follows) in
    record {
      swept = e.swept first (changes_of c.args.parts.now) c.args.parts.now.footings c.requires.sound (record { swept = subst (IsSwept first c.args.root (nodes_of u) (changes_of u)) (sym done.1.looks) begun; ranked = ranked; stands = stands });
      places = omega (arith, e.keeps.room.note_room, takes.room.note_room, done.1.live, was.places);
      live = omega (arith, e.keeps.live, done.1.live, was.live);
      room = record {
        capacity = omega (arith, e.keeps.room.capacity, takes.room.capacity, was.room.capacity);
        note_room = omega (arith, e.keeps.room.note_room, takes.room.note_room, was.room.note_room);
        param_room = omega (arith, e.keeps.room.param_room, takes.room.param_room, was.room.param_room);
        kid_room = omega (arith, e.keeps.room.kid_room, takes.room.kid_room, was.room.kid_room);
      };
      made = e.made;
      freed = follows_on g.A.Kept.run_at g.A.Kept.Holds (answers first (changes_of c.args.parts.now)) (answers (nodes_of u) (changes_of u)) (answers (nodes_of v) (changes_of v)) c.args.store.now c.take_last.new.store c.sweep_looked.new.store made' freed e.freed;
    }

pub returns-clause-made : goal.returns-clause-made
returns-clause-made g c =
    let t = c.put_down.new.self in
    let none = c.in_default.ensures.none in
    subst (λ s. LiveApart g.A.Kept.run_at g.A.Kept.Holds s (answers (nodes_of t) (changes_of t))) (sym none.2)
    (subst (λ (f : Nodes g.row.A.Denot). LiveApart g.A.Kept.run_at g.A.Kept.Holds c.loop-look.store (answers f (changes_of t))) (sym (c.put_down.ensures.nodes ∙ ap nodes_of none.1))
    (subst (λ cs. LiveApart g.A.Kept.run_at g.A.Kept.Holds c.loop-look.store (answers (nodes_of c.loop-look.parts) cs)) (sym (c.put_down.ensures.changes ∙ ap changes_of none.1)) c.loop-look.invariant.made))

pub returns-clause-freed : goal.returns-clause-freed
returns-clause-freed g c =
    let t = c.put_down.new.self in
    let first = answers (nodes_of c.args.parts.now) (changes_of c.args.parts.now) in
    let none = c.in_default.ensures.none in
    subst (λ s. FreesUnheld g.A.Kept.run_at g.A.Kept.Holds first c.args.store.now (answers (nodes_of t) (changes_of t)) s) (sym none.2)
    (subst (λ (f : Nodes g.row.A.Denot). FreesUnheld g.A.Kept.run_at g.A.Kept.Holds first c.args.store.now (answers f (changes_of t)) c.loop-look.store) (sym (c.put_down.ensures.nodes ∙ ap nodes_of none.1))
    (subst (λ cs. FreesUnheld g.A.Kept.run_at g.A.Kept.Holds first c.args.store.now (answers (nodes_of c.loop-look.parts) cs) c.loop-look.store) (sym (c.put_down.ensures.changes ∙ ap changes_of none.1)) c.loop-look.invariant.freed))

pub returns-clause-ranked : goal.returns-clause-ranked
returns-clause-ranked g c =
    let t = c.put_down.new.self in
    let none = c.in_default.ensures.none in
    let footings = c.put_down.ensures.footings ∙ ap (λ (u : Stock g.row.A.Denot). u.footings) none.1 in
    subst (λ r. AreRanked (nodes_of t) r) (sym footings) (subst (λ (f : Nodes g.row.A.Denot). AreRanked f c.loop-look.parts.footings) (sym (c.put_down.ensures.nodes ∙ ap nodes_of none.1)) c.loop-look.invariant.swept.ranked)

pub returns-clause-footings : goal.returns-clause-footings
returns-clause-footings g c = λ j lives.
    let none = c.in_default.ensures.none in
    let footings = c.put_down.ensures.footings ∙ ap (λ (u : Stock g.row.A.Denot). u.footings) none.1 in
    ap (λ r. footing_at r j) footings
    ∙ c.loop-look.invariant.swept.stands j (subst (λ (f : Nodes g.row.A.Denot). IsSome (f j)) (c.put_down.ensures.nodes ∙ ap nodes_of none.1) lives)
