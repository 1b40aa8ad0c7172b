use Rattle.std.proofs.Common.{◌≡◌, ℕ, refl, sym, subst, arith}
use Rattle.std.specs.Prelude.{IsSome}
use Rattle.lsys_forest.specs.Stocks.{nodes_of, changes_of}
use Rattle.lsys_forest.specs.Answers.{answers, kept_by, LiveApart, FreesAllBut}
use Rattle.lsys_forest.specs.Groves.{Grove, now_of, kept_in, Reached, Spends}
use Rattle.lsys_forest.proofs.SoundLemmas.{some_of}
use Rattle.lsys_forest.proofs.SweepLemmas.{IsSound-swept, all_reached, reached_stays, left_stood}
use Rattle.lsys_forest.proofs.GroveLemmas.{sound_now, IsGrove-rest}
use Rattle.lsys_forest.proofs.AnswerLemmas.{frees_by}
use Rattle.lsys_forest.proofs.LinkLemmas.{swept_linked}
use Rattle.lsys_forest.proofs.MatedLemmas.{swept_mated}
use Rattle.lsys_forest.proofs.LooseLemmas.{none_at_rest}
use Rattle.lsys_forest.specs.Pairs.{AreModules}
use Rattle.lsys_forest.specs.Changes.{undone}
use Rattle.lsys_forest.proofs.forest.Forest.commit.Goals as goal

pub sweep_all-requires-clause-made : goal.sweep_all-requires-clause-made
sweep_all-requires-clause-made g c = subst (λ (f : Grove g.row.A.Denot). LiveApart g.A.Kept.run_at g.A.Kept.Holds c.args.store.now (kept_in f)) (sym c.self.view_is) c.requires.made

pub sweep_all-requires-clause-sound : goal.sweep_all-requires-clause-sound
sweep_all-requires-clause-sound g c = sound_now c.self.invariant.grove

pub invariant_of-self : goal.invariant_of-self
invariant_of-self g c =
    let i = c.self.inside in
    let e = c.sweep_all.ensures in
    let sound = (IsSound-swept (nodes_of i.parts) i.root (changes_of i.parts) (sound_now c.self.invariant.grove) (nodes_of c.sweep_all.new.parts) e.swept) in
    record {
      grove = IsGrove-rest i.parts c.sweep_all.new.parts i.root i.spare_nodes i.spare_notes sound e.empty e.live e.room c.self.invariant.grove;
      ranked = e.ranked;
      linked = swept_linked i.root (nodes_of i.parts) (nodes_of c.sweep_all.new.parts) i.parts.footings c.sweep_all.new.parts.footings i.linked sound (left_stood (nodes_of i.parts) i.root (nodes_of c.sweep_all.new.parts) e.swept) e.footings c.self.invariant.linked;
      mated = swept_mated i.root (nodes_of i.parts) (nodes_of c.sweep_all.new.parts) i.parts.footings c.sweep_all.new.parts.footings i.mated sound (left_stood (nodes_of i.parts) i.root (nodes_of c.sweep_all.new.parts) e.swept) e.footings c.self.invariant.mated;
      branches = λ none. (
          let modules = (c.self.invariant.branches none).0 in
          let stood = left_stood (nodes_of i.parts) i.root (nodes_of c.sweep_all.new.parts) e.swept in
          let now : AreModules (nodes_of c.sweep_all.new.parts) i.root = λ k n is other bracket. modules k n (stood k n is) other bracket in
          (now, subst (λ cs. AreModules (undone cs (nodes_of c.sweep_all.new.parts)) i.root) (sym e.empty) now)
          );
      loose = none_at_rest (nodes_of c.sweep_all.new.parts) i.root sound;
    }

pub returns-clause-stay : goal.returns-clause-stay
returns-clause-stay g c =
    let i = c.self.inside in
    let new : Grove g.row.A.Denot = record { stock = c.sweep_all.new.parts; root = i.root; spare_nodes = i.spare_nodes; spare_notes = i.spare_notes } in
    subst (λ (f : Grove g.row.A.Denot). (k : ℕ) → Reached (now_of f) f.root k → now_of new k ≡ now_of f k) c.self.view_is
    (reached_stays (nodes_of i.parts) i.root (nodes_of c.sweep_all.new.parts) c.sweep_all.ensures.swept)

pub returns-clause-only : goal.returns-clause-only
returns-clause-only g c =
    let i = c.self.inside in
    let m = nodes_of c.sweep_all.new.parts in
    subst (λ (f : Grove g.row.A.Denot). (k : ℕ) → IsSome (m k) → Reached (now_of f) f.root k) c.self.view_is
    (λ k lives. let s = some_of (m k) lives in all_reached (nodes_of i.parts) i.root (changes_of i.parts) (sound_now c.self.invariant.grove) m c.sweep_all.ensures.swept s.0.depth k s.0 s.1 refl)

pub returns-clause-spares : goal.returns-clause-spares
returns-clause-spares g c =
    let i = c.self.inside in
    let e = c.sweep_all.ensures in
    let new : Grove g.row.A.Denot = record { stock = c.sweep_all.new.parts; root = i.root; spare_nodes = i.spare_nodes; spare_notes = i.spare_notes } in
    subst (λ (f : Grove g.row.A.Denot). Spends f new 0 0 0 0) c.self.view_is (record {
      live = omega (arith, e.live);
      numbers = omega (arith, e.room.capacity);
      nodes_left = omega arith;
      params_left = omega (arith, e.room.param_room);
      kids_left = omega (arith, e.room.kid_room);
      notes_left = omega arith;
    })

pub returns-clause-store : goal.returns-clause-store
returns-clause-store g c =
    let i = c.self.inside in
    let e = c.sweep_all.ensures in
    subst (λ (f : Grove g.row.A.Denot). FreesAllBut g.A.Kept.run_at g.A.Kept.Holds (kept_in f) (kept_by (nodes_of c.sweep_all.new.parts)) c.args.store.now c.sweep_all.new.store) c.self.view_is
    (frees_by g.A.Kept.run_at g.A.Kept.Holds (answers (nodes_of i.parts) (changes_of i.parts)) (nodes_of c.sweep_all.new.parts) (changes_of c.sweep_all.new.parts) c.args.store.now c.sweep_all.new.store e.empty e.freed)
