-- An edit by a pass.
use Rattle.std.proofs.Common.{◌≡◌, ℕ, zero, suc, ◌+◌, ◌*◌, ◌-◌, ◌≤◌, ◌<◌, ◌^◌, List, [], length, Option, Some, None, Result, Ok, Err, refl, ap, sym, ◌∙◌, subst, arith, OnErr}
use Rattle.std.specs.Prelude.{IsSome}
use Rattle.lsys_spec.specs.Rows.{In}
use Rattle.lsys_spec.specs.Systems.{System, WellSpelled}
use Rattle.lsys_spec.specs.Levels as L
use Rattle.lsys_spec.specs.Questions.{questions, least_visits}
use Rattle.lsys_spec.specs.LevelLaws.{candidate_visits}
use Rattle.lsys_spec.proofs.Needs.{derived, need_within}
use Rattle.lsys_rewrite.specs.declared.count.EditCount.{EditCount}
use Rattle.lsys_match.specs.Kept.{Kept}
use Rattle.lsys_match.specs.Derivations.{AreMeant, IsCount, Rises, most_read}
use Rattle.lsys_laws.specs.Nodes.{AreOnce, Extends}
use Rattle.lsys_forest.specs.Nodes.{Node, Nodes}
use Rattle.lsys_forest.specs.Changes.{undone}
use Rattle.lsys_forest.specs.Groves.{ReachedIn, Reached, changes_in}
use Rattle.lsys_forest.proofs.SoundLemmas.{AreSound-now}
use Rattle.lsys_reads.specs.Lineages.{kins}
use Rattle.lsys_reads.specs.Meant.{levels_or_none, levels_meant}
use Rattle.lsys_pass.specs.declared.state.PassState.{PassState}
use Rattle.lsys_pass.specs.declared.state.PassState.TheVariants.{Rest, Level, Done, Failed}
use Rattle.lsys_pass.specs.Stages.{IsDone}
use Rattle.lsys_pass.specs.Passes.{PassView, stage_of, now_in, rest_in, HoldsAt, IsPass}
use Rattle.lsys_pass.specs.Moves.{AtLevel, SameRun, IsBack, StepsOver, MovesOnce, Finishes, Follows, ArrivesAt, ComesToRest}
use Rattle.lsys_pass.specs.Beginnings.{Begun}
use Rattle.lsys_pass.specs.Spent.{visits_in, spent_visits, AllPending}
use Rattle.lsys_pass.specs.Edits.{IsEdited}
use Rattle.lsys_pass.proofs.Closing.{extends}
use Rattle.lsys_pass.proofs.Visiting.{stepped_visits, visits_first, finished_visits, renewed_few, renewed_fewer, visits_few, visits_fewer}

-- 1. lists and states

pub on_err : {A E P : Type 0} (r : Result A E) → P → OnErr r P
on_err (Ok a) h = tt
on_err (Err e) h = h

pub same_run : (v : PassView) → SameRun v v
same_run v = record { system = refl; next = refl; limit = refl; root = refl; was = refl }

pub then_run : (a b c : PassView) → SameRun a b → SameRun b c → SameRun a c
then_run a b c h k = record { system = k.system ∙ h.system; next = k.next ∙ h.next; limit = k.limit ∙ h.limit; root = k.root ∙ h.root; was = k.was ∙ h.was }

-- the level at which it stands
level_in : (s : PassState) → AtLevel s → (t : ℕ) × (s ≡ Level t)
level_in (Level t) a = (t, refl)
level_in Rest a = absurd a
level_in Done a = absurd a
level_in Failed a = absurd a

pub is_level : (s : PassState) (t : ℕ) → Level t ≡ s → AtLevel s
is_level s t e = subst AtLevel e tt

-- it has begun, and nothing was refused
abbrev pub IsUnderWay : PassState → Type 0
IsUnderWay (Level t) = Unit {0}
IsUnderWay Done = Unit {0}
IsUnderWay Rest = ⊥
IsUnderWay Failed = ⊥

under : (s : System) (t : ℕ) (n : PassState) → ArrivesAt s t n → IsUnderWay n
under s t (Level u) h = tt
under s t Done h = tt
under s t Rest h = h
under s t Failed h = h

under_next : (s : System) (o n : PassState) → Follows s o n → IsUnderWay n
under_next s (Level t) n h = under s (t + 1) n h
under_next s Rest n h = absurd h
under_next s Done n h = absurd h
under_next s Failed n h = absurd h

-- 2. what ends

-- how many levels are still to be asked
abbrev pub left_of : System → PassState → ℕ
left_of s (Level t) = s.depth - t
left_of s Rest = 0
left_of s Done = 0
left_of s Failed = 0

-- 3. while the nodes of a level are asked: what the counters rose by was spent

pub record Goes (start v : PassView) (a0 a r0 r : ℕ) : Type 0 where
  pub run : SameRun start v
  pub state : v.state ≡ start.state
  pub asks : a + length start.renewed ≡ a0 + length v.renewed
  pub visits : r + spent_visits start ≡ r0 + spent_visits v
  pub from_asks : a0 ≤ a
  pub from_visits : r0 ≤ r

pub goes_first : (v : PassView) (a r : ℕ) → Goes v v a a r r
goes_first v a r = record { run = same_run v; state = refl; asks = refl; visits = refl; from_asks = omega arith; from_visits = omega arith }

pub goes_step : (start v w : PassView) (node a0 a b r0 r q : ℕ) → Goes start v a0 a r0 r → IsPass v → AtLevel start.state → In node v.pending → StepsOver v w node
    → b + length v.renewed ≡ a + length w.renewed → MovesOnce v node (λ asks reads. (b ≡ a + asks) × (q ≡ r + reads)) → Rises 0 1 a b → Rises 0 most_read r q → Goes start w a0 b r0 q
goes_step start v w node a0 a b r0 r q g h level i s e m few_asked few_read =
    let l = level_in start.state level in
    let f = stepped_visits v l.0 h (g.state ∙ l.1) w node s i a b r q m in
    record {
      run = then_run start v w g.run s.run;
      state = s.state ∙ g.state;
      asks = let x = g.asks in omega (arith, x, e);
      visits = let x = g.visits in omega (arith, x, f);
      from_asks = let x = g.from_asks in let y = few_asked.from in omega (arith, x, y);
      from_visits = let x = g.from_visits in let y = few_read.from in omega (arith, x, y);
    }

-- what the counters may have risen by where a call was refused
pub record Bounded (start : PassView) (a0 a r0 r : ℕ) : Type 0 where
  pub asks : a + length start.renewed ≤ a0 + start.limit
  pub visits : r + spent_visits start ≤ r0 + most_read * start.limit
  pub from_asks : a0 ≤ a
  pub from_visits : r0 ≤ r

pub step_refused : (start v : PassView) (node a0 a b r0 r q : ℕ) → Goes start v a0 a r0 r → IsPass v → AtLevel start.state → In node v.pending → Rises 0 1 a b → Rises 0 most_read r q → Bounded start a0 b r0 q
step_refused start v node a0 a b r0 r q g h level i few_asked few_read =
    let l = level_in start.state level in
    let one = renewed_fewer v l.0 h (g.state ∙ l.1) node i in
    let two = visits_fewer v l.0 h (g.state ∙ l.1) node i in
    let same : spent_visits v ≡ visits_in v (Level l.0) = ap (visits_in v) (g.state ∙ l.1) in
    let limit = g.run.limit in
    let most : most_read * v.limit ≡ most_read * start.limit = ap (λ n. most_read * n) limit in
    record {
      asks = let x = g.asks in let y = few_asked.to in omega (arith, one, x, y, limit);
      visits = let x = g.visits in let y = few_read.to in omega (arith, two, x, y, same, most);
      from_asks = let x = g.from_asks in let y = few_asked.from in omega (arith, x, y);
      from_visits = let x = g.from_visits in let y = few_read.from in omega (arith, x, y);
    }

-- 4. level by level

pub record Makes (start v : PassView) (a0 a r0 r : ℕ) : Type 0 where
  pub run : SameRun start v
  pub way : IsUnderWay v.state
  pub all : AllPending v v.state
  pub asks : a ≡ a0 + length v.renewed
  pub visits : IsPass v → r ≡ r0 + spent_visits v
  pub from_visits : r0 ≤ r

pub makes_first : (v : PassView) (a r : ℕ) → ArrivesAt v.next 0 v.state → AllPending v v.state → v.renewed ≡ [] → Makes v v a a r r
makes_first v a r first all none = record {
  run = same_run v;
  way = under v.next 0 v.state first;
  all = all;
  asks = let e = ap length none in omega (arith, e);
  visits = λ h. (let e = visits_first v v.state h refl first all in omega (arith, e));
  from_visits = omega arith;
}

-- the level u is asked, which v is then, and w comes from it
pub makes_next : (start u v w : PassView) (a0 a b r0 r q : ℕ) → Makes start u a0 a r0 r → IsPass u → AtLevel u.state → SameRun u v → v.state ≡ u.state → IsPass v → v.pending ≡ []
    → b + length u.renewed ≡ a + length v.renewed → q + spent_visits u ≡ r + spent_visits v → r ≤ q → Finishes v w → AllPending w w.state → Makes start w a0 b r0 q
makes_next start u v w a0 a b r0 r q m h level run state k none asks visits rise f all =
    let l = level_in u.state level in
    record {
      run = then_run start u w m.run (then_run u v w run f.run);
      way = under_next v.next v.state w.state f.state;
      all = all;
      asks = let x = m.asks in let y = ap length f.renewed in omega (arith, x, y, asks);
      visits = λ z. (let x = m.visits h in let y = finished_visits v w l.0 k (state ∙ l.1) none f z all in omega (arith, x, y, visits));
      from_visits = let x = m.from_visits in omega (arith, x, rise);
    }

-- or where a level could not be finished, of which all was asked
pub asks_ended : (start u v : PassView) (a0 a b r0 r : ℕ) → Makes start u a0 a r0 r → AtLevel u.state → SameRun u v → v.state ≡ u.state → IsPass v → b + length u.renewed ≡ a + length v.renewed → Rises 0 start.limit a0 b
asks_ended start u v a0 a b r0 r m level run state k asks =
    let l = level_in u.state level in
    let few = renewed_few v l.0 k (state ∙ l.1) in
    let x = m.asks in
    let limit : v.limit ≡ start.limit = run.limit ∙ m.run.limit in
    record { from = omega (arith, x, asks); to = omega (arith, x, asks, few, limit) }

pub reads_ended : (start u v : PassView) (a0 a r0 r q : ℕ) → Makes start u a0 a r0 r → IsPass u → AtLevel u.state → SameRun u v → v.state ≡ u.state → IsPass v → q + spent_visits u ≡ r + spent_visits v → Rises 0 (most_read * start.limit) r0 q
reads_ended start u v a0 a r0 r q m h level run state k visits =
    let l = level_in u.state level in
    let few = visits_few v l.0 k (state ∙ l.1) in
    let same : spent_visits v ≡ visits_in v (Level l.0) = ap (visits_in v) (state ∙ l.1) in
    let x = m.visits h in
    let most : most_read * v.limit ≡ most_read * start.limit = ap (λ n. most_read * n) (run.limit ∙ m.run.limit) in
    record { from = omega (arith, x, visits); to = omega (arith, x, visits, few, same, most) }

-- 5. all levels are there

done_of : (v : PassView) → IsPass v → v.state ≡ Done → IsDone (stage_of v)
done_of v h e = subst (HoldsAt (stage_of v)) e h.holds

record SameSystems (v0 v2 : PassView) (s : System) (x y : List (List L.LevelSymbol)) : Type 0 where
  system : v2.system ≡ v0.system
  next : v2.next ≡ s
  levels : levels_meant v2.system v2.limit ≡ x
  new_levels : levels_meant v2.next v2.limit ≡ y

same_systems : (v0 v1 v2 : PassView) (s : System) (x y : List (List L.LevelSymbol)) → Begun v0 v1 s → SameRun v1 v2 → AreMeant v0.system s v0.limit x y → SameSystems v0 v2 s x y
same_systems v0 v1 v2 s x y b r m =
    let sys : v2.system ≡ v0.system = r.system ∙ b.system in
    let nxt : v2.next ≡ s = r.next ∙ b.next in
    let lim : v2.limit ≡ v0.limit = r.limit ∙ b.limit in
    record {
      system = sys;
      next = nxt;
      levels = ap (λ s. levels_meant s v2.limit) sys ∙ ap (levels_meant v0.system) lim ∙ ap levels_or_none m.before;
      new_levels = ap (λ s. levels_meant s v2.limit) nxt ∙ ap (levels_meant s) lim ∙ ap levels_or_none m.after;
    }

pub counted : (v0 v1 v2 : PassView) (s : System) (x y : List (List L.LevelSymbol)) (n : EditCount) → Begun v0 v1 s → SameRun v1 v2 → AreMeant v0.system s v0.limit x y
    → IsCount (questions v2.system (levels_meant v2.system v2.limit)) (questions v2.next (levels_meant v2.next v2.limit)) n → IsCount (questions v0.system x) (questions s y) n
counted v0 v1 v2 s x y n b r m c =
    let k = same_systems v0 v1 v2 s x y b r m in
    let olds = ap (λ z. questions z (levels_meant v2.system v2.limit)) k.system ∙ ap (questions v0.system) k.levels in
    let news = ap (λ z. questions z (levels_meant v2.next v2.limit)) k.next ∙ ap (questions s) k.new_levels in
    subst (λ qs. IsCount (questions v0.system x) qs n) news (subst (λ qs. IsCount qs (questions v2.next (levels_meant v2.next v2.limit)) n) olds c)

visits_are : (v0 v2 : PassView) (s : System) (x y : List (List L.LevelSymbol)) → SameSystems v0 v2 s x y → v2.state ≡ Done → spent_visits v2 ≡ candidate_visits v0.system s x y
visits_are v0 v2 s x y k e =
    ap (visits_in v2) e ∙ ap (λ z. candidate_visits z v2.next (levels_meant v2.system v2.limit) (levels_meant v2.next v2.limit)) k.system
    ∙ ap (λ z. candidate_visits v0.system z (levels_meant v2.system v2.limit) (levels_meant v2.next v2.limit)) k.next
    ∙ ap (λ z. candidate_visits v0.system s z (levels_meant v2.next v2.limit)) k.levels ∙ ap (candidate_visits v0.system s x) k.new_levels

pub read_between : (v0 v1 v2 : PassView) (s : System) (x y : List (List L.LevelSymbol)) (r0 q : ℕ) → Begun v0 v1 s → SameRun v1 v2 → IsPass v2 → v2.state ≡ Done → AreMeant v0.system s v0.limit x y
    → q ≡ r0 + spent_visits v2 → Rises (least_visits (questions v0.system x) (questions s y)) (candidate_visits v0.system s x y) r0 q
read_between v0 v1 v2 s x y r0 q b r h e m i =
    let k = same_systems v0 v1 v2 s x y b r m in
    let d = done_of v2 h e in
    let w : WellSpelled v0.system = subst WellSpelled k.system d.rest.spelled in
    let w' : WellSpelled s = subst WellSpelled k.next d.spelled in
    let least : least_visits (questions v0.system x) (questions s y) ≤ candidate_visits v0.system s x y
    = need_within (λ q. length q.trace) v0.system s x y (derived v0.system v0.limit x w m.before) (derived s v0.limit y w' m.after) in
    let are = visits_are v0 v2 s x y k e in
    record { from = omega (arith, i, are, least); to = omega (arith, i, are) }

pub back : (v0 v1 v2 v3 : PassView) (s : System) → Begun v0 v1 s → SameRun v1 v2 → IsBack v2 v3 → rest_in v0 ≡ now_in v0 → IsBack v0 v3
back v0 v1 v2 v3 s b r k same = record {
  state = k.state;
  system = k.system ∙ r.system ∙ b.system;
  limit = k.limit ∙ r.limit ∙ b.limit;
  root = k.root ∙ r.root ∙ b.root;
  now = k.now ∙ r.was ∙ b.was ∙ sym same;
}

-- 6. the nodes

-- where those that are reached stay, no others are reached
reached_back : (m m' : Nodes Kept) (root : ℕ) → ((k : ℕ) → Reached m root k → m' k ≡ m k) → (d k : ℕ) → ReachedIn m' root d k → ReachedIn m root d k
reached_back m m' root stay zero k h = h
reached_back m m' root stay (suc d) k h =
    let r = reached_back m m' root stay d h.0 h.2 in
    (h.0, h.1, r, sym (stay h.0 (d, r)) ∙ h.3, h.4)

lives : (m : Nodes Kept) (k : ℕ) → IsSome (m k) → (n : Node Kept) × (m k ≡ Some n)
lives m k h = by (m k) refl h
  where
    by : (o : Option (Node Kept)) → m k ≡ o → IsSome o → (n : Node Kept) × (m k ≡ Some n)
    by None e i = cc
    by (Some n) e i = (n, e)

pub edited : (v0 v1 v2 v3 : PassView) (s : System) → Begun v0 v1 s → SameRun v1 v2 → IsPass v2 → v2.state ≡ Done → ComesToRest v2 v3 → IsPass v3 → IsEdited v0 v3 s
edited v0 v1 v2 v3 s b r h e c h3 =
    let d = done_of v2 h e in
    let still = subst (HoldsAt (stage_of v3)) c.state h3.holds in
    let root : v2.forest.root ≡ v0.forest.root = r.root ∙ b.root in
    let sound = AreSound-now v2.forest.root (changes_in v2.forest) (now_in v2) h.stored.sound in
    let resting : now_in v3 ≡ rest_in v3 = ap (λ changes. undone changes (now_in v3)) (sym still.changes) in
    let only : (k : ℕ) → IsSome (now_in v3 k) → Reached (now_in v2) v2.forest.root k = λ k i. (
    let n = lives (now_in v3) k i in
    let there = still.rest.reached k n.0 (ap (λ (m : Nodes Kept). m k) (sym resting) ∙ n.1) in
    let here = subst (λ z. Reached (now_in v3) z k) c.root (subst (λ (m : Nodes Kept). Reached m v3.forest.root k) (sym resting) there) in
    (here.0, reached_back (now_in v2) (now_in v3) v2.forest.root c.nodes here.0 k here.1)
    ) in
    record {
      system = c.system ∙ r.next ∙ b.next;
      small = subst (λ (z : System). z.depth < 2 ^ 32) (sym c.system) d.small;
      root = c.root ∙ root;
      family = record {
        all = kins (now_in v2);
        once = subst (AreOnce (kins (now_in v2))) root d.once;
        old_in = subst (λ (m : Nodes Kept). Extends (kins m) (kins (now_in v2))) (r.was ∙ b.was) d.stay;
        new_in = extends (now_in v2) (now_in v3) v2.forest.root (changes_in v2.forest) sound c.nodes only;
      };
    }
