-- A pass that comes to a level that was made, or ends with it.
use Rattle.std.proofs.Common.{◌≡◌, ◌+◌, ◌<◌, ◌≤◌, ℕ, Bool, false, List, [], ◌∷◌, length, map, sym, ap, ◌∙◌, subst, inl, inr, arith}
use Rattle.lsys_spec.specs.Rows.{In}
use Rattle.lsys_spec.specs.Systems.{System}
use Rattle.lsys_level.specs.Spots.{Spotted}
use Rattle.lsys_match.specs.Kept.{Kept}
use Rattle.lsys_forest.specs.Nodes.{Nodes}
use Rattle.lsys_forest.specs.Groves.{IsRooted, changes_in}
use Rattle.lsys_forest.specs.Rows.{spot_in, level_nodes}
use Rattle.lsys_forest.proofs.SoundLemmas.{AreSound-now}
use Rattle.lsys_reads.specs.Levels.{answer_at}
use Rattle.lsys_children.specs.Nexts.{AreClosed}
use Rattle.lsys_children.specs.Answers.{kept_successor, kept_successors}
use Rattle.lsys_pass.specs.declared.sizes.Size.{Size}
use Rattle.lsys_pass.specs.declared.state.PassState.TheVariants.{Level, Done, Failed}
use Rattle.lsys_pass.specs.Sizes.{with_open, with_level, HaveSizesTo, SizesAt}
use Rattle.lsys_pass.specs.Stages.{IsAtLevel, IsDone}
use Rattle.lsys_pass.specs.Passes.{PassView, stage_of, now_in, HoldsAt, HasFront, FrontAt, IsPass}
use Rattle.lsys_pass.specs.Passes as P
use Rattle.lsys_pass.specs.Moves.{SameRun, ArrivesAt, Follows, Finishes}
use Rattle.lsys_pass.specs.Advances.{Makes, Advances, HasLastLevel}
use Rattle.lsys_pass.specs.Fresh.{WasAsked, row_of, Goes, HasListsBefore, IsReadyToAsk, IsLast, Origin}
use Rattle.lsys_pass.proofs.Sized.{closed_same}
use Rattle.lsys_pass.proofs.Finishing.{starts, ends}
use Rattle.lsys_pass.proofs.Starting.{starts_first, starts_done}
use Rattle.lsys_pass.proofs.Arrivals.{made_more}
use Rattle.lsys_pass.proofs.Going.{goes_on, makes, begins}

-- 1. where it came from

-- what holds of it at the level, and at the end
module _ (v v' : PassView) (t : ℕ) (pass : IsPass v') (g : Goes (stage_of v) (stage_of v') t) where
  sound' : IsRooted v'.forest.root (changes_in v'.forest) (now_in v')
  sound' = AreSound-now v'.forest.root (changes_in v'.forest) (now_in v') pass.stored.sound

  at_level : Origin v t → IsReadyToAsk v' t → IsAtLevel (stage_of v') t
  at_level (Origin.after w u e a before) x =
      let sound = AreSound-now w.forest.root (changes_in w.forest) (now_in w) a.pass.stored.sound in
      let whole = goes_on (stage_of w) (stage_of v) (stage_of v') t before g in
      let made = subst (Makes (stage_of w) (stage_of v')) e (makes (stage_of v') t x.lists (stage_of w) whole) in
      subst (IsAtLevel (stage_of v')) (sym e) (starts (stage_of w) (stage_of v') u a.asked sound sound' made (subst (Advances (stage_of v')) e x.advances))
  at_level (Origin.at_first w e still known before) x =
      let whole = goes_on (record (stage_of w) { next = v.next }) (stage_of v) (stage_of v') t before g in
      let first = subst (Goes (record (stage_of w) { next = v.next }) (stage_of v')) e whole in
      let lists = subst (λ u. HasListsBefore (stage_of v') (u + 1)) e x.lists in
      let begun = begins (stage_of w) (stage_of v') v.next first lists in
      subst (IsAtLevel (stage_of v')) (sym e) (starts_first (stage_of w) (stage_of v') still known begun (subst (Advances (stage_of v')) e x.advances))

  at_end : Origin v t → IsLast v' t → IsDone (stage_of v')
  at_end (Origin.after w u e a before) x =
      let sound = AreSound-now w.forest.root (changes_in w.forest) (now_in w) a.pass.stored.sound in
      let whole = goes_on (stage_of w) (stage_of v) (stage_of v') t before g in
      let made = subst (Makes (stage_of w) (stage_of v')) e (makes (stage_of v') t x.lists (stage_of w) whole) in
      ends (stage_of w) (stage_of v') u a.asked sound sound' made (subst (HasLastLevel (stage_of v')) e x.ends)
  at_end (Origin.at_first w e still known before) x =
      let whole = goes_on (record (stage_of w) { next = v.next }) (stage_of v) (stage_of v') t before g in
      let first = subst (Goes (record (stage_of w) { next = v.next }) (stage_of v')) e whole in
      let lists = subst (λ u. HasListsBefore (stage_of v') (u + 1)) e x.lists in
      let begun = begins (stage_of w) (stage_of v') v.next first lists in
      starts_done (stage_of w) (stage_of v') still known begun (subst (HasLastLevel (stage_of v')) e x.ends)

  -- the pass itself
  pub level_pass : Origin v t → HaveSizesTo (now_in v') v'.forest.root v'.made t → IsReadyToAsk v' t → IsPass (record v' { state = Level t })
  level_pass o sizes x = record {
    stored = pass.stored;
    few = pass.few;
    unmarked = pass.unmarked;
    counted = pass.counted;
    sized = pass.sized;
    made_sized = sizes;
    holds = at_level o x;
    front = record { front = x.front.front; within = x.front.within; before = x.front.before; here = x.front.here; room = x.front.room };
    room = pass.room;
  }

  pub done_pass : Origin v t → HaveSizesTo (now_in v') v'.forest.root v'.made t → IsLast v' t → IsPass (record v' { state = Done })
  done_pass o sizes x = record {
    stored = pass.stored;
    few = pass.few;
    unmarked = pass.unmarked;
    counted = pass.counted;
    sized = pass.sized;
    made_sized = subst (HaveSizesTo (now_in v') v'.forest.root v'.made) (sym x.ends.depth) sizes;
    holds = at_end o x;
    front = x.room;
    room = pass.room;
  }

-- 2. sizes

first_same : (x y : Spotted) (xs ys : List Spotted) → x ∷ xs ≡ y ∷ ys → x ≡ y
first_same x y xs ys e = cc

others_same : (x y : Spotted) (xs ys : List Spotted) → x ∷ xs ≡ y ∷ ys → xs ≡ ys
others_same x y xs ys e = cc

same_spot : (m m' : Nodes Kept) (ks : List ℕ) → map (λ k. spot_in k (m' k)) ks ≡ map (λ k. spot_in k (m k)) ks → (k : ℕ) → In k ks → spot_in k (m' k) ≡ spot_in k (m k)
same_spot m m' [] e k none = absurd none
same_spot m m' (j ∷ js) e k (inl i) = ap (λ x. spot_in x (m' x)) i ∙ first_same (spot_in j (m' j)) (spot_in j (m j)) (map (λ k. spot_in k (m' k)) js) (map (λ k. spot_in k (m k)) js) e ∙ ap (λ x. spot_in x (m x)) (sym i)
same_spot m m' (j ∷ js) e k (inr i) = same_spot m m' js (others_same (spot_in j (m' j)) (spot_in j (m j)) (map (λ k. spot_in k (m' k)) js) (map (λ k. spot_in k (m k)) js) e) k i

-- what replaces a node of a level that stays
module _ (v v' : PassView) (t : ℕ) (g : Goes (stage_of v) (stage_of v') t) where
  same_successor : (u k : ℕ) → u < t → In k (row_of v u) → kept_successors (now_in v') k ≡ kept_successors (now_in v) k
  same_successor u k l i =
      let spots = g.above.spots u l in
      let rows = ap (map (λ k. spot_in k (now_in v' k))) (sym (g.above.nodes u l)) in
      let seen = ap (λ (a : Spotted). a.seen) (same_spot (now_in v) (now_in v') (row_of v u) (rows ∙ spots) k i) in
      ap (λ x. kept_successor x (answer_at (now_in v') k)) seen ∙ ap (kept_successor (spot_in k (now_in v k)).seen) (g.above.kept u k l i)

  -- the sizes of the levels that were made stay, where the last of them has the nodes that it had
  pub sizes_stay : HaveSizesTo (now_in v) v.forest.root v.made t → ((u : ℕ) → u ≤ t → row_of v' u ≡ row_of v u) → v'.made ≡ v.made → HaveSizesTo (now_in v') v'.forest.root v'.made t
  sizes_stay h rows e = subst (λ (xs : List Size). HaveSizesTo (now_in v') v'.forest.root xs t) (sym e) (record {
    count = h.count;
    symbols = λ u l. h.symbols u l ∙ ap (length {A = ℕ}) (sym (rows u l));
    closed = λ u l f. subst (AreClosed (kept_successors (now_in v'))) (sym (g.above.nodes u l)) (closed_same (kept_successors (now_in v)) (kept_successors (now_in v')) (row_of v u) (λ k i. same_successor u k l i) (h.closed u l f));
  })

-- one more level was made
pub sizes_next : (v v' : PassView) (t : ℕ) (b : Bool) → Goes (stage_of v) (stage_of v') (t + 1) → HaveSizesTo (now_in v) v.forest.root v.made t → (b ≡ false → AreClosed (kept_successors (now_in v)) (row_of v t)) → v'.made ≡ with_level (with_open v.made b) (length (row_of v' (t + 1))) → HaveSizesTo (now_in v') v'.forest.root v'.made (t + 1)
sizes_next v v' t b g h closed e =
    let root : v'.forest.root ≡ v.forest.root = g.run.root in
    let within : (u : ℕ) → u ≤ t → u < t + 1 = λ u l. omega (arith, l) in
    let nodes : (u : ℕ) → u ≤ t → level_nodes (now_in v') v.forest.root u ≡ row_of v u = λ u l. ap (λ r. level_nodes (now_in v') r u) (sym root) ∙ g.above.nodes u (within u l) in
    let long : length (row_of v' (t + 1)) ≡ length (level_nodes (now_in v') v.forest.root (t + 1)) = ap (λ r. length (level_nodes (now_in v') r (t + 1))) root in
    let made = made_more (now_in v) (now_in v') v.forest.root v.made t b h nodes (λ u k l i. same_successor v v' (t + 1) g u k (within u l) i) closed in
    subst (λ r. HaveSizesTo (now_in v') r v'.made (t + 1)) (sym root) (subst (λ (xs : List Size). HaveSizesTo (now_in v') v.forest.root xs (t + 1)) (sym (e ∙ ap (with_level (with_open v.made b)) long)) made)

-- 3. a level of which all was asked, when the pass has failed so far

pub was_asked : (v v' : PassView) (t : ℕ) → IsPass v → v.state ≡ Level t → v.pending ≡ [] → v.faults ≡ [] → v' ≡ record v { state = Failed } → WasAsked v' t
was_asked v v' t h state pending faults same = subst (λ (w : PassView). WasAsked w t) (sym same) (record {
  pass = record {
    stored = h.stored;
    few = h.few;
    unmarked = h.unmarked;
    counted = h.counted;
    sized = h.sized;
    made_sized = subst (SizesAt (now_in v) v.forest.root v.next.depth v.made) state h.made_sized;
    holds = subst (HoldsAt (stage_of v)) state h.holds;
    front = again v t (subst (FrontAt v) state h.front);
    room = h.room;
  };
  asked = record { at = subst (HoldsAt (stage_of v)) state h.holds; pending = pending; faults = faults };
})
  where
    again : (v : PassView) (t : ℕ) → HasFront v t → HasFront (record (record v { state = Failed }) { state = Level t }) t
    again v t x = record { front = x.front; within = x.within; before = x.before; here = x.here; room = x.room }

-- it is made from a level of which all was asked
pub from_after : (v v' : PassView) (t : ℕ) → WasAsked v t → Goes (stage_of v) (stage_of v') (t + 1) → Origin v' (t + 1)
from_after v v' t a g = Origin.after v t (omega arith) a g

-- the sizes of its levels
pub sizes_made : (v w v' : PassView) (t : ℕ) (b : Bool) → WasAsked v t → now_in w ≡ now_in v → w.forest.root ≡ v.forest.root → Goes (stage_of w) (stage_of v') (t + 1) → (b ≡ false → AreClosed (kept_successors (now_in w)) (row_of w t)) → v'.made ≡ with_level (with_open v.made b) (length (row_of v' (t + 1))) → HaveSizesTo (now_in v') v'.forest.root v'.made (t + 1)
sizes_made v w v' t b a same root g closed e =
    sizes_next (record w { made = v.made }) v' t b g
    (subst (λ r. HaveSizesTo (now_in w) r v.made t) (sym root) (subst (λ (m : Nodes Kept). HaveSizesTo m v.forest.root v.made t) (sym same) a.pass.made_sized)) closed e

-- 4. the last rest and both systems stay from call to call

pub run_on : (u v w : PassView) → SameRun u v → SameRun v w → SameRun u w
run_on u v w a b = record {
  system = b.system ∙ a.system;
  next = b.next ∙ a.next;
  limit = b.limit ∙ a.limit;
  root = b.root ∙ a.root;
  was = b.was ∙ a.was;
}

pub run_same : (v w : PassView) → w ≡ v → SameRun v w
run_same v w e = record {
  system = ap (λ (y : PassView). y.system) e;
  next = ap (λ (y : PassView). y.next) e;
  limit = ap (λ (y : PassView). y.limit) e;
  root = ap (λ (y : PassView). y.forest.root) e;
  was = ap (λ (y : PassView). P.rest_in y) e;
}

-- seats' marks and sizes don't matter
pub run_part : (v w : PassView) → w ≡ record v { seats = w.seats; made = w.made } → SameRun v w
run_part v w e = record {
  system = ap (λ (y : PassView). y.system) e;
  next = ap (λ (y : PassView). y.next) e;
  limit = ap (λ (y : PassView). y.limit) e;
  root = ap (λ (y : PassView). y.forest.root) e;
  was = ap (λ (y : PassView). P.rest_in y) e;
}

-- a level was finished
pub finishes : (u v w : PassView) (t : ℕ) → u.state ≡ Level t → SameRun u v → v.renewed ≡ u.renewed → SameRun v w → w.renewed ≡ v.renewed → ArrivesAt v.next (t + 1) w.state → Finishes u w
finishes u v w t state a same b again next = record {
  run = run_on u v w a b;
  state = subst (λ s. Follows u.next s w.state) (sym state) (subst (λ (s : System). ArrivesAt s (t + 1) w.state) a.next next);
  renewed = again ∙ same;
}
