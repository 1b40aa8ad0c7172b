-- A level that was just made, as calls tell it.
use Rattle.std.proofs.Common.{◌≡◌, ◌+◌, ◌<◌, ◌≤◌, ℕ, Bool, List, [], ◌++◌, length, Option, refl, sym, ap, ◌∙◌, subst}
use Rattle.std.specs.Prelude.{IsTrue}
use Rattle.lsys_spec.specs.Rows.{In}
use Rattle.lsys_spec.specs.Systems.{System}
use Rattle.lsys_match.specs.Kept.{Kept}
use Rattle.lsys_forest.specs.Answers.{AnswerKeeper, IsHeld}
use Rattle.lsys_reads.specs.Names.{run_in, holds}
use Rattle.lsys_forest.specs.Groves.{Grove, IsLive, now_of}
use Rattle.lsys_forest.specs.Rows.{level_nodes}
use Rattle.lsys_children.specs.declared.need.Need.{Need}
use Rattle.lsys_children.specs.Children.{ToldNodes}
use Rattle.lsys_reads.specs.Levels.{answer_at}
use Rattle.lsys_reads.specs.declared.seat.Seat.{Seat}
use Rattle.lsys_reads.specs.Seats.{HasSeat, SameSeats, SameMarks, KeepsSeats}
use Rattle.lsys_reads.specs.Looks.{AddsBelow}
use Rattle.lsys_children.specs.declared.parent.Parent.{Parent}
use Rattle.lsys_children.specs.Needs.{needs}
use Rattle.lsys_front.specs.Fronts.{Differences, IsToldNext, StandOn, LooksBelow}
use Rattle.lsys_pass.specs.declared.sizes.Size.{Size}
use Rattle.lsys_pass.specs.declared.state.PassState.TheVariants.{Failed}
use Rattle.lsys_pass.specs.Sizes.{total_of, with_level}
use Rattle.lsys_pass.specs.Advances.{symbols_wanted}
use Rattle.lsys_pass.specs.Passes.{PassView, stage_of, now_in, IsPass}
use Rattle.lsys_pass.specs.Made.{KeepsAnswers, MakesBelow, IsNextFront}
use Rattle.lsys_pass.specs.Fresh.{WasAsked, AreNextParents, Goes, WasJustMade}
use Rattle.lsys_pass.proofs.Failing.{still_failed}
use Rattle.lsys_pass.proofs.Freshness.{gone_lives, stands_on, same_answers, long, is_fresh, goes_below}

-- 1. it stays one that failed

pub made_failed : (v : PassView) (h : Grove Kept) (seats : List Seat) (sizes made : List Size) (d : Differences) → IsPass v → v.state ≡ Failed → KeepsAnswers v.forest h → SameSeats v.seats seats → SameMarks v.seats seats → KeepsSeats v.seats seats → sizes ≡ v.sizes
    → IsPass (record v { forest = h; seats = seats; sizes = sizes; made = made; front = d })
made_failed v h seats sizes made d pass failed keeps same marks kept stay = still_failed v (record v { forest = h; seats = seats; sizes = sizes; made = made; front = d }) pass (record {
  was_failed = failed;
  failed = failed;
  stored = record {
    sound = keeps.sound;
    made = λ i b e. pass.stored.made i b (ap (λ (f : AnswerKeeper → Option Kept). f i) (sym keeps.kept) ∙ e);
    once = λ i j b c run e f. pass.stored.once i j b c run (ap (λ (f : AnswerKeeper → Option Kept). f i) (sym keeps.kept) ∙ e) (ap (λ (f : AnswerKeeper → Option Kept). f j) (sym keeps.kept) ∙ f);
    freed = λ run not. pass.stored.freed run (subst (λ (f : AnswerKeeper → Option Kept). IsHeld run_in holds f run → ⊥) keeps.kept not);
  };
  few = keeps.few;
  unmarked = λ k. marks k ∙ pass.unmarked k;
  answers = refl;
  sizes = stay;
  run = record { system = refl; limit = refl; root = keeps.root; was = keeps.rest; store = refl; reads = refl; listed = refl; renewed = refl; born = refl; same_seats = same };
  seats = kept;
})

-- what is known of the front of the next level, where it took the place of the other
pub front_taken : {was_there : Bool} {h : Grove Kept} {old taken next : Differences} {told : ToldNodes} → taken ≡ next
    → IsNextFront was_there h old told next → IsNextFront was_there h old told taken
front_taken {was_there} {h} {old} {taken} {next} {told} e x = subst (IsNextFront was_there h old told) (sym e) x

-- the next level was there, where its level was not the last one
pub level_was_there : {t depth told : ℕ} {was_there : Bool} → told ≡ depth → (t < told → IsTrue was_there) → t < depth → IsTrue was_there
level_was_there {t} {depth} {told} {was_there} e asked below = asked (subst (λ n. t < n) (sym e) below)

-- 2. the same, as another view of the pass tells it

module _ (v w : PassView) (t : ℕ) (e : v ≡ w) (asked : WasAsked w t) (ps : List Parent) (found : AreNextParents w t ps) (s : System) (target : s ≡ v.next) where
  here : WasAsked v t
  here = subst (λ (z : PassView). WasAsked z t) (sym e) asked

  parents : AreNextParents v t ps
  parents = subst (λ (z : PassView). AreNextParents z t ps) (sym e) found

  pub need_at : (need : Need) → need ≡ needs w.next.numbering (now_in w) ps → need ≡ needs s.numbering (now_in v) ps
  need_at need is = is ∙ ap (λ (z : PassView). needs z.next.numbering (now_in z) ps) (sym e) ∙ ap (λ (y : System). needs y.numbering (now_in v) ps) (sym target)

  module _ (h : Grove Kept) (told : ToldNodes) (keeps : KeepsAnswers v.forest h) (below : MakesBelow s.numbering v.forest h ps told) where
    makes : MakesBelow v.next.numbering v.forest h ps told
    makes = subst (λ (y : System). MakesBelow y.numbering v.forest h ps told) target below

    pub lives_at : (k : ℕ) → In k v.front.changes.gone → IsLive h k
    lives_at = gone_lives v t here h ps told parents keeps makes

    pub stands_at : StandOn h t (told.touched ++ (v.front.changes.came ++ v.front.turned))
    stands_at = stands_on v t here h ps told parents keeps makes

    pub answers_at : (k : ℕ) → answer_at (now_of h) k ≡ answer_at (now_in w) k
    answers_at k = same_answers v t here h ps told parents keeps makes k ∙ ap (λ (z : PassView). answer_at (now_in z) k) e

    module _ (n : ℕ) (is : n ≡ symbols_wanted (stage_of w) t) (fits : total_of w.made + n ≤ w.limit) where
      few : total_of v.made + symbols_wanted (stage_of v) t ≤ v.limit
      few = subst (λ (z : PassView). total_of z.made + symbols_wanted (stage_of z) t ≤ z.limit) (sym e) (subst (λ m. total_of w.made + m ≤ w.limit) is fits)

      pub made_at : (made : List Size) → made ≡ with_level v.made n → made ≡ with_level w.made (length (level_nodes (now_of h) h.root (t + 1)))
      made_at made more =
          more ∙ ap (λ (z : PassView). with_level z.made n) e
          ∙ ap (with_level w.made) (is ∙ ap (λ (z : PassView). symbols_wanted (stage_of z) t) (sym e) ∙ sym (long v t here h ps told parents keeps makes))

      module _ (seats : List Seat) (sizes made : List Size) (d : Differences) (same : SameSeats v.seats seats) (kept : KeepsSeats v.seats seats) (room : (k : ℕ) → IsLive h k → HasSeat seats k) (bare : d.bare ≡ [])
          (tells : IsToldNext h v.front told d.changes) (looks : t < v.system.depth → LooksBelow h (told.touched ++ v.front.changes.came) (v.front.changes.came ++ v.front.turned) d.changes.looked)
          (adds : (u : ℕ) → StandOn h u (told.touched ++ (v.front.changes.came ++ v.front.turned)) → AddsBelow h u [] d.changes.looked) (deep : t < w.next.depth) where
        below_depth : t < v.next.depth
        below_depth = subst (λ (z : PassView). t < z.next.depth) (sym e) deep

        -- sizes of the last rest don't matter
        sized : (z : PassView) (u : ℕ) → WasJustMade z u → WasJustMade (record z { sizes = sizes }) u
        sized z u x = record {
          made = record { spots = x.made.spots; within = x.made.within; deeper = x.made.deeper; counts = x.made.counts; answers = x.made.answers; renewed_are = x.made.renewed_are; faults = x.made.faults; pending = x.made.pending; room = x.made.room };
          lists = x.lists;
          dropped = x.dropped;
          differs = x.differs;
          gone_once = x.gone_once;
          gone_keep = x.gone_keep;
          bare = x.bare;
          looks = record { looked = x.looks.looked; looked_are = x.looks.looked_are };
        }

        pub fresh_at : WasJustMade (record v { forest = h; seats = seats; sizes = sizes; made = made; front = d }) (t + 1)
        fresh_at = sized (record v { forest = h; seats = seats; made = made; front = d }) (t + 1) (is_fresh v t here h ps told parents keeps makes few seats made d same kept room bare tells looks (adds t stands_at) below_depth)

        pub goes_at : Goes (stage_of w) (stage_of (record v { forest = h; seats = seats; sizes = sizes; made = made; front = d })) (t + 1)
        goes_at =
            subst (λ (z : PassView). Goes (stage_of z) (stage_of (record v { forest = h; seats = seats; sizes = sizes; made = made; front = d })) (t + 1)) e
            (goes_below v t here h ps told parents keeps makes few seats made d same kept room bare tells looks (adds t stands_at) below_depth)
