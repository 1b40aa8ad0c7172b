-- A pass that comes to a level, or to its end.
use Rattle.std.proofs.Common.{◌≡◌, ◌+◌, ◌<◌, ◌≤◌, ◌^◌, ℕ, zero, suc, Bool, false, List, [], ◌∷◌, length, refl, sym, ap, ◌∙◌, subst, inl, inr, arith}
use Rattle.std.proofs.lemmas.Bool.{cases_lt}
use Rattle.lsys_spec.specs.Rows.{In}
use Rattle.lsys_spec.specs.Systems.{System}
use Rattle.lsys_spec.specs.Questions.{questions}
use Rattle.lsys_match.specs.Kept.{Kept}
use Rattle.lsys_forest.specs.Nodes.{Nodes}
use Rattle.lsys_forest.specs.Groves.{IsRooted, changes_in, live_nodes}
use Rattle.lsys_forest.specs.Rows.{level_nodes}
use Rattle.lsys_forest.proofs.SoundLemmas.{AreSound-now}
use Rattle.lsys_reads.specs.Meant.{levels_meant}
use Rattle.lsys_reads.specs.Seats.{is_marked}
use Rattle.lsys_children.specs.Nexts.{AreClosed}
use Rattle.lsys_children.specs.Answers.{kept_successors}
use Rattle.lsys_pass.specs.declared.sizes.Size.{Size}
use Rattle.lsys_pass.specs.declared.state.PassState.TheVariants.{Level, Done, Failed}
use Rattle.lsys_pass.specs.Sizes.{symbols_at, opens_at, with_open, with_level, HaveSizes, HaveSizesTo, SizesAt}
use Rattle.lsys_pass.specs.Stages.{IsStored, Rests}
use Rattle.lsys_pass.specs.Passes.{PassView, stage_of, now_in, rest_in, HoldsAt, AllHaveSeats, IsStill, HasFront, FrontAt, IsPass}
use Rattle.lsys_pass.specs.Moves.{AtLevel}
use Rattle.lsys_pass.specs.Advances.{IsAskedTo, KeepsRest, Makes, BeginsAnew, Advances, HasLastLevel}
use Rattle.lsys_pass.proofs.Backing.{known_at}
use Rattle.lsys_pass.proofs.Sized.{closed_same}
use Rattle.lsys_pass.proofs.Finishing.{starts, ends}
use Rattle.lsys_pass.proofs.Starting.{starts_first, starts_done}

-- 1. it failed

pub failed : (v : PassView) → IsPass v → AtLevel v.state → IsPass (record v { state = Failed })
failed v h at = record {
  stored = h.stored;
  few = h.few;
  unmarked = h.unmarked;
  counted = h.counted;
  sized = h.sized;
  made_sized = tt;
  holds = known_at (stage_of v) v.state at h.holds;
  front = tt;
  room = h.room;
}

-- 2. the sizes of the levels that were made

-- and one more level
abbrev pub one_more : List Size → Bool → ℕ → List Size
one_more xs b n = with_level (with_open xs b) n

more_long : (xs : List Size) (b : Bool) (n : ℕ) → length (one_more xs b n) ≡ length xs + 1
more_long [] b n = refl
more_long (x ∷ []) b n = refl
more_long (x ∷ y ∷ xs) b n = let r = more_long (y ∷ xs) b n in omega (arith, r)

more_before : (xs : List Size) (b : Bool) (n u : ℕ) → u < length xs → symbols_at (one_more xs b n) u ≡ symbols_at xs u
more_before [] b n u l = absurd (omega (arith, l))
more_before (x ∷ []) b n zero l = refl
more_before (x ∷ []) b n (suc u) l = absurd (omega (arith, l))
more_before (x ∷ y ∷ xs) b n zero l = refl
more_before (x ∷ y ∷ xs) b n (suc u) l = more_before (y ∷ xs) b n u (omega (arith, l))

more_last : (xs : List Size) (b : Bool) (n : ℕ) → symbols_at (one_more xs b n) (length xs) ≡ n
more_last [] b n = refl
more_last (x ∷ []) b n = refl
more_last (x ∷ y ∷ xs) b n = more_last (y ∷ xs) b n

more_open : (xs : List Size) (b : Bool) (n u : ℕ) → u + 1 < length xs → opens_at (one_more xs b n) u ≡ opens_at xs u
more_open [] b n u l = absurd (omega (arith, l))
more_open (x ∷ []) b n u l = absurd (omega (arith, l))
more_open (x ∷ y ∷ xs) b n zero l = refl
more_open (x ∷ y ∷ xs) b n (suc u) l = more_open (y ∷ xs) b n u (omega (arith, l))

more_told : (xs : List Size) (b : Bool) (n u : ℕ) → u + 1 ≡ length xs → opens_at (one_more xs b n) u ≡ b
more_told [] b n u l = absurd (omega (arith, l))
more_told (x ∷ []) b n zero l = refl
more_told (x ∷ []) b n (suc u) l = absurd (omega (arith, l))
more_told (x ∷ y ∷ xs) b n zero l = absurd (omega (arith, l))
more_told (x ∷ y ∷ xs) b n (suc u) l = more_told (y ∷ xs) b n u (omega (arith, l))

-- the levels up to level t stay, with what replaces their nodes, and level t + 1 is made
pub made_more : (m m' : Nodes Kept) (root : ℕ) (sizes : List Size) (t : ℕ) (b : Bool) → HaveSizesTo m root sizes t
    → ((u : ℕ) → u ≤ t → level_nodes m' root u ≡ level_nodes m root u)
    → ((u k : ℕ) → u ≤ t → In k (level_nodes m root u) → kept_successors m' k ≡ kept_successors m k)
    → (b ≡ false → AreClosed (kept_successors m) (level_nodes m root t))
    → HaveSizesTo m' root (one_more sizes b (length (level_nodes m' root (t + 1)))) (t + 1)
made_more m m' root sizes t b h nodes same closed = record {
  count = (let c = h.count in let l = more_long sizes b (length (level_nodes m' root (t + 1))) in omega (arith, c, l));
  symbols = λ u l. elim (cases_lt u (t + 1)) [
    | inl near ↦
        let le : u ≤ t = omega (arith, near) in
        more_before sizes b (length (level_nodes m' root (t + 1))) u (let c = h.count in omega (arith, c, near)) ∙ h.symbols u le ∙ ap (length {A = ℕ}) (sym (nodes u le))
    | inr far ↦
        let is : u ≡ length sizes = (let c = h.count in omega (arith, c, far, l)) in
        let at : length sizes ≡ u = sym is in
        let next : t + 1 ≡ u = omega (arith, far, l) in
        ap (symbols_at (one_more sizes b (length (level_nodes m' root (t + 1))))) is ∙ more_last sizes b (length (level_nodes m' root (t + 1))) ∙ ap (λ w. length (level_nodes m' root w)) next
  ];
  closed = λ u l e.
      let le : u ≤ t = omega (arith, l) in
      subst (AreClosed (kept_successors m')) (sym (nodes u le)) (closed_same (kept_successors m) (kept_successors m') (level_nodes m root u) (λ k i. same u k le i) (elim (cases_lt u t) [
        | inl near ↦ h.closed u near (sym (more_open sizes b (length (level_nodes m' root (t + 1))) u (let c = h.count in omega (arith, c, near))) ∙ e)
        | inr far ↦
            let is : u ≡ t = omega (arith, far, le) in
            subst (λ w. AreClosed (kept_successors m) (level_nodes m root w)) (sym is)
            (closed (sym (more_told sizes b (length (level_nodes m' root (t + 1))) u (let c = h.count in omega (arith, c, is))) ∙ e))
      ]));
}

-- 3. the pass

-- what holds of the parts of a pass wherever it stands
pub record IsKept (v v' : PassView) : Type 0 where
  pub stored : IsStored (now_in v') (changes_in v'.forest) v'.forest.root v'.store
  pub few : live_nodes v'.forest < 2 ^ 32
  pub unmarked : (k : ℕ) → is_marked v'.seats k ≡ false
  pub answers : v'.answers ≡ v.answers
  pub sizes : v'.sizes ≡ v.sizes
  pub run : KeepsRest (stage_of v) (stage_of v')
  pub room : AllHaveSeats (rest_in v') v'.seats

module _ (v v' : PassView) (h : IsPass v) (k : IsKept v v') where
  sound : IsRooted v.forest.root (changes_in v.forest) (now_in v)
  sound = AreSound-now v.forest.root (changes_in v.forest) (now_in v) h.stored.sound

  sound' : IsRooted v'.forest.root (changes_in v'.forest) (now_in v')
  sound' = AreSound-now v'.forest.root (changes_in v'.forest) (now_in v') k.stored.sound

  counted : v'.answers ≡ length (questions v'.system (levels_meant v'.system v'.limit))
  counted = k.answers ∙ h.counted ∙ ap (λ (s : System). length (questions s (levels_meant s v.limit))) (sym k.run.system) ∙ ap (λ l. length (questions v'.system (levels_meant v'.system l))) (sym k.run.limit)

  sized : HaveSizes (rest_in v') v'.forest.root v'.sizes
  sized =
      subst (HaveSizes (rest_in v') v'.forest.root) (sym k.sizes)
      (subst (λ r. HaveSizes (rest_in v') r v.sizes) (sym k.run.root) (subst (λ (m : Nodes Kept). HaveSizes m v.forest.root v.sizes) (sym k.run.was) h.sized))

  pub come : HoldsAt (stage_of v') v'.state → SizesAt (now_in v') v'.forest.root v'.next.depth v'.made v'.state → FrontAt v' v'.state → IsPass v'
  come holds made front = record { stored = k.stored; few = k.few; unmarked = k.unmarked; counted = counted; sized = sized; made_sized = made; holds = holds; front = front; room = k.room }

  -- it comes to the next level, or that is the last one
  module _ (t : ℕ) (asked : IsAskedTo (stage_of v) t) (x : Makes (stage_of v) (stage_of v') (suc t)) (made : HaveSizesTo (now_in v') v'.forest.root v'.made (suc t)) where
    pub next_pass : v'.state ≡ Level (suc t) → Advances (stage_of v') (suc t) → HasFront v' (suc t) → IsPass v'
    next_pass state a f =
        come (subst (HoldsAt (stage_of v')) (sym state) (starts (stage_of v) (stage_of v') t asked sound sound' x a)) (subst (SizesAt (now_in v') v'.forest.root v'.next.depth v'.made) (sym state) made) (subst (FrontAt v') (sym state) f)

    pub done_pass : v'.state ≡ Done → HasLastLevel (stage_of v') (suc t) → AllHaveSeats (now_in v') v'.seats → IsPass v'
    done_pass state e room =
        come (subst (HoldsAt (stage_of v')) (sym state) (ends (stage_of v) (stage_of v') t asked sound sound' x e))
        (subst (SizesAt (now_in v') v'.forest.root v'.next.depth v'.made) (sym state) (subst (HaveSizesTo (now_in v') v'.forest.root v'.made) (sym e.depth) made)) (subst (FrontAt v') (sym state) room)

  -- it comes from the last rest to level 0
  module _ (still : IsStill (stage_of v)) (known : Rests (stage_of v)) (x : BeginsAnew (stage_of v) (stage_of v')) (made : HaveSizesTo (now_in v') v'.forest.root v'.made 0) where
    pub first_pass : v'.state ≡ Level 0 → Advances (stage_of v') 0 → HasFront v' 0 → IsPass v'
    first_pass state a f =
        come (subst (HoldsAt (stage_of v')) (sym state) (starts_first (stage_of v) (stage_of v') still known x a)) (subst (SizesAt (now_in v') v'.forest.root v'.next.depth v'.made) (sym state) made) (subst (FrontAt v') (sym state) f)

    pub first_done : v'.state ≡ Done → HasLastLevel (stage_of v') 0 → AllHaveSeats (now_in v') v'.seats → IsPass v'
    first_done state e room =
        come (subst (HoldsAt (stage_of v')) (sym state) (starts_done (stage_of v) (stage_of v') still known x e))
        (subst (SizesAt (now_in v') v'.forest.root v'.next.depth v'.made) (sym state) (subst (HaveSizesTo (now_in v') v'.forest.root v'.made) (sym e.depth) made)) (subst (FrontAt v') (sym state) room)
