-- The next level and the limit, before it is made.
use Rattle.std.proofs.Common.{◌≡◌, ◌+◌, ◌<◌, ◌≤◌, ℕ, zero, suc, Bool, true, false, List, [], ◌∷◌, ◌++◌, length, map, Ok, Err, refl, sym, ap, ◌∙◌, subst, arith, cond}
use Rattle.std.specs.Prelude.{nat_lt, get_or, sum_by}
use Rattle.std.proofs.lemmas.Bool.Decides.{nat_tests}
use Rattle.std.proofs.lemmas.List.Sums.{sum_by-cons}
use Rattle.lsys_spec.specs.Systems.{System}
use Rattle.lsys_spec.specs.Levels.{LevelSymbol}
use Rattle.lsys_spec.specs.Meaning.{OverLimit, first_level, next_level, last_level, within_limit, meaning_to}
use Rattle.lsys_spec.proofs.LevelInduction.{ok_parts}
use Rattle.lsys_laws.proofs.UpTo.{level_count}
use Rattle.lsys_level.specs.Spots.{named}
use Rattle.lsys_forest.specs.Groves.{changes_in}
use Rattle.lsys_forest.specs.Rows.{spot_in, level_nodes, level_spots}
use Rattle.lsys_forest.proofs.RowLemmas.{level_apart}
use Rattle.lsys_reads.specs.Lineages.{names}
use Rattle.lsys_reads.specs.Meant.{meant_to, level_to}
use Rattle.lsys_children.specs.Answers.{kept_successors, AreAnswered}
use Rattle.lsys_children.proofs.Finishing.{answered_level}
use Rattle.lsys_children.proofs.Nexts.{last_there}
use Rattle.lsys_children.proofs.Lengths.{next_is, over_level}
use Rattle.lsys_pass.specs.declared.sizes.Size.{Size}
use Rattle.lsys_pass.specs.declared.state.PassState.TheVariants.{Level}
use Rattle.lsys_pass.specs.Sizes.{symbols_at, total_of, HaveSizesTo, SizesAt}
use Rattle.lsys_pass.specs.Stages.{Stage}
use Rattle.lsys_pass.specs.Passes.{PassView, stage_of, now_in, IsPass}
use Rattle.lsys_pass.specs.Advances.{IsAskedTo, symbols_wanted}
use Rattle.lsys_pass.specs.Fresh.{WasAsked}
use Rattle.lsys_pass.proofs.Asking.{sound_now}
use Rattle.lsys_pass.proofs.Finishing.{all_answered}

-- 1. the symbols of levels under a limit are no more than it

under : (limit t : ℕ) (xs ys : List (List LevelSymbol)) → within_limit limit t xs ≡ Ok ys → sum_by length ys ≤ limit
under limit t xs ys h = by (nat_lt limit (sum_by length xs)) refl h
  where
    by : (b : Bool) → nat_lt limit (sum_by length xs) ≡ b → cond b (Err (OverLimit t)) (Ok xs) ≡ Ok ys → sum_by length ys ≤ limit
    by true e k = cc
    by false e k = let same : xs ≡ ys = cc in subst (λ (ys : List (List LevelSymbol)). sum_by length ys ≤ limit) same (grind (arith, nat_tests))

pub within : (s : System) (limit t : ℕ) (ys : List (List LevelSymbol)) → meaning_to s limit t ≡ Ok ys → sum_by length ys ≤ limit
within s limit zero ys h = under limit 0 (first_level s ∷ []) ys h
within s limit (suc t) ys h =
    let before = ok_parts (meaning_to s limit t) _ ys h in
    let here = ok_parts (next_level s t (last_level before.0)) _ ys before.2 in
    under limit (suc t) (before.0 ++ here.0 ∷ []) ys here.2

-- 2. the sizes of levels are their lengths

length_map : {A B : Type 0} (f : A → B) (xs : List A) → length (map f xs) ≡ length xs
length_map f [] = refl
length_map f (x ∷ xs) = ap suc (length_map f xs)

same_totals : (zs : List Size) (xs : List (List LevelSymbol)) → length zs ≡ length xs → ((u : ℕ) → u < length xs → symbols_at zs u ≡ length (get_or xs u [])) → total_of zs ≡ sum_by length xs
same_totals [] [] e h = refl
same_totals [] (x ∷ xs) e h = absurd (omega (arith, e))
same_totals (z ∷ zs) [] e h = absurd (omega (arith, e))
same_totals (z ∷ zs) (x ∷ xs) e h =
    let one = h 0 (omega arith) in
    let rest = same_totals zs xs (omega (arith, e)) (λ u l. h (suc u) (omega (arith, l))) in
    let a = sum_by-cons (λ (y : Size). y.symbols) z zs in
    let b = sum_by-cons (length {A = LevelSymbol}) x xs in
    omega (arith, one, rest, a, b)

module _ (v : PassView) (t : ℕ) (h : IsPass v) (state : v.state ≡ Level t) (a : IsAskedTo (stage_of v) t) where
  abbrev s : Stage
  s = stage_of v

  count : length (meant_to v.next v.limit t) ≡ t + 1
  count = level_count v.next v.limit t (meant_to v.next v.limit t) a.at.tree.spelled a.at.tree.is

  made : HaveSizesTo (now_in v) v.forest.root v.made t
  made = subst (SizesAt (now_in v) v.forest.root v.next.depth v.made) state h.made_sized

  long : (u : ℕ) → u < length (meant_to v.next v.limit t) → symbols_at v.made u ≡ length (get_or (meant_to v.next v.limit t) u [])
  long u l =
      made.symbols u (let c = count in omega (arith, c, l))
      ∙ sym (length_map (λ k. spot_in k (now_in v k)) (level_nodes (now_in v) v.forest.root u))
      ∙ sym (length_map (named (names (now_in v))) (level_spots (now_in v) v.forest.root u))
      ∙ ap (length {A = LevelSymbol}) (a.at.tree.levels.each u l)

  pub total_is : total_of v.made ≡ sum_by length (meant_to v.next v.limit t)
  total_is = same_totals v.made (meant_to v.next v.limit t) (made.count ∙ sym count) long

  pub total_within : total_of v.made ≤ v.limit
  total_within = let e = total_is in let w = within v.next v.limit t (meant_to v.next v.limit t) a.at.tree.is in omega (arith, e, w)

  -- all questions of level t are answered
  pub are_answered : AreAnswered v.next v.limit t (now_in v) v.forest.root v.store
  are_answered = record {
    levels = record {
      spelled = a.at.tree.spelled;
      is = a.at.tree.is;
      levels = a.at.tree.levels;
      once = a.at.tree.once;
      changes = changes_in v.forest;
      sound = sound_now v t h state;
    };
    answered = λ p k e. all_answered s t a t p k (omega arith) e;
  }

  -- the next level is there
  pub next_there : (y : List LevelSymbol) × (next_level v.next t (level_to v.next v.limit t) ≡ Ok y)
  next_there = (
    _,
    ap (next_level v.next t) (sym (last_there (meant_to v.next v.limit t) t count))
        ∙ next_is v.next v.limit t (now_in v) v.forest.root (kept_successors (now_in v)) (answered_level v.next v.limit t (now_in v) v.forest.root v.store are_answered),
  )

  -- or it is over the limit
  pub over_next : (n : ℕ) → n ≡ symbols_wanted s t → v.limit < total_of v.made + n → meaning_to v.next v.limit (t + 1) ≡ Err (OverLimit (t + 1))
  over_next n e l =
      let total = total_is in
      let here : suc t ≡ t + 1 = omega arith in
      subst (λ n. meaning_to v.next v.limit n ≡ Err (OverLimit n)) here (over_level v.next v.limit t (now_in v) v.forest.root (kept_successors (now_in v)) (answered_level v.next v.limit t (now_in v) v.forest.root v.store are_answered)
      (level_apart v.forest.root (changes_in v.forest) (now_in v) (sound_now v t h state) t) (omega (arith, e, l, total)))

-- 3. a level of which all was asked

pub total_asked : (v : PassView) (t : ℕ) → WasAsked v t → total_of v.made ≤ v.limit
total_asked v t a = total_within (record v { state = Level t }) t a.pass refl a.asked

pub over_asked : (v : PassView) (t : ℕ) → WasAsked v t → (n : ℕ) → n ≡ symbols_wanted (stage_of v) t → v.limit < total_of v.made + n → meaning_to v.next v.limit (t + 1) ≡ Err (OverLimit (t + 1))
over_asked v t a n e l = over_next (record v { state = Level t }) t a.pass refl a.asked n e l

pub there_asked : (v : PassView) (t : ℕ) → WasAsked v t → (y : List LevelSymbol) × (next_level v.next t (level_to v.next v.limit t) ≡ Ok y)
there_asked v t a = next_there (record v { state = Level t }) t a.pass refl a.asked
