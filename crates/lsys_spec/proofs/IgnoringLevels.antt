-- Names that are ignored alike on all levels make no difference to what a system means.
use Rattle.std.proofs.Common.{◌≡◌, ℕ, zero, suc, ◌+◌, Bool, true, false, List, [], ◌∷◌, ◌++◌, refl, ap, ◌∙◌, if◌then◌else◌}
use Rattle.std.specs.Prelude.{Result, Ok, Err}
use Rattle.lsys_syntax.specs.Strings.{ModuleName}
use Rattle.lsys_spec.specs.Systems.{System, Each}
use Rattle.lsys_spec.specs.Values.{◌and_then◌}
use Rattle.lsys_spec.specs.Levels.{LevelSymbol}
use Rattle.lsys_spec.specs.Meaning.{LevelRefusal, OverLimit, next_level, within_limit, last_level, meaning_to, meaning, ignores}
use Rattle.lsys_spec.specs.Questions.{questions_at, questions_below, questions}
use Rattle.lsys_spec.specs.Morphisms.{AreAlike, ignoring}
use Rattle.lsys_spec.proofs.Ignoring.{level_same, questions_same}

-- levels, and the next one after them
record Longer (r : Result (List (List LevelSymbol)) LevelRefusal) (next : List (List LevelSymbol) → Result (List LevelSymbol) LevelRefusal) (limit t : ℕ) (levels : List (List LevelSymbol)) : Type 0 where
  before : List (List LevelSymbol)
  last : List LevelSymbol
  were : r ≡ Ok before
  came : next before ≡ Ok last
  fits : within_limit limit t (before ++ last ∷ []) ≡ Ok levels
  are : before ++ last ∷ [] ≡ levels

abbrev Gives : Result (List (List LevelSymbol)) LevelRefusal → List (List LevelSymbol) → Type 0
Gives (Ok found) levels = found ≡ levels
Gives (Err r) levels = ⊥

gives : (r : Result (List (List LevelSymbol)) LevelRefusal) (levels : List (List LevelSymbol)) → r ≡ Ok levels → Gives r levels
gives r levels h = rw h refl

fits_by : (over : Bool) (t : ℕ) (found levels : List (List LevelSymbol)) → Gives (if over then Err (OverLimit t) else Ok found) levels → found ≡ levels
fits_by true t found levels h = absurd h
fits_by false t found levels h = h

with_last : (limit t : ℕ) (levels before : List (List LevelSymbol)) (next : List (List LevelSymbol) → Result (List LevelSymbol) LevelRefusal) (n : Result (List LevelSymbol) LevelRefusal)
    → next before ≡ n → (n and_then λ x. within_limit limit t (before ++ x ∷ [])) ≡ Ok levels → Longer (Ok before) next limit t levels
with_last limit t levels before next (Err r) e h = absurd (gives (Err r) levels h)
with_last limit t levels before next (Ok x) e h =
    record { before = before; last = x; were = refl; came = e; fits = h; are = fits_by _ t _ levels (gives _ levels h) }

longer : (limit t : ℕ) (levels : List (List LevelSymbol)) (r : Result (List (List LevelSymbol)) LevelRefusal) (next : List (List LevelSymbol) → Result (List LevelSymbol) LevelRefusal)
    → (r and_then λ ls. next ls and_then λ x. within_limit limit t (ls ++ x ∷ [])) ≡ Ok levels → Longer r next limit t levels
longer limit t levels (Err r) next h = absurd (gives (Err r) levels h)
longer limit t levels (Ok before) next h = with_last limit t levels before next (next before) refl h

front_each : (P : List LevelSymbol → Type 0) (xs : List (List LevelSymbol)) (x : List LevelSymbol) → Each P (xs ++ x ∷ []) → Each P xs
front_each P [] x h = tt
front_each P (y ∷ xs) x h = (h.0, front_each P xs x h.1)

module _ (s : System) (names : List ModuleName) where
  last_alike : (xs : List (List LevelSymbol)) → Each (AreAlike (ignores names) (ignores s.ignored)) xs → AreAlike (ignores names) (ignores s.ignored) (last_level xs)
  last_alike [] h = tt
  last_alike (x ∷ []) h = h.0
  last_alike (x ∷ y ∷ xs) h = last_alike (y ∷ xs) h.1

  meaning_same : (limit t : ℕ) (levels : List (List LevelSymbol))
      → meaning_to s limit t ≡ Ok levels → Each (AreAlike (ignores names) (ignores s.ignored)) levels → meaning_to (ignoring names s) limit t ≡ Ok levels
  meaning_same limit zero levels h k = h
  meaning_same limit (suc t) levels h k =
      let l = longer limit (suc t) levels (meaning_to s limit t) (λ ls. next_level s t (last_level ls)) h in
      let front : Each (AreAlike (ignores names) (ignores s.ignored)) l.before =
      front_each (AreAlike (ignores names) (ignores s.ignored)) l.before l.last (rw l.are k) in
      let same : meaning_to (ignoring names s) limit t ≡ Ok l.before = meaning_same limit t l.before l.were front in
      let next : next_level (ignoring names s) t (last_level l.before) ≡ Ok l.last =
      level_same s names (last_level l.before) (last_alike l.before front) t ∙ l.came in
      rw (same, next) l.fits

  below_same : (t : ℕ) (levels : List (List LevelSymbol))
      → Each (AreAlike (ignores names) (ignores s.ignored)) levels → questions_below (ignoring names s) t levels ≡ questions_below s t levels
  below_same t [] h = refl
  below_same t (x ∷ []) h = refl
  below_same t (x ∷ y ∷ levels) h =
      ap (λ qs. qs ++ questions_below (ignoring names s) (t + 1) (y ∷ levels)) (questions_same s names x h.0 t)
      ∙ ap (λ qs. questions_at s t x ++ qs) (below_same (t + 1) (y ∷ levels) h.1)

  pub meaning_and_questions : (limit : ℕ) (levels : List (List LevelSymbol))
      → meaning s limit ≡ Ok levels → Each (AreAlike (ignores names) (ignores s.ignored)) levels
      → (meaning (ignoring names s) limit ≡ Ok levels) × (questions (ignoring names s) levels ≡ questions s levels)
  meaning_and_questions limit levels h k = (meaning_same limit s.depth levels h k, below_same 0 levels k)
