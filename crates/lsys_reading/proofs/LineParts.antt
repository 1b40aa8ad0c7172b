-- How the tokens of a line lead from state to state, and the loops over names and words.
use Rattle.std.proofs.Common.{◌≡◌, ◌≤◌, ◌<◌, ◌+◌, ℕ, true, false, Option, Some, None, Ok, Err, List, [], ◌∷◌, ◌++◌, drop, length, map, nat_lt, refl, ap, sym, ◌∙◌, arith}
use Rattle.std.proofs.lemmas.List.{drop_all}
use Rattle.lsys_syntax.specs.Tokens.{Kind, Word}
use Rattle.lsys_syntax.specs.Strings.{ModuleName}
use Rattle.lsys_syntax.specs.Commands.{set_schedule, print_string}
use Rattle.lsys_syntax.specs.RuleMachine.{Sign, a_name, sign_of, reversed}
use Rattle.lsys_syntax.specs.LineMachine.{State, Listed, InNames, listing, ScheduleDue, InSchedule, StringRead, Stop, Verdict, sentence, stops, too_deep, verdict_from, line_step, is_stop, line_depth, nesting_bound, word_step, with_name}
use Rattle.lsys_module.specs.Views.{module_name}
use Rattle.lsys_syntax.specs.RulePoints.{Here}
use Rattle.lsys_reading.specs.Lines.{line_at, IsRefused, word_in, name_of_sign, name_in, at_front, IsWord, IsName, LastNumberDue}
use Rattle.lsys_reading.specs.declared.refusal.PartRefusal.{PartRefusal}
use Rattle.lsys_reading.specs.declared.refusal.PartRefusal.TheVariants.{Token, Deep, Memory}
use Rattle.lsys_reading.proofs.Reversals.{reversed-push, reversed-twice, nil-append, mapped-push}

-- 1. one token, and the end

-- after a token that leads to the state t, where the rest is ks
abbrev tested : ℕ → List Kind → State → Verdict
tested n ks t = elim (is_stop t) [ true ↦ stops n | false ↦ elim (nat_lt nesting_bound (line_depth t)) [ true ↦ too_deep n | false ↦ verdict_from (n + 1) t ks ] ]

-- a state that is no refusal and no part of an expression
pub record IsFlat (s : State) : Type 0 where
  pub goes : is_stop s ≡ false
  pub flat : line_depth s ≡ 0

tested-goes : (n : ℕ) (ks : List Kind) (t : State) → IsFlat t → tested n ks t ≡ verdict_from (n + 1) t ks
tested-goes n ks t h =
    ap (λ b. elim b [ true ↦ stops n | false ↦ elim (nat_lt nesting_bound (line_depth t)) [ true ↦ too_deep n | false ↦ verdict_from (n + 1) t ks ] ]) h.goes
    ∙ ap (λ d. elim (nat_lt nesting_bound d) [ true ↦ too_deep n | false ↦ verdict_from (n + 1) t ks ]) h.flat

module _ (ks : List Kind) (at : ℕ) (s : State) where
  token-goes : (k : Kind) (t : State) → Here ks at k → line_step s k ≡ t → IsFlat t → line_at ks at s ≡ line_at ks (at + 1) t
  token-goes k t h e f = ap (verdict_from at s) h.1 ∙ ap (tested at (drop (at + 1) ks)) e ∙ tested-goes at (drop (at + 1) ks) t f

  -- no token of this sort stands there, where the line goes on
  none-stops : {A : Type 0} (f : Kind → Option A) → at < length ks → ((k : Kind) → f k ≡ None → line_step s k ≡ Stop) → at_front f (drop at ks) ≡ None → line_at ks at s ≡ stops at
  none-stops f w g h = by (drop at ks) refl h
    where
      none-left : (n : ℕ) (xs : List Kind) → drop n xs ≡ [] → length xs ≤ n
      none-left ℕ.zero [] e = omega arith
      none-left ℕ.zero (x ∷ xs) e = cc
      none-left (ℕ.suc n) [] e = omega arith
      none-left (ℕ.suc n) (x ∷ xs) e = omega (arith, none-left n xs e)

      by : (rest : List Kind) → drop at ks ≡ rest → at_front f rest ≡ None → verdict_from at s rest ≡ stops at
      by [] d j = absurd (omega (arith, w, none-left at ks d))
      by (k ∷ rest) d j = ap (tested at rest) (g k j)

-- 2. what is refused after a part

pub refused-on : (ks : List Kind) (a b : ℕ) (s t : State) (e : PartRefusal) → line_at ks a s ≡ line_at ks b t → IsRefused ks b t e → IsRefused ks a s e
refused-on ks a b s t (Token place) h i = h ∙ i
refused-on ks a b s t (Deep place) h i = h ∙ i
refused-on ks a b s t Memory h i = tt

-- 3. a level's number

some-left : (ks : List Kind) → 1 < length ks → drop 1 ks ≡ [] → ⊥
some-left [] h e = absurd (omega arith)
some-left (k ∷ []) h e = absurd (omega arith)
some-left (k ∷ j ∷ ks) h e = cc

pub level-due : (ks : List Kind) → 1 < length ks → LastNumberDue ks StringRead (λ n. print_string (Some n))
level-due ks h = record { step = λ k. refl; none = λ e. absurd (some-left ks h e) }

-- 4. names

sign-goes : (f : ModuleName → State) (s : Sign) (n : ModuleName) → name_of_sign s ≡ Some n → with_name f s ≡ f n
sign-goes f (a_name m) n h = let same : m ≡ n = cc in ap f same
sign-goes f s n h = cc

sign-stops : (f : ModuleName → State) (s : Sign) → name_of_sign s ≡ None → with_name f s ≡ Stop
sign-stops f (a_name m) h = cc
sign-stops f s h = refl

-- what the loop over names keeps
pub record NamesSoFar (ks : List Kind) (from at : ℕ) (xs : List (List ℕ)) : Type 0 where
  pub within : at ≤ length ks
  pub read : (g : Listed) → line_at ks from (InNames g []) ≡ line_at ks at (InNames g (reversed (map module_name xs)))

module _ (ks : List Kind) (from at : ℕ) (xs : List (List ℕ)) (so : NamesSoFar ks from at xs) where
  pub names-more : (x : List ℕ) → IsName ks at (Ok x) → NamesSoFar ks from (at + 1) (xs ++ x ∷ [])
  names-more x h = record {
    within = h.1.0;
    read = λ g. so.read g
        ∙ token-goes ks at (InNames g (reversed (map module_name xs))) h.0 (InNames g (module_name x ∷ reversed (map module_name xs))) h.1
        (sign-goes (λ n. InNames g (n ∷ reversed (map module_name xs))) (sign_of h.0) (module_name x) h.2) (record { goes = refl; flat = refl })
        ∙ ap (λ r. line_at ks (at + 1) (InNames g r)) (sym (mapped-push module_name xs x));
  }

  pub names-refused : at < length ks → (e : PartRefusal) → IsName ks at (Err e) → (g : Listed) → IsRefused ks from (InNames g []) e
  names-refused w (Token place) h g =
      so.read g ∙ none-stops ks at (InNames g (reversed (map module_name xs))) name_in w (λ k i. sign-stops (λ n. InNames g (n ∷ reversed (map module_name xs))) (sign_of k) i) h.1
      ∙ ap stops (sym h.0)
  names-refused w (Deep place) h g = elim h [ ]
  names-refused w Memory h g = elim h [ ]

  pub names-done : length ks ≤ at → (g : Listed) → line_at ks from (InNames g []) ≡ sentence (listing g (map module_name xs))
  names-done w g =
      so.read g ∙ ap (verdict_from at (InNames g (reversed (map module_name xs)))) (drop_all at ks w)
      ∙ ap (λ r. sentence (listing g r)) (reversed-twice (map module_name xs) ∙ nil-append (map module_name xs))

-- 5. the words of a schedule

not-word : (f : List ℕ → State) (k : Kind) → word_in k ≡ None → word_step f k ≡ Stop
not-word f (Word w) h = cc
not-word f k h = refl

pub record TablesSoFar (ks : List Kind) (at : ℕ) (ws : List (List ℕ)) : Type 0 where
  pub within : at ≤ length ks
  pub read : line_at ks 1 ScheduleDue ≡ line_at ks at (InSchedule (reversed ws))

module _ (ks : List Kind) (at : ℕ) (ws : List (List ℕ)) (so : TablesSoFar ks at ws) where
  pub tables-more : (w : List ℕ) → IsWord ks at (Ok w) → TablesSoFar ks (at + 1) (ws ++ w ∷ [])
  tables-more w h = record {
    within = h.0;
    read = so.read ∙ token-goes ks at (InSchedule (reversed ws)) (Word w) (InSchedule (w ∷ reversed ws)) h refl (record { goes = refl; flat = refl })
        ∙ ap (λ r. line_at ks (at + 1) (InSchedule r)) (sym (reversed-push ws w));
  }

  pub tables-refused : at < length ks → (e : PartRefusal) → IsWord ks at (Err e) → IsRefused ks 1 ScheduleDue e
  tables-refused w (Token place) h = so.read ∙ none-stops ks at (InSchedule (reversed ws)) word_in w (λ k i. not-word (λ v. InSchedule (v ∷ reversed ws)) k i) h.1 ∙ ap stops (sym h.0)
  tables-refused w (Deep place) h = elim h [ ]
  tables-refused w Memory h = elim h [ ]

  pub tables-done : length ks ≤ at → line_at ks 1 ScheduleDue ≡ sentence (set_schedule ws)
  tables-done w =
      so.read ∙ ap (verdict_from at (InSchedule (reversed ws))) (drop_all at ks w) ∙ ap (λ r. sentence (set_schedule r)) (reversed-twice ws ∙ nil-append ws)
