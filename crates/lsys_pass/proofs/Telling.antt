-- What is answered where a level has no next one, or a system no first one.
use Rattle.std.proofs.Common.{◌≡◌, ◌+◌, ◌<◌, ◌≤◌, ℕ, suc, List, length, Result, Ok, Err, refl, sym, ap, ◌∙◌, subst, arith}
use Rattle.std.specs.Prelude.{IfErr, OnOk}
use Rattle.lsys_spec.specs.Systems.{System, WellSpelled}
use Rattle.lsys_spec.specs.Levels.{LevelSymbol}
use Rattle.lsys_spec.specs.Values as values
use Rattle.lsys_spec.specs.Values.{◌and_then◌}
use Rattle.lsys_spec.specs.Choice as choice
use Rattle.lsys_spec.specs.Choice.{Arithmetic}
use Rattle.lsys_spec.specs.Meaning.{LevelRefusal, FaultAt, OverLimit, first_level, next_level, meaning_to}
use Rattle.lsys_laws.proofs.UpTo.{level_count}
use Rattle.lsys_rewrite.specs.Faults.{fault_of}
use Rattle.lsys_rewrite.specs.declared.refusal.FaultKind.{FaultKind}
use Rattle.lsys_rewrite.specs.declared.refusal.FaultKind.TheVariants.{Overflow, DivideByZero, NegativePower, NegativeWeight, WeightTotal, TooFar}
use Rattle.lsys_rewrite.specs.declared.refusal.DeriveRefusal.{DeriveRefusal}
use Rattle.lsys_rewrite.specs.declared.refusal.DeriveRefusal.TheVariants.{Fault, Limit, Memory}
use Rattle.lsys_match.specs.Derivations.{IsLevelRefusal}
use Rattle.lsys_reads.specs.Meant.{meant_to, level_to}
use Rattle.lsys_children.proofs.Nexts.{last_there}
use Rattle.lsys_children.proofs.Refused.{stays, step_to, over_first}
use Rattle.lsys_pass.specs.Refusals.{RefusesFirst, RefusesNext, IsFirstRefusal, IsFaultOn, IsLimitRefusal}

-- 1. a fault tells its kind

abbrev kind_of : choice.Fault → FaultKind
kind_of (Arithmetic values.Overflow) = Overflow
kind_of (Arithmetic values.DivideByZero) = DivideByZero
kind_of (Arithmetic values.NegativePower) = NegativePower
kind_of choice.NegativeWeight = NegativeWeight
kind_of choice.WeightTotal = WeightTotal
kind_of choice.TooFar = TooFar

kind_is : (k : FaultKind) → kind_of (fault_of k) ≡ k
kind_is Overflow = refl
kind_is DivideByZero = refl
kind_is NegativePower = refl
kind_is NegativeWeight = refl
kind_is WeightTotal = refl
kind_is TooFar = refl

-- and a result its value, or its error

not_both : {A E : Type 0} (r : Result A E) (a : A) (e : E) → r ≡ Ok a → r ≡ Err e → ⊥
not_both r a e h k = let both = sym h ∙ k in cc

same_errors : {A E : Type 0} (r : Result A E) (d e : E) → r ≡ Err d → r ≡ Err e → d ≡ e
same_errors r d e h k = let both = sym h ∙ k in cc

same_faults : (f g : choice.Fault) (v u m n : ℕ) → FaultAt f v m ≡ FaultAt g u n → (f ≡ g) × (v ≡ u) × (m ≡ n)
same_faults f g v u m n e = (cc, cc, cc)

same_levels : (v u : ℕ) → OverLimit v ≡ OverLimit u → v ≡ u
same_levels v u e = cc

not_over : (f : choice.Fault) (v m u : ℕ) → FaultAt f v m ≡ OverLimit u → ⊥
not_over f v m u e = cc

-- 2. the first level

pub first_why : (s : System) (limit : ℕ) (x : DeriveRefusal) → IsFirstRefusal s limit x → IsLevelRefusal s limit x
first_why s limit (Fault kind u n) h = absurd h
first_why s limit (Limit u) h = over_first s limit h.1 ∙ ap (λ t. Err (OverLimit t)) (sym h.0)
first_why s limit Memory h = tt

pub first_whys : {T : Type 0} (s : System) (limit : ℕ) (r : Result T DeriveRefusal) → IfErr r (IsFirstRefusal s limit) → IfErr r (IsLevelRefusal s limit)
first_whys s limit (Ok a) h = tt
first_whys s limit (Err x) h = first_why s limit x h

pub first_exact : {T : Type 0} (s : System) (limit : ℕ) (r : Result T DeriveRefusal) → OnOk r (length (first_level s) ≤ limit) → IfErr r (IsFirstRefusal s limit) → RefusesFirst s limit r
first_exact {T} s limit r within h = record {
  limit_is = λ u some. (λ e. subst (λ (r : Result T DeriveRefusal). IfErr r (IsFirstRefusal s limit)) e h, λ l. over r within h some u l.0 l.1);
  no_fault = λ kind u n e. subst (λ (r : Result T DeriveRefusal). IfErr r (IsFirstRefusal s limit)) e h;
}
  where
    over : (r : Result T DeriveRefusal) → OnOk r (length (first_level s) ≤ limit) → IfErr r (IsFirstRefusal s limit) → (r ≡ Err Memory → ⊥) → (u : ℕ) → u ≡ 0 → limit < length (first_level s) → r ≡ Err (Limit u)
    over (Ok a) within h some u e l = absurd (omega (arith, within, l))
    over (Err (Fault kind v n)) within h some u e l = absurd h
    over (Err (Limit v)) within h some u e l = ap (λ t. Err (Limit t)) (h.0 ∙ sym e)
    over (Err Memory) within h some u e l = absurd (some refl)

-- 3. the next level

module _ (s : System) (limit t : ℕ) (spelled : WellSpelled s) (is : meaning_to s limit t ≡ Ok (meant_to s limit t)) where
  abbrev next : Result (List LevelSymbol) LevelRefusal
  next = next_level s t (level_to s limit t)

  abbrev told : Result (List (List LevelSymbol)) LevelRefusal
  told = meaning_to s limit (t + 1)

  -- what is answered
  abbrev pub TellsNext : {T : Type 0} → Result T DeriveRefusal → Type 0
  TellsNext (Ok a) = (xs : List (List LevelSymbol)) × (meaning_to s limit (t + 1) ≡ Ok xs)
  TellsNext (Err (Fault kind u n)) = next_level s t (level_to s limit t) ≡ Err (FaultAt (fault_of kind) u n)
  TellsNext (Err (Limit u)) = meaning_to s limit (t + 1) ≡ Err (OverLimit u)
  TellsNext (Err Memory) = (y : List LevelSymbol) × (next_level s t (level_to s limit t) ≡ Ok y)

  -- a fault of the level is one of the step after it
  pub faulty : (e : LevelRefusal) → next_level s t (level_to s limit t) ≡ Err e → meaning_to s limit (t + 1) ≡ Err e
  faulty e h =
      let last = last_there (meant_to s limit t) t (level_count s limit t (meant_to s limit t) spelled is) in
      let here : suc t ≡ t + 1 = omega arith in
      subst (λ n. meaning_to s limit n ≡ Err e) here (step_to s limit t (meant_to s limit t) (Err e) is (ap (next_level s t) last ∙ h))

  module _ (T : Type 0) where
    is_fault : (r : Result T DeriveRefusal) → TellsNext r → (kind : FaultKind) (u n : ℕ) → next ≡ Err (FaultAt (fault_of kind) u n) → r ≡ Err (Fault kind u n)
    is_fault (Ok a) h kind u n e = absurd (not_both told h.0 (FaultAt (fault_of kind) u n) h.1 (faulty (FaultAt (fault_of kind) u n) e))
    is_fault (Err (Fault other v m)) h kind u n e =
        let same = same_faults (fault_of other) (fault_of kind) v u m n (same_errors next (FaultAt (fault_of other) v m) (FaultAt (fault_of kind) u n) h e) in
        let kinds : other ≡ kind = sym (kind_is other) ∙ ap kind_of same.0 ∙ kind_is kind in
        λ i. Err (Fault (kinds i) (same.1 i) (same.2 i))
    is_fault (Err (Limit v)) h kind u n e = absurd (not_over (fault_of kind) u n v (same_errors told (FaultAt (fault_of kind) u n) (OverLimit v) (faulty (FaultAt (fault_of kind) u n) e) h))
    is_fault (Err Memory) h kind u n e = absurd (not_both next h.0 (FaultAt (fault_of kind) u n) h.1 e)

    is_over : (r : Result T DeriveRefusal) → TellsNext r → (u : ℕ) → (r ≡ Err Memory → ⊥) → told ≡ Err (OverLimit u) → r ≡ Err (Limit u)
    is_over (Ok a) h u some e = absurd (not_both told h.0 (OverLimit u) h.1 e)
    is_over (Err (Fault kind v m)) h u some e = absurd (not_over (fault_of kind) v m u (same_errors told (FaultAt (fault_of kind) v m) (OverLimit u) (faulty (FaultAt (fault_of kind) v m) h) e))
    is_over (Err (Limit v)) h u some e = ap (λ n. Err (Limit n)) (same_levels v u (same_errors told (OverLimit v) (OverLimit u) h e))
    is_over (Err Memory) h u some e = absurd (some refl)

    pub next_exact : (r : Result T DeriveRefusal) → TellsNext r → RefusesNext s limit t r
    next_exact r h = record {
      fault_is = λ kind u n. (λ e. subst (λ (r : Result T DeriveRefusal). TellsNext r) e h, is_fault r h kind u n);
      limit_is = λ u some. (λ e. subst (λ (r : Result T DeriveRefusal). TellsNext r) e h, is_over r h u some);
    }

    -- 4. each of the refusals

    pub tells_fault : (x : DeriveRefusal) → IsFaultOn s limit t x → TellsNext {T = T} (Err x)
    tells_fault (Fault kind u n) h = h
    tells_fault (Limit u) h = absurd h
    tells_fault Memory h = absurd h

    pub tells_limit : (y : List LevelSymbol) → next ≡ Ok y → (x : DeriveRefusal) → IsLimitRefusal s limit (t + 1) x → TellsNext {T = T} (Err x)
    tells_limit y e (Fault kind u n) h = absurd h
    tells_limit y e (Limit u) h = h
    tells_limit y e Memory h = (y, e)

  module _ (below : t < s.depth) where
    pub fault_why : (x : DeriveRefusal) → IsFaultOn s limit t x → IsLevelRefusal s limit x
    fault_why (Fault kind u n) h = stays s limit (t + 1) s.depth (FaultAt (fault_of kind) u n) (omega (arith, below)) (faulty (FaultAt (fault_of kind) u n) h)
    fault_why (Limit u) h = absurd h
    fault_why Memory h = absurd h

    pub limit_why : (x : DeriveRefusal) → IsLimitRefusal s limit (t + 1) x → IsLevelRefusal s limit x
    limit_why (Fault kind u n) h = absurd h
    limit_why (Limit u) h = stays s limit (t + 1) s.depth (OverLimit u) (omega (arith, below)) h
    limit_why Memory h = tt
