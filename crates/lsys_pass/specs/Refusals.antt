-- Why a level isn't made.
use Rattle.std.specs.Prelude.{◌≡◌, ◌↔◌, ◌<◌, ◌+◌, ℕ, Result, Err, length}
use Rattle.lsys_spec.specs.Systems.{System}
use Rattle.lsys_spec.specs.Meaning.{FaultAt, OverLimit, first_level, next_level, meaning_to}
use Rattle.lsys_rewrite.specs.Faults.{fault_of}
use Rattle.lsys_rewrite.specs.declared.refusal.FaultKind.{FaultKind}
use Rattle.lsys_rewrite.specs.declared.refusal.DeriveRefusal.{DeriveRefusal}
use Rattle.lsys_rewrite.specs.declared.refusal.DeriveRefusal.TheVariants.{Fault, Limit, Memory}
use Rattle.lsys_reads.specs.Meant.{level_to}
use Rattle.lsys_pass.specs.declared.state.PassState.{PassState}
use Rattle.lsys_pass.specs.declared.state.PassState.TheVariants.{Rest, Level, Done, Failed}
use Rattle.lsys_pass.specs.Passes.{PassView}

-- 1. what is answered

-- Where the first level of a system is to be made, the limit is answered exactly where this level is longer, but for want of
-- memory; and a fault never.
pub record RefusesFirst {T : Type 0} (s : System) (limit : ℕ) (r : Result T DeriveRefusal) : Type 0 where
  pub limit_is : (u : ℕ) → (r ≡ Err Memory → ⊥)
      → (r ≡ Err (Limit u)) ↔ ((u ≡ 0) × (limit < length (first_level s)))
  pub no_fault : (kind : FaultKind) (u n : ℕ) → r ≡ Err (Fault kind u n) → ⊥

-- Where the level after level t is to be made, a fault is answered exactly where a module of level t has one: the leftmost, with
-- the number of its module. And the limit exactly where none has, and with the next level they are longer, but for want of
-- memory.
pub record RefusesNext {T : Type 0} (s : System) (limit t : ℕ) (r : Result T DeriveRefusal) : Type 0 where
  pub fault_is : (kind : FaultKind) (u n : ℕ)
      → (r ≡ Err (Fault kind u n)) ↔ (next_level s t (level_to s limit t) ≡ Err (FaultAt (fault_of kind) u n))
  pub limit_is : (u : ℕ) → (r ≡ Err Memory → ⊥)
      → (r ≡ Err (Limit u)) ↔ (meaning_to s limit (t + 1) ≡ Err (OverLimit u))

-- so it is at the level at which a pass stands
abbrev pub RefusesAfter : {T : Type 0} → PassView → PassState → Result T DeriveRefusal → Type 0
RefusesAfter v (Level t) r = RefusesNext v.next v.limit t r
RefusesAfter v Rest r = Unit {0}
RefusesAfter v Done r = Unit {0}
RefusesAfter v Failed r = Unit {0}

-- 2. one refusal

-- the first level is longer than the limit, or memory is wanting
abbrev pub IsFirstRefusal : System → ℕ → DeriveRefusal → Type 0
IsFirstRefusal s limit (Fault kind u n) = ⊥
IsFirstRefusal s limit (Limit u) = (u ≡ 0) × (limit < length (first_level s))
IsFirstRefusal s limit Memory = Unit {0}

-- level t has this fault, the leftmost
abbrev pub IsFaultOn : System → ℕ → ℕ → DeriveRefusal → Type 0
IsFaultOn s limit t (Fault kind u n) =
    next_level s t (level_to s limit t) ≡ Err (FaultAt (fault_of kind) u n)
IsFaultOn s limit t (Limit u) = ⊥
IsFaultOn s limit t Memory = ⊥

-- with level t they are longer than the limit, or memory is wanting
abbrev pub IsLimitRefusal : System → ℕ → ℕ → DeriveRefusal → Type 0
IsLimitRefusal s limit t (Fault kind u n) = ⊥
IsLimitRefusal s limit t (Limit u) = meaning_to s limit t ≡ Err (OverLimit u)
IsLimitRefusal s limit t Memory = Unit {0}
