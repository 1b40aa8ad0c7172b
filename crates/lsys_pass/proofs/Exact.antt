-- What is answered at a level of a pass, of which all was asked.
use Rattle.std.proofs.Common.{◌≡◌, ◌+◌, ℕ, List, Result, Ok, Err, sym, subst}
use Rattle.lsys_spec.specs.Systems.{System}
use Rattle.lsys_spec.specs.Levels.{LevelSymbol}
use Rattle.lsys_spec.specs.Meaning.{next_level, meaning_to}
use Rattle.lsys_rewrite.specs.declared.refusal.DeriveRefusal.{DeriveRefusal}
use Rattle.lsys_rewrite.specs.declared.refusal.DeriveRefusal.TheVariants.{Memory}
use Rattle.lsys_match.specs.Derivations.{IsLevelRefusal}
use Rattle.lsys_reads.specs.Meant.{level_to}
use Rattle.lsys_pass.specs.declared.state.PassState.TheVariants.{Level, Failed}
use Rattle.lsys_pass.specs.Stages.{IsAtLevel}
use Rattle.lsys_pass.specs.Passes.{PassView, stage_of, IsPass}
use Rattle.lsys_pass.specs.Moves.{SameRun}
use Rattle.lsys_pass.specs.Fresh.{WasAsked, WasJustMade}
use Rattle.lsys_pass.specs.Refusals.{RefusesAfter, IsFaultOn, IsLimitRefusal}
use Rattle.lsys_pass.proofs.Asking.{at}
use Rattle.lsys_pass.proofs.Limits.{there_asked}
use Rattle.lsys_pass.proofs.Telling.{TellsNext, next_exact, tells_fault, tells_limit, fault_why, limit_why}

module _ (v : PassView) (t : ℕ) (h : IsPass v) (state : v.state ≡ Level t) where
  a : IsAtLevel (stage_of v) t
  a = at v t h state

  -- 1. it has a fault

  pub fault_refuses : (x : DeriveRefusal) → IsFaultOn v.next v.limit t x → IsLevelRefusal v.next v.limit x
  fault_refuses = fault_why v.next v.limit t a.tree.spelled a.tree.is a.tree.below

  module _ (T : Type 0) where
    exact : (r : Result T DeriveRefusal) → TellsNext v.next v.limit t a.tree.spelled a.tree.is r → RefusesAfter v v.state r
    exact r x = subst (λ s. RefusesAfter v s r) (sym state) (next_exact v.next v.limit t a.tree.spelled a.tree.is T r x)

    pub fault_exact : (x : DeriveRefusal) → IsFaultOn v.next v.limit t x → RefusesAfter {T = T} v v.state (Err x)
    fault_exact x e = exact (Err x) (tells_fault v.next v.limit t a.tree.spelled a.tree.is T x e)

    -- 2. or the next one was made

    pub made_exact : (x : PassView) → SameRun v x → WasJustMade x (t + 1) → (y : T) → RefusesAfter v v.state (Ok y)
    made_exact x run m y = exact (Ok y) told
      where
        told : (xs : List (List LevelSymbol)) × (meaning_to v.next v.limit (t + 1) ≡ Ok xs)
        told = subst (λ n. (xs : List (List LevelSymbol)) × (meaning_to v.next n (t + 1) ≡ Ok xs)) run.limit (subst (λ (z : System). (xs : List (List LevelSymbol)) × (meaning_to z x.limit (t + 1) ≡ Ok xs)) run.next (_, m.made.spots.new_is))

  -- 3. or it has none, and the next one isn't made

  module _ (w : PassView) (same : w ≡ record v { state = Failed }) (asked : WasAsked w t) where
    there : (y : List LevelSymbol) × (next_level v.next t (level_to v.next v.limit t) ≡ Ok y)
    there = subst (λ (z : PassView). (y : List LevelSymbol) × (next_level z.next t (level_to z.next z.limit t) ≡ Ok y)) same (there_asked w t asked)

    -- as the view of it that was asked tells it
    limit_here : (x : DeriveRefusal) → IsLimitRefusal w.next w.limit (t + 1) x → IsLimitRefusal v.next v.limit (t + 1) x
    limit_here x e = subst (λ (z : PassView). IsLimitRefusal z.next z.limit (t + 1) x) same e

    pub limit_refuses : (x : DeriveRefusal) → IsLimitRefusal w.next w.limit (t + 1) x → IsLevelRefusal v.next v.limit x
    limit_refuses x e = limit_why v.next v.limit t a.tree.spelled a.tree.is a.tree.below x (limit_here x e)

    pub limit_exact : (T : Type 0) (x : DeriveRefusal) → IsLimitRefusal w.next w.limit (t + 1) x → RefusesAfter {T = T} v v.state (Err x)
    limit_exact T x e = exact T (Err x) (tells_limit v.next v.limit t a.tree.spelled a.tree.is T there.0 there.1 x (limit_here x e))

    pub memory_exact : (T : Type 0) → RefusesAfter {T = T} v v.state (Err Memory)
    memory_exact T = exact T (Err Memory) there
