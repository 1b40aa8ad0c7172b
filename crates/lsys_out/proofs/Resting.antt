-- The rest of a text that is still to be put.
use Rattle.std.proofs.Common.{◌≡◌, ℕ, Option, Result, Ok, Err, List, [], ◌++◌, subst, sym}
use Rattle.std.specs.Result.{IsErr}
use Rattle.lsys_io.specs.declared.Failed.{Failed}
use Rattle.lsys_io.specs.Writes.{WasPut}
use Rattle.lsys_io.proofs.Puts.{puts_failed, puts_nothing, puts_then}

-- what puts the rest from here on puts the whole text from the beginning
pub record Rests {K : Type 0} (written : K → Option (List ℕ)) (faults : K → ℕ) (sink_old sink : K) (held_old held whole rest : List ℕ) : Type 0 where
  pub put : (sink_new : K) (held_new : List ℕ) (result : Result (Unit {0}) Failed)
      → WasPut written faults sink sink_new held held_new rest result → WasPut written faults sink_old sink_new held_old held_new whole result

module _ {K : Type 0} {written : K → Option (List ℕ)} {faults : K → ℕ} {sink_old : K} {held_old whole : List ℕ} where
  pub rests_all : Rests written faults sink_old sink_old held_old held_old whole whole
  rests_all = record { put = λ s h r p. p }

  -- the whole text in other words
  pub rests_whole : {rest : List ℕ} → whole ≡ rest → Rests written faults sink_old sink_old held_old held_old whole rest
  rests_whole e = record { put = λ s h r p. subst (λ t. WasPut written faults sink_old s held_old h t r) (sym e) p }

  -- the rest in other words
  pub rests_same : {sink : K} {held rest other : List ℕ} → rest ≡ other → Rests written faults sink_old sink held_old held whole rest → Rests written faults sink_old sink held_old held whole other
  rests_same {sink = sink} {held = held} e r = record { put = λ s h q p. r.put s h q (subst (λ t. WasPut written faults sink s held h t q) (sym e) p) }

  -- a text was put, which stands before the rest
  pub rests_then : {A : Type 0} {sink sink_mid : K} {held held_mid text rest : List ℕ} {answer : A} → Rests written faults sink_old sink held_old held whole (text ++ rest)
      → WasPut written faults sink sink_mid held held_mid text (Ok answer) → Rests written faults sink_old sink_mid held_old held_mid whole rest
  rests_then r p = record { put = λ s h q n. r.put s h q (puts_then p n) }

  -- the sink failed there
  pub rests_failed : {A : Type 0} {sink sink_new : K} {held held_new text : List ℕ} (rest : List ℕ) {failed : Failed} {result : Result (Unit {0}) Failed} → IsErr result
      → Rests written faults sink_old sink held_old held whole (text ++ rest) → WasPut {A = A} written faults sink sink_new held held_new text (Err failed)
      → WasPut written faults sink_old sink_new held_old held_new whole result
  rests_failed rest is r p = r.put _ _ _ (puts_failed rest is p)

  pub rests_none : {sink : K} {held : List ℕ} → Rests written faults sink_old sink held_old held whole [] → WasPut {A = Unit {0}} written faults sink_old sink held_old held whole (Ok tt)
  rests_none r = r.put _ _ _ puts_nothing
