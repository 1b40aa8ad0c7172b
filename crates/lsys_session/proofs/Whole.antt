-- A text is put, and then all that is held is written.
use Rattle.std.proofs.Common.{◌≡◌, ℕ, Option, Result, Ok, Err, List, [], append-nil, subst, sym, true≢false}
use Rattle.std.specs.Prelude.{◌≢◌, IfOk, IsErr}
use Rattle.lsys_io.specs.Writes.{WasPut}
use Rattle.lsys_io.proofs.Puts.{puts_then, puts_refused, puts_answering}
use Rattle.lsys_io.specs.declared.Failed.{Failed}
use Rattle.lsys_session.specs.Sessions.{WasSaid}
use Rattle.lsys_session.specs.declared.outcome.Outcome.{Outcome}
use Rattle.lsys_session.specs.declared.outcome.Outcome.TheVariants as outcomes

pub puts_out : {K A B : Type 0} {written : K → Option (List ℕ)} {faults : K → ℕ} {sink_old sink_mid sink_new : K} {held_mid held_new text : List ℕ} {answer : A} {result : Result B Failed}
    → WasPut written faults sink_old sink_mid [] held_mid text (Ok answer) → WasPut written faults sink_mid sink_new held_mid held_new [] result → WasPut written faults sink_old sink_new [] held_new text result
puts_out {written = written} {faults = faults} {sink_old = s} {sink_new = t} {held_new = held} {text = text} {result = result} p q =
    subst (λ bytes. WasPut written faults s t [] held bytes result) (append-nil text) (puts_then p q)

if_failed : {T E : Type 0} (P : T → Type 0) (r : Result T E) → IsErr r → IfOk r P
if_failed P (Ok x) h = absurd (true≢false (sym h))
if_failed P (Err e) h = tt

pub says_out : {K A B : Type 0} {written : K → Option (List ℕ)} {faults : K → ℕ} {sink_old sink_mid sink_new : K} {held_mid held_new text : List ℕ} {answer : A} {other : B} {o outcome : Outcome}
    → WasPut written faults sink_old sink_mid [] held_mid text (Ok answer) → WasPut written faults sink_mid sink_new held_mid held_new [] (Ok other) → held_new ≡ [] → o ≡ outcome
    → WasSaid written faults sink_old sink_new held_new text outcome (Ok o)
says_out p q empty is = record { put = puts_answering (puts_out p q); empty = empty; outcome = is }

pub says_failed : {K A : Type 0} {written : K → Option (List ℕ)} {faults : K → ℕ} {sink_old sink_new : K} {held text : List ℕ} {failed : Failed} {outcome : Outcome} {result : Result Outcome Failed}
    → IsErr result → WasPut {A = A} written faults sink_old sink_new [] held text (Err failed) → held ≡ [] → WasSaid written faults sink_old sink_new held text outcome result
says_failed {outcome = outcome} {result = result} is p empty = record { put = puts_refused is p; empty = empty; outcome = if_failed (λ o. o ≡ outcome) result is }

-- it was accepted, or nothing changed
pub was_accepted : (P : Type 0) (result : Result Outcome Failed) → IfOk result (λ o. o ≡ outcomes.Accepted) → IfOk result (λ o. o ≢ outcomes.Accepted → P)
was_accepted P (Ok o) e = λ n. absurd (n e)
was_accepted P (Err f) e = tt

pub unchanged : {P : Type 0} (result : Result Outcome Failed) → P → IfOk result (λ o. o ≢ outcomes.Accepted → P)
unchanged (Ok o) p = λ n. p
unchanged (Err f) p = tt
