-- What a session answers.
use Rattle.std.specs.Prelude.{◌≡◌, ℕ, Option, Result, IfOk, List, []}
use Rattle.lsys_io.specs.Writes.{WasPut}
use Rattle.lsys_io.specs.declared.Failed.{Failed}
use Rattle.lsys_rules.specs.declared.refusal.Refusal.{Refusal}
use Rattle.lsys_rules.specs.declared.refusal.Refusal.TheVariants as refusals
use Rattle.lsys_rewrite.specs.declared.refusal.DeriveRefusal.{DeriveRefusal}
use Rattle.lsys_rewrite.specs.declared.refusal.DeriveRefusal.TheVariants as derive
use Rattle.lsys_session.specs.declared.outcome.Outcome.{Outcome}
use Rattle.lsys_session.specs.declared.outcome.Outcome.TheVariants.{Refused, Memory}

-- a text was put and all that was held is written; or the sink failed, and a front of the text was
pub record WasSaid {K : Type 0} (written : K → Option (List ℕ)) (faults : K → ℕ) (sink_old sink_new : K) (held text : List ℕ) (became : Outcome) (result : Result Outcome Failed) : Type 0 where
  pub put : WasPut written faults sink_old sink_new [] held text result
  pub empty : held ≡ []
  pub outcome : IfOk result (λ o. o ≡ became)

abbrev pub refusal_outcome : Refusal → Outcome
refusal_outcome refusals.Memory = Memory
refusal_outcome r = Refused

abbrev pub derivation_outcome : DeriveRefusal → Outcome
derivation_outcome derive.Memory = Memory
derivation_outcome r = Refused
