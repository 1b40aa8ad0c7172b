-- The reply that tells a growth.
use Rattle.std.proofs.Common.{◌≡◌, ℕ, Option, Result, Ok, Err, List, false, true, sym, subst}
use Rattle.lsys_io.specs.declared.Failed.{Failed}
use Rattle.lsys_spec.specs.Systems.{System}
use Rattle.lsys_growth.specs.Growth.{Census, GrowthFault, growth_text}
use Rattle.lsys_growth.specs.Views.{IsGrowthAnswer}
use Rattle.lsys_growth.specs.declared.refusal.GrowthRefusal.{GrowthRefusal}
use Rattle.lsys_growth.specs.declared.refusal.GrowthRefusal.TheVariants.{Class, Letters, Overflow, Memory}
use Rattle.lsys_history.specs.Desks.{growth_reply}
use Rattle.lsys_session.specs.Given.{WasPrinted}
use Rattle.lsys_session.specs.Sessions.{WasSaid}
use Rattle.lsys_session.specs.declared.outcome.Outcome.{Outcome}
use Rattle.lsys_session.specs.declared.outcome.Outcome.TheVariants.{Printed}
use Rattle.lsys_cli.specs.Growing.{growth_line, growth_outcome}

module _ {K : Type 0} (written : K → Option (List ℕ)) (faults : K → ℕ) (a b : K) (held : List ℕ) (s : System) (g : Result Census GrowthFault) where
  so : (h : Result Census GrowthFault) (result : Result Outcome Failed) → g ≡ h → WasPrinted written faults a b held s (growth_reply s h) result → WasPrinted written faults a b held s (growth_reply s g) result
  so h result e p = subst (λ k. WasPrinted written faults a b held s (growth_reply s k) result) (sym e) p

  pub growth_printed : (c : Census) (result : Result Outcome Failed) → g ≡ Ok c → WasSaid written faults a b held (growth_text c) Printed result → WasPrinted written faults a b held s (growth_reply s g) result
  growth_printed c result e says = so (Ok c) result e (record { lacks = false; says = says })

  pub growth_refused : (r : GrowthRefusal) (result : Result Outcome Failed) → IsGrowthAnswer (Err r) g → WasSaid written faults a b held (growth_line r) (growth_outcome r) result
      → WasPrinted written faults a b held s (growth_reply s g) result
  growth_refused Class result e says = so _ result e (record { lacks = false; says = says })
  growth_refused Letters result e says = so _ result e (record { lacks = false; says = says })
  growth_refused Overflow result e says = so _ result e (record { lacks = false; says = says })
  growth_refused Memory result e says = record { lacks = true; says = says }
