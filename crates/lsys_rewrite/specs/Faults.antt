-- The faults that the code answers, as those of the definitions.
use Rattle.lsys_spec.specs.Values as meaning
use Rattle.lsys_spec.specs.Choice as choice
use Rattle.lsys_spec.specs.Choice.{Fault, Arithmetic}
use Rattle.lsys_rewrite.specs.declared.refusal.FaultKind.{FaultKind}
use Rattle.lsys_rewrite.specs.declared.refusal.FaultKind.TheVariants.{Overflow, DivideByZero, NegativePower, NegativeWeight, WeightTotal, TooFar}

-- the fault that the code's fault stands for
abbrev pub fault_of : FaultKind → Fault
fault_of Overflow = Arithmetic meaning.Overflow
fault_of DivideByZero = Arithmetic meaning.DivideByZero
fault_of NegativePower = Arithmetic meaning.NegativePower
fault_of NegativeWeight = choice.NegativeWeight
fault_of WeightTotal = choice.WeightTotal
fault_of TooFar = choice.TooFar
