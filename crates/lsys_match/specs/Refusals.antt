-- The refusals of questions, as faults.
use Rattle.std.specs.Prelude.{Option, Some, None}
use Rattle.lsys_expr.specs.Answers.{arith_of}
use Rattle.lsys_rewrite.specs.Faults.{fault_of}
use Rattle.lsys_rewrite.specs.declared.refusal.FillRefusal.{FillRefusal}
use Rattle.lsys_rewrite.specs.declared.refusal.FillRefusal.TheVariants as fill
use Rattle.lsys_spec.specs.Choice as choice
use Rattle.lsys_match.specs.declared.refusal.AskRefusal.{AskRefusal}
use Rattle.lsys_match.specs.declared.refusal.AskRefusal.TheVariants as ask

-- the fault; none for lack of memory
abbrev pub refusal_by : AskRefusal → Option choice.Fault
refusal_by (ask.Fault k) = Some (fault_of k)
refusal_by ask.Memory = None

abbrev pub fill_refusal_by : FillRefusal → Option choice.Fault
fill_refusal_by (fill.Arith e) = Some (choice.Arithmetic (arith_of e))
fill_refusal_by fill.Memory = None
