-- What the code answers, as the definitions say it.
use Rattle.std.specs.Prelude.{Result, Ok, Err}
use Rattle.lsys_spec.specs.Values as meaning
use Rattle.lsys_expr.specs.declared.arith.Arith.{Arith}
use Rattle.lsys_expr.specs.declared.arith.Arith.TheVariants.{Overflow, DivideByZero, NegativePower}

-- the fault that the code's fault stands for
abbrev pub arith_of : Arith → meaning.Arith
arith_of Overflow = meaning.Overflow
arith_of DivideByZero = meaning.DivideByZero
arith_of NegativePower = meaning.NegativePower

-- an answer, its fault as that of the definitions
abbrev pub as_meant : {A : Type 0} → Result A Arith → Result A meaning.Arith
as_meant (Ok x) = Ok x
as_meant (Err e) = Err (arith_of e)
