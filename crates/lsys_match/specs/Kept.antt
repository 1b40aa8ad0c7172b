-- An answer as it is kept.
use Rattle.std.specs.Prelude.{ℕ, List, Option}
use Rattle.lsys_module.specs.declared.symbol.Symbol.{Symbol}
use Rattle.lsys_bodies.specs.declared.body.Body.{Body}

-- The module by its tag, its name and the number of its parameters; the bodies of its group; its key, where the group has weights; the place of the chosen rule; the successor; and the runs of a store in which the trace's entries stand, and the parameters: the module's own, and then those of the trace.
pub record Kept : Type 0 where
  pub tag : ℕ
  pub name : List ℕ
  pub arity : ℕ
  pub bodies : List Body
  pub key : Option ℕ
  pub chosen : Option ℕ
  pub successor : List Symbol
  pub entries : Option ℕ
  pub values : Option ℕ
