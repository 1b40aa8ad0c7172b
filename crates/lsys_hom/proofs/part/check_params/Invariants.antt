use Rattle.std.proofs.Common.{◌≡◌, map, drop}
use Rattle.lsys_spec.specs.Meaning.{filled_params}
use Rattle.lsys_bodies.specs.Views.{tree_in}
use Rattle.lsys_hom.specs.Parts.{fault_alone}
use Rattle.lsys_hom.proofs.part.check_params.Given as goal

-- the parameters before have no fault
abbrev pub invariant-loop-expr : goal.invariant-loop-expr
invariant-loop-expr l = fault_alone (filled_params (map tree_in l.exprs) l.params) ≡ fault_alone (filled_params (map tree_in (drop l.expr-index l.exprs)) l.params)
