use Rattle.std.proofs.Common.{◌≡◌, map, drop}
use Rattle.lsys_spec.specs.Meaning.{filled}
use Rattle.lsys_bodies.specs.Views.{template_of}
use Rattle.lsys_hom.specs.Parts.{fault_alone}
use Rattle.lsys_hom.proofs.part.check_templates.Given as goal

-- the templates before have no fault
abbrev pub invariant-loop-template : goal.invariant-loop-template
invariant-loop-template l = fault_alone (filled (map template_of l.templates) l.params) ≡ fault_alone (filled (map template_of (drop l.template-index l.templates)) l.params)
