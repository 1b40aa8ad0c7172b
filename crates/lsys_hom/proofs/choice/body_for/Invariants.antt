use Rattle.std.proofs.Common.{◌≡◌, map, drop}
use Rattle.lsys_spec.specs.Images.{image_of}
use Rattle.lsys_bodies.specs.Views.{homomorphism_of}
use Rattle.lsys_hom.specs.Parts.{module_with}
use Rattle.lsys_hom.proofs.choice.body_for.Given as goal

-- the rules before don't apply
abbrev pub invariant-loop-rule : goal.invariant-loop-rule
invariant-loop-rule l =
    let m = module_with l.name l.params in image_of (map homomorphism_of l.rules) m ≡ image_of (map homomorphism_of (drop l.rule-index l.rules)) m
