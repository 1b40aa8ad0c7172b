use Rattle.std.proofs.Common.{ap, ◌∙◌}
use Rattle.lsys_spec.specs.Systems.{System}
use Rattle.lsys_tests_derivations.proofs.Resting.{last_level}
use Rattle.lsys_tests_derivations.proofs.scripts.last_string.Goals as goal

pub copy_level-requires : goal.copy_level-requires
copy_level-requires g c =
    last_level _ _ _ c.forest.ensures.pass c.requires.rest c.forest.ensures.forest
    (c.depth.ensures.depth ∙ ap (λ (s : System). s.depth) c.system.ensures.system) c.depth.type_inv
