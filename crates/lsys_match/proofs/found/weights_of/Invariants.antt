use Rattle.std.proofs.Common.{◌≡◌, map, take}
use Rattle.lsys_spec.specs.Choice.{weights}
use Rattle.lsys_match.specs.Choices.{applying_of}
use Rattle.lsys_match.proofs.found.weights_of.Given as goal

abbrev pub invariant-loop-rule : goal.invariant-loop-rule
invariant-loop-rule l = l.weights.items ≡ weights (map applying_of (take l.rule-index l.rules))
