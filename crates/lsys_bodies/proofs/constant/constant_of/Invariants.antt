use Rattle.std.proofs.Common.{◌≡◌, drop}
use Rattle.lsys_bodies.specs.Constants.{constant_of}
use Rattle.lsys_bodies.proofs.Constants.{with_front}
use Rattle.lsys_bodies.proofs.constant.constant_of.Given as goal

abbrev pub invariant-loop-template : goal.invariant-loop-template
invariant-loop-template l = constant_of l.templates ≡ with_front l.symbols (constant_of (drop l.template-index l.templates))
