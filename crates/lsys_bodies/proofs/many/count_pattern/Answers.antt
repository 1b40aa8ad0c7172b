use Rattle.lsys_syntax.specs.Strings.{name_kind}
use Rattle.lsys_syntax.specs.Tokens.{LeftBracket, RightBracket}
use Rattle.lsys_module.specs.Views.{module_name}
use Rattle.lsys_bodies.proofs.many.count_pattern.Goals as goal

pub returns-in-Module : goal.returns-in-Module
returns-in-Module c = rw c.in-Module.is (rw c.deref.ensures.value at (c.count_module.ensures (name_kind (module_name c.in-Module.module.name))))

pub returns-in-Push : goal.returns-in-Push
returns-in-Push c = rw c.in-Push.is (c.symbol.ensures LeftBracket)

pub returns-in-Pop : goal.returns-in-Pop
returns-in-Pop c = rw c.in-Pop.is (c.symbol-in-Pop.ensures RightBracket)
