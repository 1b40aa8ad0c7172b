use Rattle.lsys_syntax.specs.Strings.{name_kind}
use Rattle.lsys_syntax.specs.Tokens.{LeftBracket, RightBracket, Percent}
use Rattle.lsys_module.specs.Views.{module_name}
use Rattle.lsys_bodies.proofs.many.count_image.Goals as goal

pub returns-in-Module : goal.returns-in-Module
returns-in-Module c ks h =
    let spans = rw c.in-Module.is at h in
    rw c.in-Module.is ((rw c.deref.ensures.value at (c.count_image_module.ensures (name_kind (module_name c.in-Module.module.name)) ks)) spans)

pub returns-in-Push : goal.returns-in-Push
returns-in-Push c ks h = rw c.in-Push.is (c.symbol.ensures LeftBracket)

pub returns-in-Pop : goal.returns-in-Pop
returns-in-Pop c ks h = rw c.in-Pop.is (c.symbol-in-Pop.ensures RightBracket)

pub returns-in-Cut : goal.returns-in-Cut
returns-in-Cut c ks h = rw c.in-Cut.is (c.symbol-in-Cut.ensures Percent)
