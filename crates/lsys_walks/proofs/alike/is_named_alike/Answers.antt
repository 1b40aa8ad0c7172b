use Rattle.std.proofs.Common.{rules, ◌≡◌, ◌↔◌, IsTrue, ap}
use Rattle.lsys_text.specs.Texts.{IsNameBytes}
use Rattle.lsys_module.specs.Views.{module_name}
use Rattle.lsys_walks.proofs.SameNames.{same_text}
use Rattle.lsys_walks.proofs.alike.is_named_alike.Goals as goal

pub returns : goal.returns
returns c =
    let same : IsTrue c.eq.result ↔ (c.args.one ≡ c.args.other) = search rules in
    let one : IsNameBytes c.args.one = search rules in
    let other : IsNameBytes c.args.other = search rules in
    (λ t. ap module_name (same.0 t), λ e. same.1 (same_text c.args.one c.args.other one other e))
