use Rattle.std.proofs.Common.{rules, ◌≡◌, ◌==◌, length, Some, ap, sym, ◌∙◌}
use Rattle.lsys_walks.specs.Views.{decoded}
use Rattle.lsys_match.specs.Telling.{old_trace}
use Rattle.lsys_match.proofs.Plain.{unread_trace}
use Rattle.lsys_match.proofs.told.is_unread.Goals as goal

pub returns-in-Some : goal.returns-in-Some
returns-in-Some c =
    let none : c.is_empty.result ≡ (length c.in-Some.kept.entries.now == 0) = search rules in
    let e : old_trace c.args.old ≡ Some (decoded c.in-Some.kept.entries.now c.in-Some.kept.values.now) = ap old_trace c.in-Some.is in
    let u = unread_trace c.in-Some.kept.entries.now c.in-Some.kept.values.now c.is_empty.result none in
    (λ t. e ∙ u.0 t, λ h. u.1 (sym e ∙ h))
