use Rattle.std.proofs.Common.{rules, ◌≡◌, slice_get, ap, sym, ◌∙◌}
use Rattle.std.specs.Prelude.{option_map}
use Rattle.std.proofs.lemmas.Option.{slice_get-map}
use Rattle.lsys_match.specs.Groups.{meant}
use Rattle.lsys_match.proofs.Groups.{meant_lent}
use Rattle.lsys_match.proofs.group.Group.get.Goals as goal

pub returns-clause-body : goal.returns-clause-body
returns-clause-body c =
    let kept : option_map (λ b. b.now) c.body_at.result ≡ slice_get c.args.self.now c.args.place = search rules in
    sym (slice_get-map meant c.args.self.now c.args.place ∙ ap (option_map meant) (sym kept) ∙ meant_lent c.body_at.result)
