use Rattle.std.proofs.Common.{◌≡◌, slice_get, Some, ap, sym, ◌∙◌}
use Rattle.std.specs.Prelude.{option_map}
use Rattle.std.proofs.lemmas.Option.{slice_get-map, slice_get-get_or}
use Rattle.lsys_match.proofs.group.body_at.Goals as goal

pub returns : goal.returns
returns c =
    let rs = c.args.rules.now in
    let rule = c.in_ok-rule.rule.now in
    let there : slice_get rs c.args.place ≡ Some rule = slice_get-get_or rs c.args.place rule c.in_ok-rule.ensures.lookup.3.0 ∙ ap (λ r. Some r) (sym c.in_ok-rule.ensures.lookup.1) in
    sym (slice_get-map (λ r. r.body) rs c.args.place ∙ ap (option_map (λ r. r.body)) there)
