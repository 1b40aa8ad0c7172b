use Rattle.std.proofs.Common.{rules, ◌≡◌, Some, slice_get, ap, sym, ◌∙◌}
use Rattle.std.specs.Prelude.{option_map}
use Rattle.std.proofs.lemmas.Option.{slice_get-map, slice_get-get_or}
use Rattle.lsys_spec.specs.Draws.{draw_of, pick_of}
use Rattle.lsys_spec.specs.Choice.{applying_at, weights, Chosen}
use Rattle.lsys_match.specs.Choices.{applying_of}
use Rattle.lsys_match.proofs.Choosing.{at_option, picked_at}
use Rattle.lsys_match.proofs.found.ApplyingRules.pick.Goals as goal

pub returns : goal.returns
returns c =
    let h : pick_of (draw_of c.args.key) (weights c.args.self.now) ≡ Some c.in-Some.at = search rules in
    let l : slice_get c.self.inside.rules.items c.in-Some.at ≡ Some c.in-Some-get.rule.now =
    ap (λ xs. slice_get xs c.in-Some.at) (sym c.deref-3.ensures.value) ∙ slice_get-get_or c.deref-3.result.now c.in-Some.at c.in-Some-get.rule.now c.in-Some-get.ensures.lookup.3.0 ∙ ap (λ r. Some r) (sym c.in-Some-get.ensures.lookup.1) in
    let m : slice_get c.args.self.now c.in-Some.at ≡ Some (applying_of c.in-Some-get.rule.now) =
    ap (λ xs. slice_get xs c.in-Some.at) (sym c.self.view_is) ∙ slice_get-map applying_of c.self.inside.rules.items c.in-Some.at ∙ ap (option_map applying_of) l in
    let v : c.extend_from_slice.new.self.items ≡ c.in-Some-get.rule.now.values.items = search rules in
    ap (Chosen c.in-Some-get.rule.now.place) v ∙ sym (ap (λ o. applying_at o c.args.self.now) h ∙ picked_at c.in-Some.at c.args.self.now ∙ ap at_option m)
