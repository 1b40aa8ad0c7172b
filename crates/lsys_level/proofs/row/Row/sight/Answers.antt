use Rattle.std.proofs.Common.{◌≤◌, ◌+◌, ℤ, List, length, take, drop, Some, ap, sym, ◌∙◌, subst}
use Rattle.std.specs.Prelude.{option_map}
use Rattle.lsys_module.specs.Views.{module_name}
use Rattle.lsys_level.specs.Spots.{Module, Spotted}
use Rattle.lsys_level.specs.Places.{seen_by_kind, HasParamsWithin}
use Rattle.lsys_level.proofs.Rows.{place_read, spotted_read, fits_at, few_taken}
use Rattle.lsys_level.proofs.row.Row.sight.Goals as goal

pub part-requires : goal.part-requires
part-requires c =
    let kept = c.index-kept.result.now in
    let at = place_read c.args.self.now c.self.inside.values.items c.self.inside.places.items c.args.place kept c.self.view_is c.requires c.index-kept.ensures in
    let fits = fits_at c.self.inside.values.items c.self.inside.places.items c.args.place kept c.self.invariant.fit at in
    let within : kept.link + kept.arity ≤ length c.self.inside.values.items = subst (λ k. HasParamsWithin k (kept.link + kept.arity) (length c.self.inside.values.items)) c.in-Module.is fits.within in
    subst (λ (xs : List ℤ). kept.link + kept.arity ≤ length xs) (sym c.as_slice.ensures.value) within

pub returns-in-Module-clause-few : goal.returns-in-Module-clause-few
returns-in-Module-clause-few c =
    let kept = c.index-kept.result.now in
    let at = place_read c.args.self.now c.self.inside.values.items c.self.inside.places.items c.args.place kept c.self.view_is c.requires c.index-kept.ensures in
    let fits = fits_at c.self.inside.values.items c.self.inside.places.items c.args.place kept c.self.invariant.fit at in
    few_taken kept.arity c.part.result.now (drop kept.link c.as_slice.result.now) c.part.ensures fits.few

pub returns-in-Push-clause-seen : goal.returns-in-Push-clause-seen
returns-in-Push-clause-seen c =
    let kept = c.index-kept.result.now in
    ap (option_map (λ (s : Spotted). s.seen)) (spotted_read c.args.self.now c.self.inside.values.items c.self.inside.places.items c.args.place kept c.self.view_is c.requires c.index-kept.ensures)
    ∙ ap (λ k. Some (seen_by_kind k kept.name (take kept.arity (drop kept.link c.self.inside.values.items)))) c.in-Push.is

pub returns-in-Pop-clause-seen : goal.returns-in-Pop-clause-seen
returns-in-Pop-clause-seen c =
    let kept = c.index-kept.result.now in
    ap (option_map (λ (s : Spotted). s.seen)) (spotted_read c.args.self.now c.self.inside.values.items c.self.inside.places.items c.args.place kept c.self.view_is c.requires c.index-kept.ensures)
    ∙ ap (λ k. Some (seen_by_kind k kept.name (take kept.arity (drop kept.link c.self.inside.values.items)))) c.in-Pop.is

pub returns-in-Module-clause-seen : goal.returns-in-Module-clause-seen
returns-in-Module-clause-seen c =
    let kept = c.index-kept.result.now in
    ap (option_map (λ (s : Spotted). s.seen)) (spotted_read c.args.self.now c.self.inside.values.items c.self.inside.places.items c.args.place kept c.self.view_is c.requires c.index-kept.ensures)
    ∙ ap (λ k. Some (seen_by_kind k kept.name (take kept.arity (drop kept.link c.self.inside.values.items)))) c.in-Module.is
    ∙ ap (λ xs. Some (Module (record { name = module_name kept.name; params = take kept.arity (drop kept.link xs) }))) (sym c.as_slice.ensures.value)
    ∙ ap (λ ps. Some (Module (record { name = module_name kept.name; params = ps }))) (sym c.part.ensures)
