use Rattle.std.proofs.Common.{◌≡◌, ◌+◌, ◌∷◌, [], ◌++◌, Ok, map, take, drop, arith, rules, sym, ap, ◌∙◌, refl, w64, slice_set}
use Rattle.std.proofs.lemmas.Int.{to_z-of_z}
use Rattle.std.proofs.lemmas.Grind.{take-set_at, common_steps}
use mir.Val.{to_z, of_z}
use Rattle.lsys_spec.specs.Values.{value}
use Rattle.lsys_spec.specs.Meaning.{filled_params}
use Rattle.lsys_rewrite.proofs.After.{after, drop_item}
use Rattle.lsys_rewrite.proofs.Successors.{params_more}
use Rattle.lsys_bodies.specs.Views.{tree_in}
use Rattle.lsys_rewrite.proofs.filling.fill_params.Goals as goal

pub loop-place-preserved : goal.loop-place-preserved
loop-place-preserved c =
    let i = c.loop-place.place in
    let e = c.index-params-place.result in
    let z = c.in_ok-values.field-0 in
    let kept : to_z w64 (of_z w64 z) ≡ z = to_z-of_z w64 z (search rules) in
    let front : take (i + 1) (slice_set c.loop-place.values i z) ≡ take i c.loop-place.values ++ z ∷ [] = take-set_at c.loop-place.values i (i + 1) z refl (omega arith) in
    let rest = drop_item c.args.params.now i e c.loop-place-test.true c.index-params-place.is in
    let told : Ok z ≡ value e.tree c.args.bound.now = search rules in
    record {
      told =
          rw (kept, front) (sym (params_more (take i c.loop-place.values) e.tree (map tree_in (drop (i + 1) c.args.params.now)) c.args.bound.now z told)
          ∙ ap (λ es. after (take i c.loop-place.values) (filled_params (map tree_in es) c.args.bound.now)) (sym rest) ∙ c.loop-place.invariant.told);
      places = grind (arith, common_steps);
    }
