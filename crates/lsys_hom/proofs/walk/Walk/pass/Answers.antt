use Rattle.std.proofs.Common.{arith, ◌≡◌, [], ◌<◌, ◌+◌, Ok, Err, map, length, drop, refl, ap, sym, ◌∙◌, rules, subst}
use Rattle.std.proofs.lemmas.Grind.{common_steps, elements}
use Rattle.lsys_bodies.specs.Views.{homomorphism_of}
use Rattle.lsys_level.specs.Spots.{spots_at, with_lineage}
use Rattle.lsys_level.specs.Views.{seen_of}
use Rattle.lsys_hom.specs.Coming.{coming_from, symbol_image, coming_with}
use Rattle.lsys_hom.specs.Parts.{symbols_of, IsSoundPart}
use Rattle.lsys_hom.specs.Refusals.{refusal_of}
use Rattle.lsys_hom.specs.Ways.{at, bare_level, symbols_from, with_part}
use Rattle.lsys_hom.proofs.Passing.{after, coming_passed, left_passed, right_rest}
use Rattle.lsys_hom.proofs.walk.Walk.pass.Goals as goal

pub returns-in-Err : goal.returns-in-Err
returns-in-Err g c =
    let i = c.self.inside in
    let levels = g.W.LevelView.levels i.view.now in
    let t = g.W.LevelView.level_of i.view.now c.in-Some.spot in
    let p = g.W.LevelView.place_of i.view.now c.in-Some.spot in
    let hs = map homomorphism_of i.rules.now in
    let v = seen_of c.sight-sight.result in
    let was : c.args.self.now.coming ≡ coming_from hs i.modules i.symbols (bare_level (drop p (spots_at levels t))) =
    ap (λ w. w.coming) (sym c.self.view_is)
    ∙ ap (λ o. coming_from hs i.modules i.symbols (bare_level (symbols_from levels (at (g.W.LevelView.level_of i.view.now) (g.W.LevelView.place_of i.view.now) o)))) c.in-Some.is in
    let fault : symbol_image hs i.modules i.symbols (with_lineage [] v) ≡ Err (refusal_of c.in-Err.refusal) = search rules in
    (was ∙ coming_passed hs i.modules i.symbols (spots_at levels t) p v c.sight-sight.ensures.seen ∙ ap (λ r. coming_with r (after hs i.modules i.symbols v (drop (p + 1) (spots_at levels t)))) fault, refl)

pub returns-in-Ok : goal.returns-in-Ok
returns-in-Ok g c =
    let i = c.self.inside in
    let levels = g.W.LevelView.levels i.view.now in
    let t = g.W.LevelView.level_of i.view.now c.in-Some.spot in
    let p = g.W.LevelView.place_of i.view.now c.in-Some.spot in
    let hs = map homomorphism_of i.rules.now in
    let v = seen_of c.sight-sight.result in
    let x = spots_at levels t in
    let was : c.args.self.now.coming ≡ coming_from hs i.modules i.symbols (bare_level (drop p x)) =
    ap (λ w. w.coming) (sym c.self.view_is)
    ∙ ap (λ o. coming_from hs i.modules i.symbols (bare_level (symbols_from levels (at (g.W.LevelView.level_of i.view.now) (g.W.LevelView.place_of i.view.now) o)))) c.in-Some.is in
    let left : c.args.self.now.left ≡ length (drop p x) =
    ap (λ w. w.left) (sym c.self.view_is)
    ∙ ap (λ o. length (symbols_from levels (at (g.W.LevelView.level_of i.view.now) (g.W.LevelView.place_of i.view.now) o))) c.in-Some.is in
    let rest = right_rest (g.W.LevelView.level_of i.view.now) (g.W.LevelView.place_of i.view.now) levels t p c.right-self-inside.result c.right-self-inside.ensures in
    let image : symbol_image hs i.modules i.symbols (with_lineage [] v) ≡ Ok (symbols_of c.in-Ok.part) = search rules in
    let sound : IsSoundPart c.in-Ok.part = search rules in
    let is = coming_passed hs i.modules i.symbols x p v c.sight-sight.ensures.seen ∙ ap (λ r. coming_with r (after hs i.modules i.symbols v (drop (p + 1) x))) image in
    let part = c.in-Ok.part in
    let counted =
    ap (λ m. with_part part (coming_from hs m (i.symbols + length (symbols_of part)) (bare_level (drop (p + 1) x)))) (sym c.modules_after-modules.ensures)
    ∙ ap (λ l. with_part part (coming_from hs c.modules_after-modules.result (i.symbols + l) (bare_level (drop (p + 1) x)))) (sym c.len.ensures)
    ∙ ap (λ r. with_part part (coming_from hs c.modules_after-modules.result (i.symbols + c.len.result) (bare_level r))) (sym rest) in
    let fewer = subst (λ n. length (drop (p + 1) x) < n) (sym left) (left_passed x p v c.sight-sight.ensures.seen) in
    (was ∙ is ∙ counted, subst (λ r. length r < c.args.self.now.left) (sym rest) fewer, sound)

pub modules_after-modules-requires : goal.modules_after-modules-requires
modules_after-modules-requires g c = grind (arith, elements)

pub part_of-requires-clause-modules : goal.part_of-requires-clause-modules
part_of-requires-clause-modules g c = grind (arith, common_steps)

pub invariant_of-self : goal.invariant_of-self
invariant_of-self g c = grind (arith, common_steps)
