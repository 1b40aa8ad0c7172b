use Rattle.std.proofs.Common.{arith, ◌≡◌, [], ◌∷◌, ◌+◌, Ok, map, drop, ap, sym, ◌∙◌}
use Rattle.std.proofs.lemmas.Grind.{common_steps}
use Rattle.lsys_bodies.specs.Views.{homomorphism_of}
use Rattle.lsys_spec.specs.Levels.{plain}
use Rattle.lsys_level.specs.Spots.{spots_at, with_lineage}
use Rattle.lsys_level.specs.Views.{seen_of}
use Rattle.lsys_hom.specs.Coming.{coming_from, symbol_image, coming_with}
use Rattle.lsys_hom.specs.Ways.{at, bare_level, symbols_from}
use Rattle.lsys_hom.proofs.Passing.{after, coming_passed, kept_image, right_rest}
use Rattle.lsys_hom.proofs.walk.Walk.pass_kept.Goals as goal

pub returns : goal.returns
returns g c =
    let i = c.self.inside in
    let levels = g.W.LevelView.levels i.view.now in
    let t = g.W.LevelView.level_of i.view.now c.in-Some.spot in
    let p = g.W.LevelView.place_of i.view.now c.in-Some.spot in
    let hs = map homomorphism_of i.rules.now in
    let v = seen_of c.sight-sight.result in
    let y = plain (with_lineage [] v) in
    let x = spots_at levels t in
    let was : c.args.self.now.coming ≡ coming_from hs i.modules i.symbols (bare_level (drop p x)) =
    ap (λ w. w.coming) (sym c.self.view_is)
    ∙ ap (λ o. coming_from hs i.modules i.symbols (bare_level (symbols_from levels (at (g.W.LevelView.level_of i.view.now) (g.W.LevelView.place_of i.view.now) o)))) c.in-Some.is in
    let none : i.rules.now ≡ [] = grind (arith, common_steps) in
    let image : symbol_image hs i.modules i.symbols (with_lineage [] v) ≡ Ok (y ∷ []) =
    ap (λ rs. symbol_image (map homomorphism_of rs) i.modules i.symbols (with_lineage [] v)) none ∙ kept_image i.modules i.symbols v (grind (arith, common_steps)) in
    let rest = right_rest (g.W.LevelView.level_of i.view.now) (g.W.LevelView.place_of i.view.now) levels t p c.right-self-inside.result c.right-self-inside.ensures in
    let is = coming_passed hs i.modules i.symbols x p v c.sight-sight.ensures.seen ∙ ap (λ r. coming_with r (after hs i.modules i.symbols v (drop (p + 1) x))) image in
    let counted =
    ap (λ m. record { symbols = y ∷ (coming_from hs m (i.symbols + 1) (bare_level (drop (p + 1) x))).symbols; refusal = (coming_from hs m (i.symbols + 1) (bare_level (drop (p + 1) x))).refusal }) (sym c.modules_after-self-inside.ensures)
    ∙ ap (λ r. record { symbols = y ∷ (coming_from hs c.modules_after-self-inside.result (i.symbols + 1) (bare_level r)).symbols; refusal = (coming_from hs c.modules_after-self-inside.result (i.symbols + 1) (bare_level r)).refusal }) (sym rest) in
    (y, c.look_of.ensures, was ∙ is ∙ counted)
