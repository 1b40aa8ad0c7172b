use Rattle.std.proofs.Common.{rules, subst, Some}
use Rattle.lsys_level.specs.Spots.{spots_at}
use Rattle.lsys_level.specs.Views.{seen_of}
use Rattle.lsys_pass.proofs.Numbering.{Counting, begins, goes_on}
use Rattle.lsys_pass.proofs.refusal.module_number.Goals as goal

pub loop-at-init : goal.loop-at-init
loop-at-init g c =
    let level_of = g.W.LevelView.level_of c.args.view.now in
    let place_of = g.W.LevelView.place_of c.args.view.now in
    let t = level_of c.args.spot in
    begins level_of place_of (spots_at (g.W.LevelView.levels c.args.view.now) t) t (place_of c.args.spot) c.requires.spot c.left-at.result c.left-at.ensures

pub loop-at-preserved : goal.loop-at-preserved
loop-at-preserved g c =
    let level_of = g.W.LevelView.level_of c.args.view.now in
    let place_of = g.W.LevelView.place_of c.args.view.now in
    let t = level_of c.args.spot in
    let xs = spots_at (g.W.LevelView.levels c.args.view.now) t in
    let p = place_of c.args.spot in
    let here : Counting level_of place_of xs t p (Some c.in-Some.found) c.loop-at.number = subst (λ at. Counting level_of place_of xs t p at c.loop-at.number) c.in-Some.is c.loop-at.invariant in
    goes_on level_of place_of xs t p c.in-Some.found c.loop-at.number c.one_if_module-number.result (seen_of c.sight.result) c.left-at-in-Some.result here
    (search rules) c.one_if_module-number.ensures.one c.one_if_module-number.ensures.few (search rules)
