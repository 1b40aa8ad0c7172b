use Rattle.std.proofs.Common.{subst, sym, Some}
use Rattle.lsys_level.specs.Spots.{spots_at}
use Rattle.lsys_level.specs.Views.{seen_of}
use Rattle.lsys_level.proofs.Copies.{Copying, copied_on, all_copied}
use Rattle.lsys_level.proofs.copy.copy_level.Goals as goal

pub loop-at-preserved : goal.loop-at-preserved
loop-at-preserved g c =
    let levels = g.W.LevelView.levels c.args.view.now in
    let level_of = g.W.LevelView.level_of c.args.view.now in
    let place_of = g.W.LevelView.place_of c.args.view.now in
    let here : Copying level_of place_of (spots_at levels c.args.level) c.args.level (Some c.in-Some.spot) c.loop-at.symbols = subst (λ at. Copying level_of place_of (spots_at levels c.args.level) c.args.level at c.loop-at.symbols) c.in-Some.is c.loop-at.invariant in
    subst (λ symbols. Copying level_of place_of (spots_at levels c.args.level) c.args.level c.right-at.result symbols) (sym c.in_ok-push.ensures.added)
    (copied_on level_of place_of levels c.args.level c.in-Some.spot c.loop-at.symbols c.symbol_seen.result (seen_of c.sight.result) c.right-at.result here c.sight.ensures.seen c.symbol_seen.ensures c.right-at.ensures)

pub returns : goal.returns
returns g c =
    let levels = g.W.LevelView.levels c.args.view.now in
    let level_of = g.W.LevelView.level_of c.args.view.now in
    let place_of = g.W.LevelView.place_of c.args.view.now in
    all_copied level_of place_of (spots_at levels c.args.level) c.args.level c.loop-at.symbols (subst (λ at. Copying level_of place_of (spots_at levels c.args.level) c.args.level at c.loop-at.symbols) c.in_default.is c.loop-at.invariant)
