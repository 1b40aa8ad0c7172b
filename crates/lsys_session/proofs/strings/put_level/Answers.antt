use Rattle.std.proofs.Common.{[], ◌∷◌, ◌++◌, refl, subst, ◌∙◌, rules, map, drop, length, suc, Some}
use Rattle.lsys_io.proofs.Puts.{puts_nothing, puts_then, puts_failed, puts_answering}
use Rattle.lsys_syntax.specs.Strings.{value_pieces, ends_in_name}
use Rattle.lsys_spec.specs.Levels.{plain}
use Rattle.lsys_module.specs.Printing.{symbols_after}
use Rattle.lsys_level.specs.Spots.{spots_at, level_by}
use Rattle.lsys_level.specs.Views.{seen_of}
use Rattle.lsys_level.proofs.Copies.{Copying, copied_on}
use Rattle.lsys_session.specs.Given.{symbol_seen}
use Rattle.lsys_session.proofs.PutLevels.{copy_of, copy_is, text_more, runs_more, cut_short, all_put}
use Rattle.lsys_session.proofs.strings.put_level.Goals as goal

pub loop-at-init : goal.loop-at-init
loop-at-init g c = record { symbols = []; copying = search rules; put = puts_nothing; runs = refl }

pub loop-at-preserved : goal.loop-at-preserved
loop-at-preserved g c =
    let levels = g.W.LevelView.levels c.args.view.now in
    let level_of = g.W.LevelView.level_of c.args.view.now in
    let place_of = g.W.LevelView.place_of c.args.view.now in
    let sight = c.sight-sight.result in
    let put = c.loop-at.invariant in
    let here : Copying level_of place_of (spots_at levels c.args.level) c.args.level (Some c.in-Some.spot) put.symbols = subst (λ at. Copying level_of place_of (spots_at levels c.args.level) c.args.level at put.symbols) c.in-Some.is put.copying in
    record {
      symbols = put.symbols ++ copy_of sight ∷ [];
      copying = copied_on level_of place_of levels c.args.level c.in-Some.spot put.symbols (copy_of sight) (seen_of sight) c.right-at.result here c.sight-sight.ensures.seen (copy_is sight) c.right-at.ensures;
      put = rw (text_more put.symbols sight c.loop-at.runs_on put.runs) (puts_then put.put (puts_answering c.in_ok-runs_on.ensures.put));
      runs = c.in_ok-runs_on.ensures.runs_on ∙ runs_more put.symbols sight;
    }

pub returns-in_err-runs_on : goal.returns-in_err-runs_on
returns-in_err-runs_on g c =
    let levels = g.W.LevelView.levels c.args.view.now in
    let level_of = g.W.LevelView.level_of c.args.view.now in
    let place_of = g.W.LevelView.place_of c.args.view.now in
    let sight = c.sight-sight.result in
    let put = c.loop-at.invariant in
    let here : Copying level_of place_of (spots_at levels c.args.level) c.args.level (Some c.in-Some.spot) put.symbols = subst (λ at. Copying level_of place_of (spots_at levels c.args.level) c.args.level at put.symbols) c.in-Some.is put.copying in
    rw (cut_short level_of place_of levels c.args.level c.in-Some.spot put.symbols sight c.loop-at.runs_on here c.sight-sight.ensures.seen put.runs)
    (puts_failed (symbols_after value_pieces (ends_in_name (symbol_seen sight)) (map plain (level_by (λ tag. []) (drop (suc (length put.symbols)) (spots_at levels c.args.level)))))
    c.from_residual.ensures.0 (puts_then put.put c.in_err-runs_on.ensures.put))

pub returns : goal.returns
returns g c =
    let levels = g.W.LevelView.levels c.args.view.now in
    let level_of = g.W.LevelView.level_of c.args.view.now in
    let place_of = g.W.LevelView.place_of c.args.view.now in
    let put = c.loop-at.invariant in
    rw (all_put level_of place_of (spots_at levels c.args.level) c.args.level put.symbols (subst (λ at. Copying level_of place_of (spots_at levels c.args.level) c.args.level at put.symbols) c.in_default.is put.copying)) put.put
