use Rattle.std.proofs.Common.{◌≡◌, Err, subst, sym, rules}
use Rattle.lsys_spec.specs.Pictures.{picture}
use Rattle.lsys_spec.specs.PictureTexts as texts
use Rattle.lsys_out.specs.Drawings.{last_symbols}
use Rattle.lsys_out.specs.Shown.{Shows, on_lattice}
use Rattle.lsys_out.proofs.Showing.{shows_refused}
use Rattle.lsys_out.proofs.Whole.{picture_drawn, picture_refused}
use Rattle.lsys_out.proofs.svg.svg_text.Goals as goal

pub returns-in_err-extent-clause-shows : goal.returns-in_err-extent-clause-shows
returns-in_err-extent-clause-shows g c naming =
    let l = g.T.Lattice.shape in
    let s = c.args.system.now in
    let levels = g.W.LevelView.levels c.args.view.now in
    let drawn = picture (on_lattice l s) (last_symbols naming s levels) in
    let told = c.in_err-extent.ensures.surveyed in
    let is : c.from_residual.result ≡ Err c.in_err-extent.field-0.0 = search rules in
    subst (λ r. Shows g.K.Sink.written g.K.Sink.faults c.args.sink.now c.args.sink.now c.args.out.now c.args.out.now drawn (texts.svg_text g.T.Lattice.shape) r) (sym is)
    (shows_refused g.K.Sink.written g.K.Sink.faults c.args.sink.now c.args.out.now drawn (texts.svg_text g.T.Lattice.shape) told.0 c.in_err-extent.field-0.0 told.1 (picture_refused naming l s levels told.0 told.2))

pub returns-in-Ok-clause-shows : goal.returns-in-Ok-clause-shows
returns-in-Ok-clause-shows g c naming =
    let l = g.T.Lattice.shape in
    let s = c.args.system.now in
    let levels = g.W.LevelView.levels c.args.view.now in
    record {
      segments = _;
      drawn = picture_drawn naming l s levels c.in_ok-extent.ensures.surveyed.0;
      put = c.in-Ok.ensures.put;
    }

pub returns-in-Err-clause-shows : goal.returns-in-Err-clause-shows
returns-in-Err-clause-shows g c naming =
    let l = g.T.Lattice.shape in
    let s = c.args.system.now in
    let levels = g.W.LevelView.levels c.args.view.now in (
      _,
      record {
        segments = _;
        drawn = picture_drawn naming l s levels c.in_ok-extent.ensures.surveyed.0;
        put = c.in-Err.ensures.put;
      },
    )
