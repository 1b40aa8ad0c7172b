use Rattle.std.proofs.Common.{◌∙◌, Err, Ok, ap, subst, sym}
use Rattle.lsys_forest.specs.Rows.{complete_levels}
use Rattle.lsys_hom.specs.Refusals.{refusal_of}
use Rattle.lsys_motion.specs.Refusals.{IsAsTold}
use Rattle.lsys_motion.specs.Told.{Track}
use Rattle.lsys_motion.proofs.Telling.{is_drawn, is_refused, is_unseen}
use Rattle.lsys_motion.proofs.motions.Motions.new.Goals as goal

pub returns-in-Err-survey_picture : goal.returns-in-Err-survey_picture
returns-in-Err-survey_picture g c = λ naming.
    let surveyed = c.in-Err-survey_picture.ensures in
    subst (λ q. IsAsTold {A = Track} q (Err c.refused.result)) (sym (is_refused naming g.T.Lattice.shape c.args.system.now (complete_levels c.args.forest.now) surveyed.0 surveyed.2))
    (c.refused.ensures surveyed.0 surveyed.1)

pub returns-in-Ok-kept : goal.returns-in-Ok-kept
returns-in-Ok-kept g c = λ naming.
    (is_drawn naming g.T.Lattice.shape c.args.system.now (complete_levels c.args.forest.now) c.in-Ok-survey_picture.ensures.0).told_is
    ∙ ap (λ (t : Track). Ok t) (sym c.in-Ok-kept.ensures)

pub returns-in-Err : goal.returns-in-Err
returns-in-Err g c = λ naming. is_unseen naming g.T.Lattice.shape c.args.system.now (complete_levels c.args.forest.now) (refusal_of c.in-Err.refusal) c.in-Err.ensures
