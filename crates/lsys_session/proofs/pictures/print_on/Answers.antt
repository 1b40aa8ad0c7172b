use Rattle.std.proofs.Common.{Ok, Err, [], refl, ◌∙◌}
use Rattle.lsys_spec.specs.Pictures.{picture}
use Rattle.lsys_out.specs.Drawings.{last_symbols}
use Rattle.lsys_out.specs.declared.refusal.PictureRefusal.TheVariants as refusals
use Rattle.lsys_out.proofs.Whole.{no_image}
use Rattle.lsys_hom.specs.Refusals.{refusal_of}
use Rattle.lsys_session.proofs.Querying.{shows_own, picture_printed, picture_has_no_image, picture_without_image, picture_goes_far, picture_failed}
use Rattle.lsys_session.proofs.pictures.print_on.Goals as goal

pub returns-in-Ok-put_picture-clause-prints : goal.returns-in-Ok-put_picture-clause-prints
returns-in-Ok-put_picture-clause-prints g c = λ naming.
    let x = last_symbols naming c.args.system.now (g.W.LevelView.levels c.args.view.now) in
    picture_printed g.K.Sink.written g.K.Sink.faults c.args.sink.now c.end_print.new.sink c.end_print.new.out c.args.kind c.args.system.now (picture c.args.system.now x) c.end_print.result
    (shows_own g.K.Sink.written g.K.Sink.faults c.args.sink.now c.put_picture.new.sink [] c.put_picture.new.out c.args.kind g.T.Lattice.shape c.args.system.now x (Ok tt) c.requires.lattice (rw c.requires.empty at (c.in-Ok-put_picture.ensures naming)))
    c.end_print.ensures.put c.end_print.ensures.empty c.end_print.ensures.outcome

pub returns-in-Err-clause-prints : goal.returns-in-Err-clause-prints
returns-in-Err-clause-prints g c = λ naming.
    let levels = g.W.LevelView.levels c.args.view.now in
    picture_without_image g.K.Sink.written g.K.Sink.faults c.args.sink.now c.refuse_image.new.sink c.refuse_image.new.out c.args.kind c.args.system.now (picture c.args.system.now (last_symbols naming c.args.system.now levels)) c.refuse_image.result c.in-Err.refusal
    (no_image naming c.args.system.now levels (refusal_of c.in-Err.refusal) c.in-Err.ensures) c.refuse_image.ensures

pub refuse_image-requires-in-Err-Image : goal.refuse_image-requires-in-Err-Image
refuse_image-requires-in-Err-Image g c = (rw c.in-Err-Image.field-0-is at (c.in-Err-Image.ensures (λ tag. []))).held_stays ∙ c.requires.empty

pub returns-in-Err-Image-clause-prints : goal.returns-in-Err-Image-clause-prints
returns-in-Err-Image-clause-prints g c = λ naming.
    let x = last_symbols naming c.args.system.now (g.W.LevelView.levels c.args.view.now) in
    picture_has_no_image g.K.Sink.written g.K.Sink.faults c.args.sink.now c.refuse_image-in-Err-Image.new.sink c.refuse_image-in-Err-Image.new.out c.args.kind c.args.system.now (picture c.args.system.now x) c.refuse_image-in-Err-Image.result c.in-Err-Image.refusal
    (shows_own g.K.Sink.written g.K.Sink.faults c.args.sink.now c.put_picture.new.sink [] c.put_picture.new.out c.args.kind g.T.Lattice.shape c.args.system.now x (Err (refusals.Image c.in-Err-Image.refusal)) c.requires.lattice (rw (c.in-Err-Image.field-0-is, c.requires.empty) at (c.in-Err-Image.ensures naming)))
    c.refuse_image-in-Err-Image.ensures

pub refuse_far-requires : goal.refuse_far-requires
refuse_far-requires g c = (rw c.in-Err-Far.field-0-is at (c.in-Err-Far.ensures (λ tag. []))).held_stays ∙ c.requires.empty

pub returns-in-Err-Far-clause-prints : goal.returns-in-Err-Far-clause-prints
returns-in-Err-Far-clause-prints g c = λ naming.
    let x = last_symbols naming c.args.system.now (g.W.LevelView.levels c.args.view.now) in
    picture_goes_far g.K.Sink.written g.K.Sink.faults c.args.sink.now c.refuse_far.new.sink c.refuse_far.new.out c.args.kind c.args.system.now (picture c.args.system.now x) c.refuse_far.result c.in-Err-Far.«module»
    (shows_own g.K.Sink.written g.K.Sink.faults c.args.sink.now c.put_picture.new.sink [] c.put_picture.new.out c.args.kind g.T.Lattice.shape c.args.system.now x (Err (refusals.Far c.in-Err-Far.«module»)) c.requires.lattice (rw (c.in-Err-Far.field-0-is, c.requires.empty) at (c.in-Err-Far.ensures naming)))
    c.refuse_far.ensures

pub returns-clause-prints : goal.returns-clause-prints
returns-clause-prints g c = λ naming.
    let x = last_symbols naming c.args.system.now (g.W.LevelView.levels c.args.view.now) in
    picture_failed g.K.Sink.written g.K.Sink.faults c.args.sink.now c.put_picture.new.sink c.put_picture.new.out c.args.kind c.args.system.now (picture c.args.system.now x) (Err (record {}))
    (shows_own g.K.Sink.written g.K.Sink.faults c.args.sink.now c.put_picture.new.sink [] c.put_picture.new.out c.args.kind g.T.Lattice.shape c.args.system.now x (Err refusals.Failed) c.requires.lattice (rw (c.in-Err-Failed.field-0-is, c.requires.empty) at (c.in-Err-Failed.ensures naming)))
    refl
