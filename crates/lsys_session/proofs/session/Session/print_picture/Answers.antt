use Rattle.std.proofs.Common.{◌≡◌, ℕ, List, None, subst}
use Rattle.lsys_spec.specs.Systems.{System}
use Rattle.lsys_spec.specs.Pictures.{picture}
use Rattle.lsys_out.specs.Drawings.{last_image, last_symbols}
use Rattle.lsys_session.specs.Given.{WasPrinted, picture_reply}
use Rattle.lsys_session.proofs.Querying.{has_last, image_there, picture_given}
use Rattle.lsys_session.proofs.session.Session.print_picture.Goals as goal

pub print_picture-requires-clause-last : goal.print_picture-requires-clause-last
print_picture-requires-clause-last g c =
    rw c.system-system.ensures.system
    (has_last (g.D.Derivation.limit_of c.self.inside.derivation) (g.D.Derivation.system_of c.self.inside.derivation) (g.D.LevelView.levels c.self.inside.derivation) c.system-system.ensures.levels c.self.invariant)

pub returns-clause-tells : goal.returns-clause-tells
returns-clause-tells g c =
    let limit = g.D.Derivation.limit_of c.self.inside.derivation in
    let s = g.D.Derivation.system_of c.self.inside.derivation in
    let levels = g.D.LevelView.levels c.self.inside.derivation in
    let prints =
    subst
    (λ (t : System). (naming : ℕ → List ℕ)
    → WasPrinted g.K.Sink.written g.K.Sink.faults c.args.sink.now c.print_picture.new.sink c.print_picture.new.out t (picture_reply c.args.kind t (picture t (last_symbols naming t levels))) c.print_picture.result)
    c.system-system.ensures.system c.print_picture.ensures.prints in
    rw (← c.self.view_is) (picture_given limit s levels c.system-system.ensures.levels g.K.Sink.written g.K.Sink.faults c.args.sink.now c.print_picture.new.sink c.print_picture.new.out c.args.kind c.print_picture.result prints)

pub returns-clause-memory : goal.returns-clause-memory
returns-clause-memory g c = λ e.
    let limit = g.D.Derivation.limit_of c.self.inside.derivation in
    let s = g.D.Derivation.system_of c.self.inside.derivation in
    let levels = g.D.LevelView.levels c.self.inside.derivation in
    let whole : (last_image s levels).refusal ≡ None = subst (λ (t : System). (last_image t levels).refusal ≡ None) c.system-system.ensures.system (c.print_picture.ensures.memory e) in
    rw (← c.self.view_is) (image_there limit s levels c.system-system.ensures.levels whole)
