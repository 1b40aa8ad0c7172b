use Rattle.std.proofs.Common.{subst}
use Rattle.lsys_lattice.specs.Extents.{Extents}
use Rattle.lsys_session.specs.Sessions.{WasSaid}
use Rattle.lsys_session.specs.declared.outcome.Outcome.TheVariants.{Printed}
use Rattle.lsys_cli.specs.Motions.{spans_text, told_by}
use Rattle.lsys_cli.proofs.Motioned.{bounds_printed, bounds_refused}
use Rattle.lsys_cli.proofs.picture_reply.answer_bounds.Goals as goal

pub returns-in-Err-clause-prints : goal.returns-in-Err-clause-prints
returns-in-Err-clause-prints g c =
    let d = c.args.derivation.now in
    bounds_refused g.K.Sink.written g.K.Sink.faults c.args.sink.now c.refuse_motions.new.sink c.refuse_motions.new.out (g.D.Derivation.limit_of d) (g.D.Derivation.system_of d) c.requires.session.levels c.refuse_motions.result
    c.in-Err.refusal c.in-Err.ensures.told c.refuse_motions.ensures

pub returns-clause-prints : goal.returns-clause-prints
returns-clause-prints g c =
    let d = c.args.derivation.now in
    let says =
    subst (λ (e : Extents). WasSaid g.K.Sink.written g.K.Sink.faults c.args.sink.now c.print_bounds-answered.new.sink c.print_bounds-answered.new.out (spans_text e) Printed c.print_bounds-answered.result)
    c.bounds.ensures c.print_bounds-answered.ensures in
    bounds_printed g.K.Sink.written g.K.Sink.faults c.args.sink.now c.print_bounds-answered.new.sink c.print_bounds-answered.new.out (g.D.Derivation.limit_of d) (g.D.Derivation.system_of d) c.requires.session.levels
    c.print_bounds-answered.result (told_by c.in-Ok.motions) c.in-Ok.ensures.told says
