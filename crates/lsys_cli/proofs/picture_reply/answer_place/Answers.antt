use Rattle.lsys_cli.specs.Motions.{told_by}
use Rattle.lsys_cli.proofs.Motioned.{place_printed, place_refused}
use Rattle.lsys_cli.proofs.picture_reply.answer_place.Goals as goal

pub returns-in-Err-clause-prints : goal.returns-in-Err-clause-prints
returns-in-Err-clause-prints g c =
    let d = c.args.derivation.now in
    place_refused g.K.Sink.written g.K.Sink.faults c.args.sink.now c.refuse_motions.new.sink c.refuse_motions.new.out (g.D.Derivation.limit_of d) (g.D.Derivation.system_of d) c.requires.session.levels c.refuse_motions.result
    c.args.place c.args.column c.in-Err.refusal c.in-Err.ensures.told c.refuse_motions.ensures

pub returns-clause-prints : goal.returns-clause-prints
returns-clause-prints g c =
    let d = c.args.derivation.now in
    place_printed g.K.Sink.written g.K.Sink.faults c.args.sink.now c.print_kept_place-answered.new.sink c.print_kept_place-answered.new.out (g.D.Derivation.limit_of d) (g.D.Derivation.system_of d) c.requires.session.levels
    c.print_kept_place-answered.result c.args.place c.args.column (told_by c.in-Ok.motions) c.in-Ok.ensures.told c.print_kept_place-answered.ensures
