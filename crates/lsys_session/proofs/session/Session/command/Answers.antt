use Rattle.std.proofs.Common.{arith, Ok, Err, ap, ◌∙◌, subst}
use Rattle.std.proofs.lemmas.Grind.{common_steps}
use Rattle.lsys_spec.specs.Systems.{System}
use Rattle.lsys_session.specs.Requests.{IsRequest}
use Rattle.lsys_session.proofs.Answering.{answered, answered_refusal, asked_tokens, refused_tokens, short_by}
use Rattle.lsys_session.proofs.session.Session.command.Goals as goal

pub returns-in-Ok-clause-answers : goal.returns-in-Ok-clause-answers
returns-in-Ok-clause-answers g c =
    let s = g.D.Derivation.system_of c.args.self.now in
    let asked : IsRequest s c.args.line.now (Ok c.in-Ok.request) =
    subst (λ (t : System). IsRequest t c.args.line.now (Ok c.in-Ok.request)) (c.system.ensures.system ∙ ap g.D.Derivation.system_of c.self.view_is) c.in-Ok.ensures in
    answered g.K.Sink.written g.K.Sink.faults c.args.sink.now c.answer.new.sink c.answer.new.out (g.D.Derivation.limit_of c.args.self.now) s c.args.line.now c.answer.result (g.D.Derivation.system_of c.answer.new.self) c.in-Ok.request (short_by c.args.line.now c.if-line-gt-MOST_LINE_BYTES.false) asked c.answer.ensures.gives

pub returns-in-Err-clause-answers : goal.returns-in-Err-clause-answers
returns-in-Err-clause-answers g c =
    let s = g.D.Derivation.system_of c.args.self.now in
    let asked : IsRequest s c.args.line.now (Err c.in-Err.refusal) =
    subst (λ (t : System). IsRequest t c.args.line.now (Err c.in-Err.refusal)) (c.system.ensures.system ∙ ap g.D.Derivation.system_of c.self.view_is) c.in-Err.ensures in
    answered_refusal g.K.Sink.written g.K.Sink.faults c.args.sink.now c.refuse-in-Err.new.sink c.refuse-in-Err.new.out (g.D.Derivation.limit_of c.args.self.now) s c.args.line.now c.refuse-in-Err.result c.in-Err.refusal (short_by c.args.line.now c.if-line-gt-MOST_LINE_BYTES.false) asked c.refuse-in-Err.ensures

pub returns-in-Ok-clause-counts : goal.returns-in-Ok-clause-counts
returns-in-Ok-clause-counts g c = grind (arith, common_steps)

pub returns-in-Ok-clause-memory : goal.returns-in-Ok-clause-memory
returns-in-Ok-clause-memory g c = λ e.
    let s = g.D.Derivation.system_of c.args.self.now in
    let asked : IsRequest s c.args.line.now (Ok c.in-Ok.request) =
    subst (λ (t : System). IsRequest t c.args.line.now (Ok c.in-Ok.request)) (c.system.ensures.system ∙ ap g.D.Derivation.system_of c.self.view_is) c.in-Ok.ensures in
    asked_tokens (g.D.Derivation.limit_of c.args.self.now) s c.args.line.now c.in-Ok.request asked.2 (c.answer.ensures.memory e)

pub returns-in-Err-clause-memory : goal.returns-in-Err-clause-memory
returns-in-Err-clause-memory g c = refused_tokens c.system.result.now c.args.line.now c.in-Err.refusal c.refuse-in-Err.result c.in-Err.ensures c.refuse-in-Err.ensures.outcome
