use Rattle.std.proofs.Common.{Some, Ok, Err, sym, subst}
use Rattle.lsys_match.specs.AskedSpots.{MayAnswer, MayScan}
use Rattle.lsys_match.proofs.asker.Asker.ask.Goals as goal

pub returns-in-Ok-clause-answered : goal.returns-in-Ok-clause-answered
returns-in-Ok-clause-answered g c =
    subst (λ store. MayAnswer {L = g.row.L.Denot} c.args.self.now g.W.LevelView c.args.view.now c.args.spot store c.args.old (Ok (Some c.in-Ok.answer))) (sym c.exchange_for-2.ensures.store)
    (subst (λ k. MayAnswer {L = g.row.L.Denot} k g.W.LevelView c.args.view.now c.args.spot c.answer-answered.new.store c.args.old (Ok (Some c.in-Ok.answer))) c.exchange_for.ensures.same c.in-Ok.ensures.answered)

pub returns-in-Err-clause-answered : goal.returns-in-Err-clause-answered
returns-in-Err-clause-answered g c =
    subst (λ store. MayAnswer {L = g.row.L.Denot} c.args.self.now g.W.LevelView c.args.view.now c.args.spot store c.args.old (Err c.in-Err.refusal)) (sym c.exchange_for-2.ensures.store)
    (subst (λ k. MayAnswer {L = g.row.L.Denot} k g.W.LevelView c.args.view.now c.args.spot c.answer-answered.new.store c.args.old (Err c.in-Err.refusal)) c.exchange_for.ensures.same c.in-Err.ensures.answered)

pub returns-in-Ok-clause-visited : goal.returns-in-Ok-clause-visited
returns-in-Ok-clause-visited g c =
    subst (λ k. MayScan {L = g.row.L.Denot} k g.W.LevelView c.args.view.now c.args.spot c.args.visited.now c.answer-answered.new.visited (Ok (Some c.in-Ok.answer))) c.exchange_for.ensures.same c.in-Ok.ensures.visited

pub returns-in-Err-clause-visited : goal.returns-in-Err-clause-visited
returns-in-Err-clause-visited g c =
    subst (λ k. MayScan {L = g.row.L.Denot} k g.W.LevelView c.args.view.now c.args.spot c.args.visited.now c.answer-answered.new.visited (Err c.in-Err.refusal)) c.exchange_for.ensures.same c.in-Err.ensures.visited
