use Rattle.std.proofs.Common.{arith, ◌≡◌, ap, subst, ◌∙◌, Ok, Err}
use Rattle.std.proofs.lemmas.Grind.{elements}
use Rattle.lsys_level.specs.Spots.{spots_at}
use Rattle.lsys_match.specs.declared.told.Told.{Told as CodeTold}
use Rattle.lsys_match.specs.declared.told.Told.TheVariants.{Same, Other}
use Rattle.lsys_match.specs.Asking.{posed_by, site_at, told_for}
use Rattle.lsys_match.specs.Telling.{IsTelling, old_trace}
use Rattle.lsys_match.proofs.Telling.{err_is}
use Rattle.lsys_match.proofs.Answering.{counted, counts_err, counts_ok, failed, few_read, new_answer, new_one, old_answer}
use Rattle.lsys_match.proofs.asker.Asker.answer.Goals as goal

pub returns-in_err-reply-clause-answered : goal.returns-in_err-reply-clause-answered
returns-in_err-reply-clause-answered g c =
    let levels = g.W.LevelView.levels c.args.view.now in
    let p = g.W.LevelView.place_of c.args.view.now c.args.spot in
    let row = spots_at levels c.args.self.now.level in
    let row' = spots_at levels (g.W.LevelView.level_of c.args.view.now c.args.spot) in
    let e : row' ≡ row = ap (spots_at levels) c.requires.level in
    let r : c.from_residual.result ≡ Err c.in_err-reply.field-0.0 = err_is _ _ c.from_residual.ensures in
    let told = subst (IsTelling (λ naming. told_for naming (site_at c.args.self.now.system c.args.self.now.level row' p (posed_by c.args.posed.now).own) (posed_by c.args.posed.now)) c.args.posed.now (old_trace c.trace_for-kept.result)) c.in_err-reply.was c.tell_at.ensures.told in
    λ naming tag m w. failed c.args.posed.now c.args.self.now.system c.args.self.now.level row row' p e c.requires.posed naming tag m w _ c.args.store.now _ (old_trace c.trace_for-kept.result) c.in_err-reply.field-0.0 c.from_residual.result r told

pub returns-in_err-reply-clause-visited : goal.returns-in_err-reply-clause-visited
returns-in_err-reply-clause-visited g c =
    let levels = g.W.LevelView.levels c.args.view.now in
    let p = g.W.LevelView.place_of c.args.view.now c.args.spot in
    let row = spots_at levels c.args.self.now.level in
    let row' = spots_at levels (g.W.LevelView.level_of c.args.view.now c.args.spot) in
    let e : row' ≡ row = ap (spots_at levels) c.requires.level in
    let r : c.from_residual.result ≡ Err c.in_err-reply.field-0.0 = err_is _ _ c.from_residual.ensures in
    λ naming tag m w. let k = counted c.args.posed.now c.args.self.now.system c.args.self.now.level row row' p e c.requires.posed naming tag m w CodeTold c.visited.inside.count c.args.visited.now c.tell_at.new.visited c.tell_at.result c.visited.view_is (c.tell_at.ensures.visited naming) in
    counts_err CodeTold _ _ c.args.visited.now c.tell_at.new.visited c.tell_at.result c.from_residual.result c.in_err-reply.field-0.0 c.in_err-reply.was r k

pub returns-in_default-clause-answered : goal.returns-in_default-clause-answered
returns-in_default-clause-answered g c =
    let levels = g.W.LevelView.levels c.args.view.now in
    let p = g.W.LevelView.place_of c.args.view.now c.args.spot in
    let row = spots_at levels c.args.self.now.level in
    let row' = spots_at levels (g.W.LevelView.level_of c.args.view.now c.args.spot) in
    let e : row' ≡ row = ap (spots_at levels) c.requires.level in
    let ok : c.tell_at.result ≡ Ok Same = c.in_ok-reply.was ∙ ap (λ r. Ok r) c.in_default.is in
    let told = subst (IsTelling (λ naming. told_for naming (site_at c.args.self.now.system c.args.self.now.level row' p (posed_by c.args.posed.now).own) (posed_by c.args.posed.now)) c.args.posed.now (old_trace c.trace_for-kept.result)) ok c.tell_at.ensures.told in
    λ naming tag m w. old_answer c.args.posed.now c.args.self.now.system c.args.self.now.level row row' p e c.requires.posed naming tag m w c.args.store.now _ (old_trace c.trace_for-kept.result) c.requires.well.1 c.requires.made c.trace_for-kept.ensures.trace told.0 told.1 told.2

pub keep-requires-clause-entries : goal.keep-requires-clause-entries
keep-requires-clause-entries g c =
    let levels = g.W.LevelView.levels c.args.view.now in
    let p = g.W.LevelView.place_of c.args.view.now c.args.spot in
    let row = spots_at levels c.args.self.now.level in
    let row' = spots_at levels (g.W.LevelView.level_of c.args.view.now c.args.spot) in
    let e : row' ≡ row = ap (spots_at levels) c.requires.level in
    let ok : c.tell_at.result ≡ Ok (Other c.in-Other.reply) = c.in_ok-reply.was ∙ ap (λ r. Ok r) c.in-Other.is in
    let told = subst (IsTelling (λ naming. told_for naming (site_at c.args.self.now.system c.args.self.now.level row' p (posed_by c.args.posed.now).own) (posed_by c.args.posed.now)) c.args.posed.now (old_trace c.trace_for-kept.result)) ok c.tell_at.ensures.told in
    few_read c.args.posed.now c.args.self.now.system c.args.self.now.level row row' p e c.requires.posed c.in-Other.reply told.1

pub returns-clause-answered : goal.returns-clause-answered
returns-clause-answered g c =
    let levels = g.W.LevelView.levels c.args.view.now in
    let p = g.W.LevelView.place_of c.args.view.now c.args.spot in
    let row = spots_at levels c.args.self.now.level in
    let row' = spots_at levels (g.W.LevelView.level_of c.args.view.now c.args.spot) in
    let e : row' ≡ row = ap (spots_at levels) c.requires.level in
    let ok : c.tell_at.result ≡ Ok (Other c.in-Other.reply) = c.in_ok-reply.was ∙ ap (λ r. Ok r) c.in-Other.is in
    let told = subst (IsTelling (λ naming. told_for naming (site_at c.args.self.now.system c.args.self.now.level row' p (posed_by c.args.posed.now).own) (posed_by c.args.posed.now)) c.args.posed.now (old_trace c.trace_for-kept.result)) ok c.tell_at.ensures.told in
    λ naming tag m w. new_answer c.args.posed.now c.args.self.now.system c.args.self.now.level row row' p e c.requires.posed naming tag m w c.in-Other.reply c.args.store.now c.keep.new.store c.in_ok-answer.answer told.1 c.in_ok-answer.ensures.kept

pub returns-clause-visited : goal.returns-clause-visited
returns-clause-visited g c =
    let levels = g.W.LevelView.levels c.args.view.now in
    let p = g.W.LevelView.place_of c.args.view.now c.args.spot in
    let row = spots_at levels c.args.self.now.level in
    let row' = spots_at levels (g.W.LevelView.level_of c.args.view.now c.args.spot) in
    let e : row' ≡ row = ap (spots_at levels) c.requires.level in
    λ naming tag m w. let k = counted c.args.posed.now c.args.self.now.system c.args.self.now.level row row' p e c.requires.posed naming tag m w CodeTold c.visited.inside.count c.args.visited.now c.tell_at.new.visited c.tell_at.result c.visited.view_is (c.tell_at.ensures.visited naming) in
    counts_ok CodeTold _ c.args.visited.now c.tell_at.new.visited c.tell_at.result _ c.in_ok-reply.was k

pub returns-clause-store : goal.returns-clause-store
returns-clause-store g c =
    let levels = g.W.LevelView.levels c.args.view.now in
    let p = g.W.LevelView.place_of c.args.view.now c.args.spot in
    let row = spots_at levels c.args.self.now.level in
    let row' = spots_at levels (g.W.LevelView.level_of c.args.view.now c.args.spot) in
    let e : row' ≡ row = ap (spots_at levels) c.requires.level in
    let ok : c.tell_at.result ≡ Ok (Other c.in-Other.reply) = c.in_ok-reply.was ∙ ap (λ r. Ok r) c.in-Other.is in
    let told = subst (IsTelling (λ naming. told_for naming (site_at c.args.self.now.system c.args.self.now.level row' p (posed_by c.args.posed.now).own) (posed_by c.args.posed.now)) c.args.posed.now (old_trace c.trace_for-kept.result)) ok c.tell_at.ensures.told in
    new_one c.args.posed.now c.args.self.now.system c.args.self.now.level row row' p e c.requires.posed c.requires.well.1 c.in-Other.reply c.args.store.now c.keep.new.store _ (old_trace c.trace_for-kept.result) c.in_ok-answer.answer c.trace_for-kept.ensures.trace told.0 told.1 c.in_ok-answer.ensures.kept

pub returns-in_err-answer-clause-visited : goal.returns-in_err-answer-clause-visited
returns-in_err-answer-clause-visited g c = grind (arith, elements)

pub returns-in_default-clause-visited : goal.returns-in_default-clause-visited
returns-in_default-clause-visited g c = grind (arith, elements)

pub returns-in_default-clause-asked : goal.returns-in_default-clause-asked
returns-in_default-clause-asked g c = grind (arith, elements)
