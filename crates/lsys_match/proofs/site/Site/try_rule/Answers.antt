use Rattle.std.proofs.Common.{◌≡◌, subst, refl, sym, ap, ◌∙◌}
use Rattle.lsys_bodies.specs.Views.{body_value}
use Rattle.lsys_level.specs.Spots.{spots_at}
use Rattle.lsys_walks.specs.Views.{module_named}
use Rattle.lsys_walks.proofs.Told.{on_err}
use Rattle.lsys_match.specs.Tries.{decided_by, outcome_by, IsTried, entries_by, tried_so_far}
use Rattle.lsys_match.specs.Groups.{meant}
use Rattle.lsys_match.specs.Sites.{rule_told}
use Rattle.lsys_walks.specs.Walked.{ReadsFront}
use Rattle.lsys_match.proofs.Trying.{tried_there, front_there}
use Rattle.lsys_match.proofs.site.Site.try_rule.Goals as goal

pub returns-in_err-walked-clause-refused : goal.returns-in_err-walked-clause-refused
returns-in_err-walked-clause-refused g c =
    let same : body_value c.get-body.result.now ≡ meant c.args.body.now = ap body_value c.get-body.ensures.body ∙ sym c.get-body.ensures.built.means in
    λ naming. on_err _ _ (subst (λ b. ReadsFront (rule_told naming c.args.self.now (tried_so_far c.args.place c.args.trace.now.read) b) (entries_by naming c.args.trace.now.read) (entries_by naming c.context_reads.new.trace.read)) same (front_there c.args.self.now (spots_at (g.W.LevelView.levels c.self.inside.view.now) (g.W.LevelView.level_of c.self.inside.view.now c.self.inside.spot)) (g.W.LevelView.place_of c.self.inside.view.now c.self.inside.spot) c.self.inside.name c.self.inside.params.now c.self.inside.filter c.args.place (body_value c.get-body.result.now) c.args.trace.now.read c.context_reads.new.trace.read naming (sym c.self.view_is) (c.in_err-walked.ensures.refused (module_named c.self.inside.name c.self.inside.params.now) refl naming)))

pub returns-clause-tried : goal.returns-clause-tried
returns-clause-tried g c =
    let o : outcome_by c.decide.result c.context_reads.new.bound.items ≡ decided_by c.in_ok-walked.walked (body_value c.get-body.result.now) c.context_reads.new.bound.items =
    subst (λ vs. outcome_by c.decide.result vs ≡ decided_by c.in_ok-walked.walked (body_value c.get-body.result.now) vs) c.deref.ensures.value c.decide.ensures in
    let same : body_value c.get-body.result.now ≡ meant c.args.body.now = ap body_value c.get-body.ensures.body ∙ sym c.get-body.ensures.built.means in
    λ naming. subst (λ b. IsTried (rule_told naming c.args.self.now (tried_so_far c.args.place c.args.trace.now.read) b) (tried_so_far c.args.place c.args.trace.now.read) b (entries_by naming c.args.trace.now.read) (entries_by naming c.context_reads.new.trace.read) (outcome_by c.decide.result c.context_reads.new.bound.items)) same (tried_there c.args.self.now (spots_at (g.W.LevelView.levels c.self.inside.view.now) (g.W.LevelView.level_of c.self.inside.view.now c.self.inside.spot)) (g.W.LevelView.place_of c.self.inside.view.now c.self.inside.spot) c.self.inside.name c.self.inside.params.now c.self.inside.filter c.args.place (body_value c.get-body.result.now) c.args.trace.now.read c.context_reads.new.trace.read naming (sym c.self.view_is) c.context_reads.new.bound.items c.in_ok-walked.walked (outcome_by c.decide.result c.context_reads.new.bound.items) o (c.in_ok-walked.ensures.told (module_named c.self.inside.name c.self.inside.params.now) refl naming))
