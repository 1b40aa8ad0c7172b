use Rattle.std.proofs.Common.{rules, true, ◌≡◌, ◌∙◌, ℕ, List, length, refl, subst}
use Rattle.lsys_level.specs.Spots.{spots_at}
use Rattle.lsys_match.specs.Answered.{CountsEntries, trace_told}
use Rattle.lsys_match.specs.Asking.{is_plain, posed_by, site_at, told_for}
use Rattle.lsys_match.specs.Sites.{Site}
use Rattle.lsys_match.specs.Telling.{IsTellingOf}
use Rattle.lsys_match.proofs.Plain.{counts_plain}
use Rattle.lsys_match.proofs.posed.Posed.tell_at.Goals as goal

pub returns-then-is_plain-clause-told : goal.returns-then-is_plain-clause-told
returns-then-is_plain-clause-told g c =
    let site : Site = site_at c.args.by.now.system c.args.by.now.level (spots_at (g.W.LevelView.levels c.args.view.now) (g.W.LevelView.level_of c.args.view.now c.args.spot)) (g.W.LevelView.place_of c.args.view.now c.args.spot) (posed_by c.args.self.now).own in
    c.tell_plain.ensures site refl

pub returns-then-is_plain-clause-visited : goal.returns-then-is_plain-clause-visited
returns-then-is_plain-clause-visited g c =
    let site : Site = site_at c.args.by.now.system c.args.by.now.level (spots_at (g.W.LevelView.levels c.args.view.now) (g.W.LevelView.level_of c.args.view.now c.args.spot)) (g.W.LevelView.place_of c.args.view.now c.args.spot) (posed_by c.args.self.now).own in
    let plain : is_plain (posed_by c.args.self.now) ≡ true = search rules in
    λ naming. counts_plain naming site (posed_by c.args.self.now) c.args.visited.now c.tell_plain.result plain

pub returns-clause-told : goal.returns-clause-told
returns-clause-told g c =
    let site : Site = site_at c.args.by.now.system c.args.by.now.level (spots_at (g.W.LevelView.levels c.args.view.now) (g.W.LevelView.level_of c.args.view.now c.args.spot)) (g.W.LevelView.place_of c.args.view.now c.args.spot) (posed_by c.args.self.now).own in
    let e : c.new-site.result ≡ site = (λ i. record { row = c.new-site.ensures.row i; place = c.new-site.ensures.place i; own = c.new-site.ensures.own i; filter = (c.new-site.ensures.filter ∙ c.filter.ensures.found) i }) in
    subst (λ (site : Site). IsTellingOf c.args.self.now site c.args.old c.tell.result) e c.tell.ensures.told

pub returns-clause-visited : goal.returns-clause-visited
returns-clause-visited g c =
    let site : Site = site_at c.args.by.now.system c.args.by.now.level (spots_at (g.W.LevelView.levels c.args.view.now) (g.W.LevelView.level_of c.args.view.now c.args.spot)) (g.W.LevelView.place_of c.args.view.now c.args.spot) (posed_by c.args.self.now).own in
    let e : c.new-site.result ≡ site = (λ i. record { row = c.new-site.ensures.row i; place = c.new-site.ensures.place i; own = c.new-site.ensures.own i; filter = (c.new-site.ensures.filter ∙ c.filter.ensures.found) i }) in
    subst (λ (site : Site). (naming : ℕ → List ℕ) → CountsEntries (length (trace_told (told_for naming site (posed_by c.args.self.now)))) c.args.visited.now c.tell.new.visited c.tell.result) e c.tell.ensures.visited
