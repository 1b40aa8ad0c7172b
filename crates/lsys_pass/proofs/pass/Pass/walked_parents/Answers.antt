use Rattle.std.proofs.Common.{◌<◌, ◌^◌, ◌++◌, ℕ, List, None, length, sym, subst, ap, ◌∙◌}
use Rattle.lsys_spec.specs.Rows.{In}
use Rattle.lsys_match.specs.Kept.{Kept}
use Rattle.lsys_forest.specs.Nodes.{Nodes}
use Rattle.lsys_forest.specs.Groves.{now_of}
use Rattle.lsys_children.specs.declared.parent.Parent.{Parent}
use Rattle.lsys_children.specs.Parents.{cut_parents}
use Rattle.lsys_pass.specs.Passes.{PassView, now_in}
use Rattle.lsys_pass.specs.Fresh.{WasAsked, row_of, AreNextParents}
use Rattle.lsys_pass.proofs.NextParents.{complete, few, short, walked_are, lives_at}
use Rattle.lsys_pass.proofs.pass.Pass.walked_parents.Goals as goal

pub list_level-requires : goal.list_level-requires
list_level-requires g c = complete _ c.args.level (subst (λ (v : PassView). WasAsked v c.args.level) (sym c.self.view_is) c.requires.asked)

pub walk_parents-requires-clause-lives : goal.walk_parents-requires-clause-lives
walk_parents-requires-clause-lives g c =
    let a = subst (λ (v : PassView). WasAsked v c.args.level) (sym c.self.view_is) c.requires.asked in
    λ k i. lives_at _ c.args.level a k (subst (In k) (c.deref.ensures.value ∙ c.in_ok-list_level.ensures) i)

pub walk_parents-requires-clause-short : goal.walk_parents-requires-clause-short
walk_parents-requires-clause-short g c =
    let a = subst (λ (v : PassView). WasAsked v c.args.level) (sym c.self.view_is) c.requires.asked in
    λ k i. short _ c.args.level a k (subst (In k) (c.deref.ensures.value ∙ c.in_ok-list_level.ensures) i)

pub walk_parents-requires-clause-few : goal.walk_parents-requires-clause-few
walk_parents-requires-clause-few g c =
    let a = subst (λ (v : PassView). WasAsked v c.args.level) (sym c.self.view_is) c.requires.asked in
    subst (λ (ks : List ℕ). length ks < 2 ^ 32) (sym (c.deref.ensures.value ∙ c.in_ok-list_level.ensures)) (few _ c.args.level a)

pub returns-clause-found : goal.returns-clause-found
returns-clause-found g c =
    let v : PassView = c.args.self.now in
    let m : Nodes Kept = now_of c.self.inside.forest in
    let nodes = c.deref.ensures.value ∙ c.in_ok-list_level.ensures in
    let list = c.in_ok-is_open.ensures.parents ∙ ap (λ (ps : List Parent). ps ++ cut_parents m None c.deref.result.now) c.new-list.ensures.items ∙ ap (λ (ks : List ℕ). cut_parents m None ks) nodes ∙ ap (λ (w : PassView). cut_parents (now_in w) None (row_of w c.args.level)) c.self.view_is in
    subst (λ (ps : List Parent). AreNextParents v c.args.level ps) (sym list) (walked_are v c.args.level c.requires.asked)
