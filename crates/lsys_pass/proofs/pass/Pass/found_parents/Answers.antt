use Rattle.std.proofs.Common.{◌≡◌, ℕ, List, false, map, sym, subst, ap, ◌∙◌}
use Rattle.lsys_spec.specs.Rows.{In}
use Rattle.lsys_laws.specs.Children.{is_open}
use Rattle.lsys_children.specs.Answers.{kept_successors}
use Rattle.lsys_children.specs.declared.parent.Parent.{Parent}
use Rattle.lsys_children.specs.Parents.{nodes_in, uncut}
use Rattle.lsys_children.proofs.Walked.{whole_nodes}
use Rattle.lsys_pass.specs.Passes.{PassView, now_in}
use Rattle.lsys_pass.specs.Fresh.{WasAsked, AreNextParents, IsChanged}
use Rattle.lsys_pass.proofs.NextParents.{may_on, lives_at, short, found_are, closed}
use Rattle.lsys_pass.proofs.pass.Pass.found_parents.Goals as goal

pub any_opens-requires-clause-lives : goal.any_opens-requires-clause-lives
any_opens-requires-clause-lives g c =
    let a = subst (λ (v : PassView). WasAsked v c.args.level) (sym c.self.view_is) c.requires.asked in
    λ k i. lives_at _ c.args.level a k (may_on _ c.args.level a k (subst (λ (v : PassView). IsChanged v k) (sym c.self.view_is) ((c.requires.are k).0 i)))

pub any_opens-requires-clause-short : goal.any_opens-requires-clause-short
any_opens-requires-clause-short g c =
    let a = subst (λ (v : PassView). WasAsked v c.args.level) (sym c.self.view_is) c.requires.asked in
    λ k i. short _ c.args.level a k (may_on _ c.args.level a k (subst (λ (v : PassView). IsChanged v k) (sym c.self.view_is) ((c.requires.are k).0 i)))

pub returns-clause-found : goal.returns-clause-found
returns-clause-found g c =
    let none = subst (λ (v : PassView). (k : ℕ) → In k c.args.nodes.now → is_open (kept_successors (now_in v) k) ≡ false) c.self.view_is (c.any_opens.ensures.none c.if-any_opens.false) in
    let s = c.requires.same in
    subst (λ (ps : List Parent). AreNextParents c.args.self.now c.args.level ps) (sym c.in_ok-whole_parents.ensures)
    (found_are c.args.self.now c.args.level c.requires.asked c.args.nodes.now c.requires.once (λ k i. (c.requires.are k).0 i) (λ k m. (c.requires.are k).1 m) s.below s.seed s.numbering s.closed none)

pub returns-clause-either : goal.returns-clause-either
returns-clause-either g c =
    let none = subst (λ (v : PassView). (k : ℕ) → In k c.args.nodes.now → is_open (kept_successors (now_in v) k) ≡ false) c.self.view_is (c.any_opens.ensures.none c.if-any_opens.false) in
    let s = c.requires.same in (
      closed c.args.self.now c.args.level c.requires.asked c.args.nodes.now c.requires.once (λ k i. (c.requires.are k).0 i) (λ k m. (c.requires.are k).1 m) s.below s.seed s.numbering s.closed none,
      c.in_ok-whole_parents.ensures ∙ ap (λ (ks : List ℕ). map uncut ks) (sym (whole_nodes (now_in c.args.self.now) c.args.nodes.now)) ∙ ap (λ (ps : List Parent). map uncut (nodes_in ps)) (sym c.in_ok-whole_parents.ensures),
    )

pub returns-clause-closed : goal.returns-clause-closed
returns-clause-closed g c =
    let none = subst (λ (v : PassView). (k : ℕ) → In k c.args.nodes.now → is_open (kept_successors (now_in v) k) ≡ false) c.self.view_is (c.any_opens.ensures.none c.if-any_opens.false) in
    let s = c.requires.same in
    λ e. closed c.args.self.now c.args.level c.requires.asked c.args.nodes.now c.requires.once (λ k i. (c.requires.are k).0 i) (λ k m. (c.requires.are k).1 m) s.below s.seed s.numbering s.closed none
