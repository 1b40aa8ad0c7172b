use Rattle.std.proofs.Common.{◌≡◌, ◌-◌, ℕ, List, length, take, drop, sym, subst, ap, ◌∙◌}
use Rattle.lsys_reads.specs.Seats.{HasSeat}
use Rattle.lsys_front.specs.Fronts.{MayHaveOthers}
use Rattle.lsys_pass.specs.Passes.{PassView}
use Rattle.lsys_pass.specs.Fresh.{WasAsked}
use Rattle.lsys_pass.proofs.NextParents.{may_seat}
use Rattle.lsys_pass.proofs.Marked.{was_marked, failed_marked, slice_rest}
use Rattle.lsys_pass.proofs.pass.Pass.changed_nodes.Goals as goal

pub parents-requires-clause-room : goal.parents-requires-clause-room
parents-requires-clause-room g c =
    let a = subst (λ (v : PassView). WasAsked v c.args.level) (sym c.self.view_is) c.requires.asked in
    let n = c.self.inside.work.first_renewed in
    let xs : List ℕ = c.deref.result.now in
    λ k m. may_seat _ c.args.level a k (subst (λ (ys : List ℕ). MayHaveOthers c.self.inside.work.front ys k) (slice_rest n xs ∙ ap (λ (ys : List ℕ). drop n ys) c.deref.ensures.value) m)

pub invariant_of-self : goal.invariant_of-self
invariant_of-self g c = failed_marked _ c.parents.new.seats c.parents.ensures.seats c.parents.ensures.keeps (ap (λ (v : PassView). v.state) c.self.view_is ∙ c.requires.failed) c.self.invariant c.parents.ensures.clear

pub returns-in_err-nodes-clause-asked : goal.returns-in_err-nodes-clause-asked
returns-in_err-nodes-clause-asked g c =
    was_marked _ c.parents.new.seats c.parents.ensures.seats c.parents.ensures.keeps c.args.level c.parents.ensures.clear (subst (λ (v : PassView). WasAsked v c.args.level) (sym c.self.view_is) c.requires.asked)

pub returns-in_err-nodes-clause-keeps : goal.returns-in_err-nodes-clause-keeps
returns-in_err-nodes-clause-keeps g c = λ k h. c.parents.ensures.keeps k (subst (λ (v : PassView). HasSeat v.seats k) (sym c.self.view_is) h)

pub invariant_of-self-2 : goal.invariant_of-self-2
invariant_of-self-2 g c = failed_marked _ c.parents.new.seats c.parents.ensures.seats c.parents.ensures.keeps (ap (λ (v : PassView). v.state) c.self.view_is ∙ c.requires.failed) c.self.invariant c.parents.ensures.clear

pub returns-clause-are : goal.returns-clause-are
returns-clause-are g c =
    let n = c.self.inside.work.first_renewed in
    let xs : List ℕ = c.deref.result.now in
    let same : take (length xs - n) (drop n xs) ≡ drop n c.self.inside.work.renewed.items = slice_rest n xs ∙ ap (λ (ys : List ℕ). drop n ys) c.deref.ensures.value in
    λ k. (
      λ i. subst (λ (ys : List ℕ). MayHaveOthers c.self.inside.work.front ys k) same ((c.in_ok-nodes.ensures.are k).0 i),
      λ m. (c.in_ok-nodes.ensures.are k).1 (subst (λ (ys : List ℕ). MayHaveOthers c.self.inside.work.front ys k) (sym same) m),
    )

pub returns-clause-asked : goal.returns-clause-asked
returns-clause-asked g c =
    was_marked _ c.parents.new.seats c.parents.ensures.seats c.parents.ensures.keeps c.args.level c.parents.ensures.clear (subst (λ (v : PassView). WasAsked v c.args.level) (sym c.self.view_is) c.requires.asked)

pub returns-clause-keeps : goal.returns-clause-keeps
returns-clause-keeps g c = λ k h. c.parents.ensures.keeps k (subst (λ (v : PassView). HasSeat v.seats k) (sym c.self.view_is) h)
