use Rattle.std.proofs.Common.{◌≡◌, ℕ, not, cond, true, refl, subst}
use Rattle.std.specs.Ordering.{nat_cmp, is_eq}
use Rattle.std.specs.BTreeSet.{contains}
use Rattle.lsys_bodies.proofs.Adding.{adds-formal}
use Rattle.lsys_bodies.proofs.formals.FormalNames.add_formal.Goals as goal

pub returns : goal.returns
returns c k =
    let old = c.args.self.now.numbers in
    let new = c.insert.new.self in
    let same = c.number.ensures.number in
    adds-formal c.args.self.now _ c.args.name k c.in_ok-is_new.is_new c.number.ensures.name
    (subst (λ (n : ℕ). c.in_ok-is_new.is_new ≡ not (contains nat_cmp old n)) same c.in_ok-is_new.ensures.added)
    (λ q. subst (λ (n : ℕ). contains nat_cmp new q ≡ cond (is_eq (nat_cmp n q)) true (contains nat_cmp old q)) same (c.in_ok-is_new.ensures.updates.0 q))
    c.first_repeated-self.ensures refl
