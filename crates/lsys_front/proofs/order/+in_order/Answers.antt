use Rattle.std.proofs.Common.{rules, ◌⊎◌, ◌↔◌, ◌/◌, ℕ, length, refl, sym, subst}
use Rattle.std.proofs.lemmas.Result.{IfOk-weaker}
use Rattle.lsys_spec.specs.Rows.{In}
use Rattle.lsys_front.specs.Questioned.{AreInOrder}
use Rattle.lsys_front.specs.Merges.{AreMergeable}
use Rattle.lsys_front.proofs.Merging.{take_apart, rest_apart, front_level, rest_level, mergeable, parts_same}
use Rattle.lsys_front.proofs.order.+in_order.Goals as goal

pub in_order-requires : goal.in_order-requires
in_order-requires g t c κs within = (
  search rules,
  (
    search rules,
    (
      search rules,
      (
        front_level c.args.forest.now c.args.nodes.now (length c.args.nodes.now / 2) c.requires.level,
        take_apart c.args.nodes.now (length c.args.nodes.now / 2) c.requires.apart,
      ),
    ),
  ),
)

pub in_order-requires-2 : goal.in_order-requires-2
in_order-requires-2 g t c κs within = (
  search rules,
  (
    search rules,
    (
      search rules,
      (
        rest_level c.args.forest.now c.args.nodes.now (length c.args.nodes.now / 2) c.requires.level,
        rest_apart c.args.nodes.now (length c.args.nodes.now / 2) c.requires.apart,
      ),
    ),
  ),
)

pub merge-requires-clause-both : goal.merge-requires-clause-both
merge-requires-clause-both g t c =
    let f = c.args.forest.now in
    let xs = c.args.nodes.now in
    let ys = c.in_ok-left.left.items in
    let zs = c.in_ok-right.right.items in
    subst (λ ys. AreMergeable f ys c.deref-2.result.now) (sym c.deref.ensures.value) (subst (AreMergeable f ys) (sym c.deref-2.ensures.value)
    (mergeable f xs (length xs / 2) c.requires.level ys zs c.requires.apart c.in_ok-left.ensures.same c.in_ok-right.ensures.same c.in_ok-left.ensures.order c.in_ok-right.ensures.order))

pub returns-clause-same : goal.returns-clause-same
returns-clause-same g t c =
    let f = c.args.forest.now in
    let xs = c.args.nodes.now in
    let ys = c.in_ok-left.left.items in
    let zs = c.in_ok-right.right.items in
    let found = c.merge.new.merged.items in
    let same = subst (λ ys. (k : ℕ) → In k found ↔ (In k ys ⊎ In k c.deref-2.result.now)) c.deref.ensures.value c.in_ok-merge.ensures.same in
    parts_same f xs (length xs / 2) c.requires.level ys zs c.requires.apart c.in_ok-left.ensures.same c.in_ok-right.ensures.same found
    (subst (λ zs. (k : ℕ) → In k found ↔ (In k ys ⊎ In k zs)) c.deref-2.ensures.value same)

pub returns-then-is_in_order-clause-same : goal.returns-then-is_in_order-clause-same
returns-then-is_in_order-clause-same g t c = IfOk-weaker c.copied.result _ _ (λ found e k. subst (λ xs. In k xs ↔ In k c.args.nodes.now) (sym e) (λ i. i, λ i. i)) c.copied.ensures

pub returns-then-is_in_order-clause-order : goal.returns-then-is_in_order-clause-order
returns-then-is_in_order-clause-order g t c = IfOk-weaker c.copied.result _ _ (λ found e. subst (AreInOrder c.args.forest.now) (sym e) (c.if-is_in_order.ensures.order refl)) c.copied.ensures
