use Rattle.std.proofs.Common.{arith, ℕ, sym, subst}
use Rattle.std.proofs.lemmas.Result.{IfOk-weaker}
use Rattle.std.proofs.lemmas.Grind.{common_steps}
use Rattle.lsys_spec.specs.Rows.{In}
use Rattle.lsys_forest.specs.Rows.{place_of_node}
use Rattle.lsys_front.specs.Questioned.{AreOnOneLevel}
use Rattle.lsys_front.specs.Asks.{MayBeAsked}
use Rattle.lsys_front.proofs.Called.{called_are, called_all, asked_level, asked_are, placed_apart}
use Rattle.lsys_front.proofs.front.Front.asked.Goals as goal

pub add_asked-requires : goal.add_asked-requires
add_asked-requires g c = λ k i.
    let kind : ℕ → Type 0 = MayBeAsked c.args.self.now c.args.found.now.beside.items c.args.found.now.readers.items c.args.others.now in
    c.requires.level.lives k
    (called_are kind c.args.seats.now c.gather-outcome.new.seats c.new-nodes.result.items c.gather-outcome.new.nodes.items c.new-nodes.ensures.items c.gather-outcome.ensures.gathers k (subst (In k) c.deref-2.ensures.value i))

pub in_order-requires-clause-level : goal.in_order-requires-clause-level
in_order-requires-clause-level g c =
    let kind : ℕ → Type 0 = MayBeAsked c.args.self.now c.args.found.now.beside.items c.args.found.now.readers.items c.args.others.now in
    subst (AreOnOneLevel c.args.forest.now) (sym c.deref-3.ensures.value)
    (asked_level c.args.forest.now c.args.system.now c.args.level kind c.deref-2.result.now c.new-asked.result.items c.add_asked.new.asked.items
    (λ k i. called_are kind c.args.seats.now c.gather-outcome.new.seats c.new-nodes.result.items c.gather-outcome.new.nodes.items c.new-nodes.ensures.items c.gather-outcome.ensures.gathers k (subst (In k) c.deref-2.ensures.value i))
    c.new-asked.ensures.items c.in_ok-add_asked.ensures c.requires.level)

pub returns-clause-are : goal.returns-clause-are
returns-clause-are g c =
    let kind : ℕ → Type 0 = MayBeAsked c.args.self.now c.args.found.now.beside.items c.args.found.now.readers.items c.args.others.now in
    IfOk-weaker c.in_order.result _ _ (λ ks same.
    asked_are c.args.forest.now c.args.system.now c.args.level kind c.deref-2.result.now c.new-asked.result.items c.add_asked.new.asked.items
    (λ k i. called_are kind c.args.seats.now c.gather-outcome.new.seats c.new-nodes.result.items c.gather-outcome.new.nodes.items c.new-nodes.ensures.items c.gather-outcome.ensures.gathers k (subst (In k) c.deref-2.ensures.value i))
    c.new-asked.ensures.items c.in_ok-add_asked.ensures ks.items
    (λ k. (λ i. subst (In k) c.deref-3.ensures.value ((same k).0 i), λ i. (same k).1 (subst (In k) (sym c.deref-3.ensures.value) i)))
    (λ k h. subst (In k) (sym c.deref-2.ensures.value)
    (called_all kind c.args.seats.now c.gather-outcome.new.seats c.new-nodes.result.items c.gather-outcome.new.nodes.items c.new-nodes.ensures.items c.gather-outcome.ensures.gathers c.requires.clear c.in_ok-outcome.ensures.all k h))
    ) c.in_order.ensures.same

pub returns-clause-once : goal.returns-clause-once
returns-clause-once g c = IfOk-weaker c.in_order.result _ _ (λ ks order. placed_apart (place_of_node c.args.forest.now) ks.items order) c.in_order.ensures.order

pub returns-in_err-outcome-clause-clear : goal.returns-in_err-outcome-clause-clear
returns-in_err-outcome-clause-clear g c = grind (arith, common_steps)

pub returns-clause-clear : goal.returns-clause-clear
returns-clause-clear g c = grind (arith, common_steps)
