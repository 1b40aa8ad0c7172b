use Rattle.std.proofs.Common.{◌≤◌, length, sym, ap, ◌∙◌, subst}
use Rattle.lsys_spec.specs.Systems.{System}
use Rattle.lsys_spec.specs.Meaning.{first_level}
use Rattle.lsys_forest.specs.Groves.{now_of}
use Rattle.lsys_children.specs.Renewals.{AreSmall, AreAllUnder}
use Rattle.lsys_pass.specs.Passes.{PassView, now_in}
use Rattle.lsys_pass.specs.Beginnings.{MakesFirst, WasStill}
use Rattle.lsys_pass.proofs.Beginnings.{was_small, was_under, failed_still, first_fresh, first_goes}
use Rattle.lsys_pass.proofs.pass.Pass.make_first_level.Goals as goal

pub make_first_nodes-requires-clause-small : goal.make_first_nodes-requires-clause-small
make_first_nodes-requires-clause-small g c = subst (λ (v : PassView). AreSmall (now_in v)) (sym c.self.view_is) (was_small c.args.self.now c.requires.still)

pub make_first_nodes-requires-clause-under : goal.make_first_nodes-requires-clause-under
make_first_nodes-requires-clause-under g c = subst (λ (v : PassView). AreAllUnder (now_in v) v.forest.root v.forest.root) (sym c.self.view_is) (was_under c.args.self.now c.requires.still)

pub invariant_of-self-in_err-come_first : goal.invariant_of-self-in_err-come_first
invariant_of-self-in_err-come_first g c =
    failed_still _ c.make_first_nodes.new.forest c.come_first.new.seats _ _ _
    (record { sound = c.come_first.ensures.sound; rest = c.make_first_nodes.ensures.rest; root = c.make_first_nodes.ensures.root; kept = c.make_first_nodes.ensures.kept; few = c.make_first_nodes.ensures.few })
    (record { same = c.come_first.ensures.seats; marks = c.come_first.ensures.marks; keeps = c.come_first.ensures.keeps }) c.self.invariant (ap (λ (v : PassView). v.state) c.self.view_is ∙ c.requires.failed) c.come_first.ensures.rest

pub invariant_of-self-2 : goal.invariant_of-self-2
invariant_of-self-2 g c =
    failed_still _ c.make_first_nodes.new.forest c.come_first.new.seats _ _ _
    (record { sound = c.come_first.ensures.sound; rest = c.make_first_nodes.ensures.rest; root = c.make_first_nodes.ensures.root; kept = c.make_first_nodes.ensures.kept; few = c.make_first_nodes.ensures.few })
    (record { same = c.come_first.ensures.seats; marks = c.come_first.ensures.marks; keeps = c.come_first.ensures.keeps }) c.self.invariant (ap (λ (v : PassView). v.state) c.self.view_is ∙ c.requires.failed) c.come_first.ensures.rest

pub returns-clause-fresh : goal.returns-clause-fresh
returns-clause-fresh g c =
    first_fresh _ c.make_first_nodes.new.forest c.come_first.new.seats c.come_first.new.sizes.rest.items c.come_first.new.sizes.made.items c.come_first.new.front
    (record { sound = c.come_first.ensures.sound; rest = c.make_first_nodes.ensures.rest; root = c.make_first_nodes.ensures.root; kept = c.make_first_nodes.ensures.kept; few = c.make_first_nodes.ensures.few })
    (record { same = c.come_first.ensures.seats; marks = c.come_first.ensures.marks; keeps = c.come_first.ensures.keeps })
    (subst WasStill (sym c.self.view_is) c.requires.still) c.in_ok-told.told
    (subst (λ (y : System). MakesFirst y c.self.inside.limit (now_of c.self.inside.forest) (now_of c.make_first_nodes.new.forest) c.self.inside.forest.root c.in_ok-told.told) c.target.ensures c.in_ok-told.ensures.made)
    c.in_ok-come_first.ensures.room c.in_ok-come_first.ensures.first.told c.in_ok-come_first.ensures.first.looked c.in_ok-come_first.ensures.first.bare

pub returns-clause-goes : goal.returns-clause-goes
returns-clause-goes g c =
    first_goes _ c.make_first_nodes.new.forest c.come_first.new.seats c.come_first.new.sizes.rest.items c.come_first.new.sizes.made.items c.come_first.new.front
    (record { sound = c.come_first.ensures.sound; rest = c.make_first_nodes.ensures.rest; root = c.make_first_nodes.ensures.root; kept = c.make_first_nodes.ensures.kept; few = c.make_first_nodes.ensures.few })
    (record { same = c.come_first.ensures.seats; marks = c.come_first.ensures.marks; keeps = c.come_first.ensures.keeps }) c.in_ok-told.told
    (subst (λ (y : System). MakesFirst y c.self.inside.limit (now_of c.self.inside.forest) (now_of c.make_first_nodes.new.forest) c.self.inside.forest.root c.in_ok-told.told) c.target.ensures c.in_ok-told.ensures.made)
    c.args.self.now c.self.view_is

pub returns-clause-within : goal.returns-clause-within
returns-clause-within g c =
    subst (λ (v : PassView). length (first_level v.next) ≤ v.limit) c.self.view_is
    (subst (λ (y : System). length (first_level y) ≤ c.self.inside.limit) c.target.ensures c.in_ok-told.ensures.made.within)
