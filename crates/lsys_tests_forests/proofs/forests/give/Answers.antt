use Rattle.std.proofs.Common.{◌≡◌, Some, sym, ap, ◌∙◌, subst}
use Rattle.std.specs.Prelude.{IsSome}
use Rattle.lsys_forest.specs.Nodes.{Nodes, with_node, with_kids}
use Rattle.lsys_forest.specs.Groves.{now_of}
use Rattle.lsys_forest.proofs.SoundLemmas.{some_of}
use Rattle.lsys_tests_forests.specs.declared.forests.Numbered.{Numbered}
use Rattle.lsys_tests_forests.proofs.forests.give.Goals as goal

pub set_children-requires-clause-lives : goal.set_children-requires-clause-lives
set_children-requires-clause-lives g c = subst (λ (m : Nodes Numbered). IsSome (m c.args.node)) (sym c.reserve.ensures.now) c.requires.lives

pub returns-clause-root : goal.returns-clause-root
returns-clause-root g c =
    let s = some_of (now_of c.args.forest.now c.args.node) c.requires.lives in
    (c.set_children.ensures.set s.0 (ap (λ (m : Nodes Numbered). m c.args.node) c.reserve.ensures.now ∙ s.1)).root ∙ c.reserve.ensures.root

pub returns-clause-set : goal.returns-clause-set
returns-clause-set g c = λ n is.
    let e = (c.set_children.ensures.set n (ap (λ (m : Nodes Numbered). m c.args.node) c.reserve.ensures.now ∙ is)).now in
    subst (λ (m : Nodes Numbered). now_of c.set_children.new.self ≡ with_node m c.args.node (Some (with_kids c.args.kids.now n))) c.reserve.ensures.now e
