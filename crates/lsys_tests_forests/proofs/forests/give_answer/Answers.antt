use Rattle.std.proofs.Common.{◌≡◌, Some, refl, sym, ap, ◌∙◌, subst}
use Rattle.std.specs.Prelude.{IsSome}
use Rattle.lsys_forest.specs.Nodes.{Node, Nodes, root_node}
use Rattle.lsys_forest.specs.Groves.{now_of}
use Rattle.lsys_tests_forests.specs.declared.forests.Numbered.{Numbered}
use Rattle.lsys_tests_forests.proofs.forests.give_answer.Goals as goal

pub set_answer-requires-clause-lives : goal.set_answer-requires-clause-lives
set_answer-requires-clause-lives g c =
    let top : Node Numbered = root_node c.args.forest.now.root in
    let here : now_of c.reserve.new.self c.root-root.result ≡ Some top = ap (λ (m : Nodes Numbered). m c.root-root.result) c.reserve.ensures.now ∙ ap (now_of c.args.forest.now) c.root-root.ensures.root ∙ c.requires.alone in
    subst IsSome (sym here) refl
