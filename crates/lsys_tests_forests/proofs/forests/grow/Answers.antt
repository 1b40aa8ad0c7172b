use Rattle.std.proofs.Common.{◌≡◌, ◌+◌, [], Some, None, sym, ap, ◌∙◌, subst}
use Rattle.std.specs.Prelude.{IsSome}
use Rattle.lsys_level.specs.Places.{seen_in}
use Rattle.lsys_forest.specs.Nodes.{Nodes, with_node}
use Rattle.lsys_forest.specs.Groves.{now_of}
use Rattle.lsys_forest.proofs.SoundLemmas.{some_of}
use Rattle.lsys_tests_forests.specs.declared.forests.Numbered.{Numbered}
use Rattle.lsys_tests_forests.proofs.forests.grow.Goals as goal

pub add-requires-clause-parent : goal.add-requires-clause-parent
add-requires-clause-parent g c = subst (λ (m : Nodes Numbered). IsSome (m c.args.parent)) (sym c.reserve.ensures.now) c.requires.parent

pub returns-clause-root : goal.returns-clause-root
returns-clause-root g c =
    let s = some_of (now_of c.args.forest.now c.args.parent) c.requires.parent in
    (c.add.ensures.added s.0 (ap (λ (m : Nodes Numbered). m c.args.parent) c.reserve.ensures.now ∙ s.1)).root ∙ c.reserve.ensures.root

pub returns-clause-fresh : goal.returns-clause-fresh
returns-clause-fresh g c = ap (λ (m : Nodes Numbered). m c.add.result) (sym c.reserve.ensures.now) ∙ c.add.ensures.new

pub returns-clause-added : goal.returns-clause-added
returns-clause-added g c = λ p is.
    let e = (c.add.ensures.added p (ap (λ (m : Nodes Numbered). m c.args.parent) c.reserve.ensures.now ∙ is)).now in
    subst (λ (m : Nodes Numbered). now_of c.add.new.self ≡ with_node m c.add.result (Some (record {
      parent = c.args.parent;
      code = 0;
      count = c.args.count;
      depth = p.depth + 1;
      seen = seen_in c.args.symbol.now;
      key = 0;
      kids = [];
      answer = None;
    }))) c.reserve.ensures.now e
