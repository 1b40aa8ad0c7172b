use Rattle.std.proofs.Common.{List, length, sym, ap, ◌∙◌, subst}
use Rattle.lsys_module.specs.Views.{string_of}
use Rattle.lsys_forest.specs.Groves.{now_of}
use Rattle.lsys_reading.specs.Commands.{numbering_of}
use Rattle.lsys_children.specs.declared.child.Child.{Child}
use Rattle.lsys_children.specs.Wishes.{AreWanted}
use Rattle.lsys_children.proofs.Among.{some_is}
use Rattle.lsys_children.proofs.Roots.{counted_below}
use Rattle.lsys_children.proofs.first.count_first.Goals as goal

pub count-requires-clause-lives : goal.count-requires-clause-lives
count-requires-clause-lives g c =
    let m = now_of c.args.forest.now in
    let top = c.root-root.ensures.sound.root_lives in
    some_is (m c.root-root.result) top.0 (ap m c.root-root.ensures.root ∙ top.1)

pub children-requires : goal.children-requires
children-requires g c =
    let m = now_of c.args.forest.now in
    let top = c.root-root.ensures.sound.root_lives in
    some_is (m c.root-root.result) top.0 (ap m c.root-root.ensures.root ∙ top.1)

pub returns : goal.returns
returns g c =
    let m = now_of c.args.forest.now in
    let numbering = numbering_of c.args.numbering in
    let zs = string_of c.args.symbols.now in
    let top = c.root-root.ensures.sound.root_lives in
    let is = ap m c.root-root.ensures.root ∙ top.1 in
    let wanted = subst (λ (ws : List Child). AreWanted numbering c.args.seed zs ws) (sym c.children-children.ensures) c.in_ok-fill.ensures.wanted in
    counted_below numbering c.args.seed zs c.children-children.result.now m c.args.forest.now.root top.0 c.in_ok-need.need (length c.children.result.now) top.1 wanted (c.in_ok-need.ensures.need top.0 is) (ap length (c.children.ensures.kids top.0 is))
