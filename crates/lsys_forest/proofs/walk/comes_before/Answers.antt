use Rattle.std.proofs.Common.{◌≡◌, ◌-◌, ◌<◌, ◌∙◌, ℕ, List, Some, sym, arith, refl}
use Rattle.lsys_forest.specs.declared.walk.Way.TheVariants.{Right}
use Rattle.lsys_spec.specs.Rows.{first_in}
use Rattle.lsys_forest.specs.Stocks.{nodes_of, changes_of}
use Rattle.lsys_forest.specs.Rows.{index_in, level_nodes}
use Rattle.lsys_forest.proofs.RowLemmas.{In_split, level_apart}
use Rattle.lsys_forest.proofs.PlaceLemmas.{next_comes}
use Rattle.lsys_forest.proofs.walk.comes_before.Goals as goal

pub returns-then-is_linked_to : goal.returns-then-is_linked_to
returns-then-is_linked_to g c =
    let p = c.args.parts.now in
    let row : List ℕ = level_nodes (nodes_of p) c.args.root (c.args.depth - 1) in
    let s = In_split c.args.one row c.requires.one in
    let apart = level_apart c.args.root (changes_of p) (nodes_of p) c.requires.sound (c.args.depth - 1) in
    let told = c.is_linked_to.ensures c.if-is_linked_to.true in
    let next : first_in s.1 ≡ Some c.args.two = sym (c.requires.linked (c.args.depth - 1) c.args.one Right s.0 s.1 (omega (arith, c.if-depth-linked.true, c.requires.below)) s.2) ∙ told in
    let less : index_in c.args.one row < index_in c.args.two row = next_comes row s.0 s.1 c.args.one c.args.two apart s.2 next in
    (λ h. less, λ h. refl)
