use Rattle.std.proofs.Common.{rules, refl, [], ◌≡◌, ◌+◌, ◌++◌, Some, sym, ap, ◌∙◌, subst, arith}
use Rattle.std.specs.Prelude.{slice_get}
use Rattle.std.proofs.lemmas.Option.{slice_get-get_or}
use Rattle.lsys_spec.specs.Levels.{lineage}
use Rattle.lsys_spec.specs.Meaning.{children}
use Rattle.lsys_module.specs.Views.{string_of}
use Rattle.lsys_reading.specs.Commands.{numbering_of}
use Rattle.lsys_flat.specs.Grown.{Grown, with_children, HasGrown}
use Rattle.lsys_flat.proofs.Extending.{AreAdded, children_grown, one_parent, all_added, one_added, small_origin}
use Rattle.lsys_flat.proofs.made.Made.add_children.Goals as goal

pub add_child-requires-clause-few : goal.add_child-requires-clause-few
add_child-requires-clause-few c =
    let place = c.loop-symbol.symbol-index in
    let same = ap numbering_of c.loop-symbol.invariant.numbering in
    small_origin (numbering_of c.args.numbers.now.numbering) c.self.inside.parents c.args.key c.args.successor.now _ place c.loop-symbol.numbers c.loop-symbol.self c.symbol-item.result c.in_ok-origin.origin
    c.loop-symbol.invariant.added (let l = c.loop-symbol-test.true in let few = c.requires.few in omega (arith, l, few)) (rw same at c.in_ok-origin.ensures.origin)

pub loop-symbol-preserved : goal.loop-symbol-preserved
loop-symbol-preserved c =
    let place = c.loop-symbol.symbol-index in
    let same = ap numbering_of c.loop-symbol.invariant.numbering in
    let there : slice_get c.args.successor.now place ≡ Some c.symbol-item.result = slice_get-get_or c.args.successor.now place c.symbol-item.result c.loop-symbol-test.true ∙ ap Some (sym c.symbol-item.is) in
    record {
      numbering = search rules;
      added = one_added (numbering_of c.args.numbers.now.numbering) c.self.inside.parents c.args.key c.args.successor.now _ place c.loop-symbol.numbers c.next.new.self c.loop-symbol.self c.add_child.new.self c.symbol-item.result c.in_ok-origin.origin
          c.loop-symbol.invariant.added there (rw same at c.in_ok-origin.ensures.origin) c.in_ok-origin.ensures.after c.in_ok-add_child.ensures.added;
      depth = search rules;
      parents = search rules;
      room = search rules;
    }

pub returns-clause-added : goal.returns-clause-added
returns-clause-added c seed above raw parent h g k =
    let g0 = numbering_of c.args.numbers.now.numbering in
    let place = c.self.inside.parents in
    let same : place ≡ c.args.self.now.parents = ap (λ (g : Grown). g.parents) c.self.view_is in
    let ss = c.args.successor.now in
    let first : Grown = record c.args.self.now { parents = place + 1 } in
    let done : AreAdded g0 place c.args.key ss first c.loop-symbol.symbol-index c.loop-symbol.numbers c.loop-symbol.self = c.loop-symbol.invariant.added in
    let all : c.loop-symbol.self ≡ with_children g0 place c.args.key 0 [] ss first = all_added g0 place c.args.key c.loop-symbol.symbol-index done.before ss c.loop-symbol.self _ c.loop-symbol-test.false done.told in
    subst (HasGrown seed above (raw ++ children g0 (lineage parent) (string_of ss))) (sym all)
    (children_grown g0 seed above place c.args.key parent (subst (λ n. slice_get above n ≡ Some parent) (sym same) g) k 0 [] ss raw first refl (let few = c.requires.few in omega (arith, few)) (one_parent seed above raw c.args.self.now (place + 1) h))
