use Rattle.std.proofs.Common.{rules, ◌≡◌, Some, sym, ap, ◌∙◌, arith}
use Rattle.std.specs.Prelude.{slice_get}
use Rattle.std.proofs.lemmas.Option.{slice_get-get_or}
use Rattle.lsys_spec.specs.Numbers.{code_of}
use Rattle.lsys_module.specs.Views.{symbol_of}
use Rattle.lsys_reading.specs.Commands.{numbering_of}
use Rattle.lsys_children.proofs.Filling.{one_filled, small_number, filled_wanted}
use Rattle.lsys_children.proofs.Cutting.{depth_after, depth_fits}
use Rattle.lsys_children.proofs.wanted.Wanted.fill.Goals as goal

pub loop-symbol-preserved : goal.loop-symbol-preserved
loop-symbol-preserved c =
    let at = c.loop-symbol.symbol-index in
    let same = ap numbering_of c.loop-symbol.invariant.numbering in
    let there : slice_get c.args.successor.now at ≡ Some c.symbol-item.result = slice_get-get_or c.args.successor.now at c.symbol-item.result c.loop-symbol-test.true ∙ ap Some (sym c.symbol-item.is) in
    record {
      numbering = search rules;
      filled = rw (c.in_ok-put_child.ensures, c.next_cutting-cutting.ensures) (one_filled (numbering_of c.args.numbering) c.args.key c.args.successor.now at c.loop-symbol.self-inside.numbers c.next.new.self c.loop-symbol.self-inside.children.items
          c.loop-symbol.cutting c.symbol-item.result c.in_ok-number.number c.loop-symbol.invariant.filled there (rw same at c.in_ok-number.ensures.number) c.in_ok-number.ensures.after);
      depth = rw (c.next_cutting-cutting.ensures) (depth_after c.loop-symbol.cutting c.symbol-item.result at c.loop-symbol.invariant.depth);
    }

pub put_child-requires : goal.put_child-requires
put_child-requires c =
    let at = c.loop-symbol.symbol-index in
    let same = ap numbering_of c.loop-symbol.invariant.numbering in
    record {
      small = small_number (numbering_of c.args.numbering) c.args.key c.args.successor.now at c.loop-symbol.self-inside.numbers c.loop-symbol.self-inside.children.items c.loop-symbol.cutting
          (code_of (symbol_of c.symbol-item.result)) c.in_ok-number.number c.loop-symbol.invariant.filled (let l = c.loop-symbol-test.true in let few = c.requires.few in omega (arith, l, few)) (rw same at c.in_ok-number.ensures.number);
    }

pub next_cutting-cutting-requires : goal.next_cutting-cutting-requires
next_cutting-cutting-requires c = depth_fits c.loop-symbol.cutting c.loop-symbol.symbol-index c.loop-symbol.invariant.depth (let l = c.loop-symbol-test.true in let few = c.requires.few in omega (arith, l, few))

pub returns : goal.returns
returns c = record {
  wanted = filled_wanted (numbering_of c.args.numbering) c.args.key c.args.successor.now c.loop-symbol.symbol-index c.loop-symbol.self-inside.numbers c.loop-symbol.self-inside.children.items c.loop-symbol.cutting
      c.loop-symbol.invariant.filled c.loop-symbol-test.false c.requires.few;
}
