use Rattle.std.proofs.Common.{◌+◌, map, subst, sym, arith}
use Rattle.std.proofs.lemmas.Grind.{elements}
use Rattle.lsys_module.specs.Views.{module_name}
use Rattle.lsys_bodies.specs.Views.{template_symbol}
use Rattle.lsys_growth.proofs.Counts.{CountsTo, next_count}
use Rattle.lsys_growth.proofs.counting.push_successor.Goals as goal

pub loop-place-preserved : goal.loop-place-preserved
loop-place-preserved c =
    let ns = map module_name c.args.letters.now in
    let xs = map template_symbol c.args.templates.now in
    let n = next_count ns xs c.loop-place.place c.times_in_successor-times.result _ c.args.entries.now.items c.loop-place.entries.items (omega arith) c.letter_at.ensures c.times_in_successor-times.ensures c.loop-place.invariant in
    subst (CountsTo ns xs (c.loop-place.place + 1) c.args.entries.now.items) (sym c.in_ok-push.ensures.items) n

pub returns : goal.returns
returns c = grind (arith, elements)
