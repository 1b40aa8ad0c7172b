use Rattle.std.proofs.Common.{◌+◌, map, subst, sym, arith}
use Rattle.std.specs.Option.{option_map}
use Rattle.std.proofs.lemmas.Grind.{elements, common_steps}
use Rattle.lsys_module.specs.Views.{module_name}
use Rattle.lsys_growth.specs.Counting.{letter_alone}
use Rattle.lsys_growth.proofs.Counts.{CountsTo, next_count}
use Rattle.lsys_growth.proofs.counting.push_alone.Goals as goal

pub loop-place-preserved : goal.loop-place-preserved
loop-place-preserved c =
    let ns = map module_name c.args.letters.now in
    let xs = letter_alone (option_map module_name c.args.symbol.now) in
    let n = next_count ns xs c.loop-place.place c.times_alone-times.result _ c.args.entries.now.items c.loop-place.entries.items (let o = c.times_alone-times.ensures.once in omega (arith, o)) c.letter_at.ensures c.times_alone-times.ensures.times c.loop-place.invariant in
    subst (CountsTo ns xs (c.loop-place.place + 1) c.args.entries.now.items) (sym c.in_ok-push.ensures.items) n

pub returns-in_err-push : goal.returns-in_err-push
returns-in_err-push c = grind (arith, common_steps)

pub returns : goal.returns
returns c = grind (arith, elements)
