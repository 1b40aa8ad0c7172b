use Rattle.std.proofs.Common.{◌≡◌, ◌+◌, suc, length, map, ap, subst, sym, ◌∙◌, arith}
use Rattle.std.proofs.lemmas.List.{length-map}
use Rattle.lsys_module.specs.Views.{module_name}
use Rattle.lsys_growth.specs.Counting.{given_for}
use Rattle.lsys_growth.proofs.Counts.{RowsOf, next_row, whole_matrix, given_there, whole_entries}
use Rattle.lsys_growth.proofs.tables.step.Goals as goal

pub loop-row-preserved : goal.loop-row-preserved
loop-row-preserved c =
    let s = c.args.system.now in
    let ns = map module_name c.args.letters.now in
    next_row s c.args.level ns c.loop-row.row _ c.loop-row.entries.items c.push_given.new.entries.items
    (ap (given_for s c.args.level) c.letter_at.ensures ∙ given_there s c.args.level ns c.loop-row.row) c.loop-row.invariant c.in_ok-push_given.ensures

pub of_entries-requires : goal.of_entries-requires
of_entries-requires c =
    let s = c.args.system.now in
    let ns = map module_name c.args.letters.now in
    let l = length-map c.args.letters.now module_name in
    let g = c.loop-row-test.false in
    let a = c.loop-row.auto.row-end in
    whole_entries s c.args.level ns c.loop-row.row (length c.args.letters.now + 1) c.loop-row.entries.items (omega (arith, g, a)) (omega (arith, l)) c.loop-row.invariant

pub returns : goal.returns
returns c =
    let s = c.args.system.now in
    let ns = map module_name c.args.letters.now in
    let l = length-map c.args.letters.now module_name in
    let g = c.loop-row-test.false in
    let a = c.loop-row.auto.row-end in
    let e : c.loop-row.row ≡ suc (length ns) = omega (arith, l, g, a) in
    let z = c.of_entries.ensures.size in
    whole_matrix s c.args.level ns c.loop-row.row c.of_entries.result e (omega (arith, z, g, a)) (subst (RowsOf s c.args.level ns c.loop-row.row) (sym c.of_entries.ensures.entries) c.loop-row.invariant)
