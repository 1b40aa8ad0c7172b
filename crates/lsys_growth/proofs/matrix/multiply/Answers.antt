use Rattle.std.proofs.Common.{arith, ◌≡◌, ◌+◌, ◌<◌, ap, sym, ◌∙◌, subst}
use Rattle.std.proofs.lemmas.Grind.{common_steps, elements}
use Rattle.lsys_growth.specs.Matrices.{Square}
use Rattle.lsys_growth.proofs.Stopping.{RowsTo, next_row}
use Rattle.lsys_growth.proofs.matrix.multiply.Goals as goal

pub loop-i-preserved : goal.loop-i-preserved
loop-i-preserved g c =
    let v : Square = record { size = c.a.inside.size; entries = c.a.inside.entries.items } in
    let is : v ≡ c.args.a.now = c.a.view_is in
    let r : RowsTo v c.loop-i.i c.args.b.now c.loop-i.entries.items = subst (λ (m : Square). RowsTo m c.loop-i.i c.args.b.now c.loop-i.entries.items) (sym is) c.loop-i.invariant in
    let s : c.a.inside.size ≡ c.args.b.now.size = ap (λ (m : Square). m.size) is ∙ c.requires in
    let t : c.loop-i.i < c.a.inside.size = c.loop-i-test.true in
    let d : c.deref.result.now ≡ c.a.inside.entries.items = c.deref.ensures.value in
    let a = rw d at c.in_ok-push_row.ensures in
    subst (λ (m : Square). RowsTo m (c.loop-i.i + 1) c.args.b.now c.push_row.new.entries.items) is
    (next_row c.a.inside.size c.loop-i.i c.a.inside.entries.items c.args.b.now c.loop-i.entries.items c.push_row.new.entries.items s t c.a.invariant r a)

pub overflow_mul-row : goal.overflow_mul-row
overflow_mul-row g c = grind (arith, elements)

pub overflow_mul-row-in-loop-i : goal.overflow_mul-row-in-loop-i
overflow_mul-row-in-loop-i g c = grind (arith, elements)

pub overflow_add-row : goal.overflow_add-row
overflow_add-row g c = grind (arith, common_steps)

pub offset_bounds-deref-i : goal.offset_bounds-deref-i
offset_bounds-deref-i g c = grind (arith, common_steps)

pub push_row-requires : goal.push_row-requires
push_row-requires g c = grind (arith, common_steps)

pub returns-in_err-push_row-clause-product : goal.returns-in_err-push_row-clause-product
returns-in_err-push_row-clause-product g c = grind (arith, common_steps)

pub returns-in_err-push_row-clause-count : goal.returns-in_err-push_row-clause-count
returns-in_err-push_row-clause-count g c = grind (arith, common_steps)

pub invariant_of-result : goal.invariant_of-result
invariant_of-result g c = grind (arith, common_steps)

pub returns-clause-product : goal.returns-clause-product
returns-clause-product g c = grind (arith, common_steps)

pub returns-clause-count : goal.returns-clause-count
returns-clause-count g c = grind (arith, elements)
