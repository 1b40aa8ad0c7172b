use Rattle.std.proofs.Common.{◌≡◌, ℕ, ◌+◌, ◌*◌, ◌<◌, ◌≤◌, ◌/◌, ◌%◌, sym, ◌∙◌, subst, arith}
use Rattle.lsys_growth.specs.Matrices.{IsProduct}
use Rattle.lsys_growth.proofs.Squaring.{Reached, Halved, halved_odd, halved_even, squared, none_left, reached, fewer}
use Rattle.lsys_growth.proofs.power.power_times.Goals as goal
use Rattle.lsys_growth.proofs.power.power_times.Goals.{then-rest-eq1+in_ok-row, else-rest-eq1}

pub loop-rest-preserved-in_ok-power : goal.loop-rest-preserved-in_ok-power
loop-rest-preserved-in_ok-power g c =
    let i = c.loop-rest.invariant in
    let p : IsProduct c.loop-rest.power c.loop-rest.power c.in_ok-power.power = c.in_ok-power.ensures.product in
    let some : 0 < c.loop-rest.rest = c.loop-rest-test.true in
    let upto : c.if-rest-eq1.products ≤ c.loop-rest.products + 1 = elim c.if-rest-eq1.branch [
      | then-rest-eq1+in_ok-row w ↦ rw w.products-is (let n = w.in_ok-row.ensures.count in omega (arith, n))
      | else-rest-eq1 w ↦ rw w.products-is (omega arith)
    ] in
    let n : c.multiply.new.products ≤ c.loop-rest.products + 2 = let m = c.in_ok-power.ensures.count in omega (arith, m, upto) in
    let halved : Halved c.args.first.items c.args.matrix c.args.times c.loop-rest.rest c.if-rest-eq1.row.items c.loop-rest.power =
    elim c.if-rest-eq1.branch [
      | then-rest-eq1+in_ok-row w ↦
          let d : w.deref.result.now ≡ c.loop-rest.row.items = w.deref.ensures.value in
          let r = rw d at w.in_ok-row.ensures.product in
          rw w.row-is (halved_odd c.args.first.items c.args.matrix c.args.times c.loop-rest.rest c.loop-rest.row.items w.in_ok-row.row.items c.loop-rest.power w.if-rest-eq1.true r i.reached)
      | else-rest-eq1 w ↦
          let f : c.loop-rest.rest % 2 ≡ 1 → ⊥ = w.if-rest-eq1.false in
          rw w.row-is (halved_even c.args.first.items c.args.matrix c.args.times c.loop-rest.rest c.loop-rest.row.items c.loop-rest.power f i.size i.reached)
    ] in
    record {
      size = halved.size ∙ sym p.size;
      reached = λ k v b f m. squared k c.args.times (c.loop-rest.rest / 2) v b c.if-rest-eq1.row.items c.loop-rest.power c.in_ok-power.power (halved.reached k v b f m) p;
      count = λ k l. fewer c.loop-rest.rest c.loop-rest.products c.multiply.new.products (c.args.products.now + 2 * k) some n (i.count k l);
    }

pub loop-rest-preserved : goal.loop-rest-preserved
loop-rest-preserved g c =
    let i = c.loop-rest.invariant in
    let upto : c.if-rest-eq1.products ≤ c.loop-rest.products + 1 = elim c.if-rest-eq1.branch [
      | then-rest-eq1+in_ok-row w ↦ rw w.products-is (let n = w.in_ok-row.ensures.count in omega (arith, n))
      | else-rest-eq1 w ↦ rw w.products-is (omega arith)
    ] in
    let n : c.if-rest-eq1.products ≤ c.loop-rest.products + 2 = omega (arith, upto) in
    let none : c.loop-rest.rest / 2 ≡ 0 = let f = c.if-half-gt0.false in omega arith in
    let halved : Halved c.args.first.items c.args.matrix c.args.times c.loop-rest.rest c.if-rest-eq1.row.items c.loop-rest.power =
    elim c.if-rest-eq1.branch [
      | then-rest-eq1+in_ok-row w ↦
          let d : w.deref.result.now ≡ c.loop-rest.row.items = w.deref.ensures.value in
          let r = rw d at w.in_ok-row.ensures.product in
          rw w.row-is (halved_odd c.args.first.items c.args.matrix c.args.times c.loop-rest.rest c.loop-rest.row.items w.in_ok-row.row.items c.loop-rest.power w.if-rest-eq1.true r i.reached)
      | else-rest-eq1 w ↦
          let f : c.loop-rest.rest % 2 ≡ 1 → ⊥ = w.if-rest-eq1.false in
          rw w.row-is (halved_even c.args.first.items c.args.matrix c.args.times c.loop-rest.rest c.loop-rest.row.items c.loop-rest.power f i.size i.reached)
    ] in
    record {
      size = halved.size;
      reached = λ k v b f m. none_left k c.args.times (c.loop-rest.rest / 2) v b c.if-rest-eq1.row.items c.loop-rest.power none (halved.reached k v b f m);
      count = λ k l. fewer c.loop-rest.rest c.loop-rest.products c.if-rest-eq1.products (c.args.products.now + 2 * k) c.loop-rest-test.true n (i.count k l);
    }

pub returns-clause-row : goal.returns-clause-row
returns-clause-row g c =
    let z : c.loop-rest.rest ≡ 0 = let f = c.loop-rest-test.false in omega arith in
    λ k v b f m. reached k c.args.times v b c.loop-rest.row.items c.loop-rest.power (subst (λ (n : ℕ). Reached k c.args.times n v b c.loop-rest.row.items c.loop-rest.power) z (c.loop-rest.invariant.reached k v b f m))
