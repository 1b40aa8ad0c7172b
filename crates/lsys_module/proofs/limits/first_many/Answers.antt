use Rattle.std.proofs.Common.{◌≤◌, ◌∙◌, [], Some, None, length, refl, sym, arith}
use Rattle.lsys_module.specs.Building.{whole}
use Rattle.lsys_module.proofs.BuildSteps.{whole-run, all_taken}
use Rattle.lsys_module.proofs.Counted.{is_placed, stopped, went_on}
use Rattle.lsys_module.proofs.limits.first_many.Goals as goal

pub loop-place-init : goal.loop-place-init
loop-place-init c = (whole [], record { same = refl }, (refl, refl))

pub returns-in-None : goal.returns-in-None
returns-in-None c =
    let xs = c.requires.scanned.0 in
    let told = whole-run c.args.from c.args.tokens.now xs c.requires.forms c.requires.scanned.1 in
    let read = c.loop-place.invariant in
    let none = sym c.after.ensures ∙ c.in-None.is in
    is_placed c.args.from _ xs (Some c.loop-place.place) c.requires.scanned.1
    (stopped c.args.from c.args.tokens.now xs c.loop-place.place c.index-tokens-place.result read.0 c.loop-place.counter c.loop-place-test.true c.index-tokens-place.is read.1 read.2 told (rw c.of.ensures at none))

pub loop-place-preserved : goal.loop-place-preserved
loop-place-preserved c =
    let xs = c.requires.scanned.0 in
    let told = whole-run c.args.from c.args.tokens.now xs c.requires.forms c.requires.scanned.1 in
    let read = c.loop-place.invariant in
    let some = sym c.after.ensures ∙ c.in-Some.is in
    went_on c.args.from c.args.tokens.now xs c.loop-place.place c.index-tokens-place.result read.0 c.loop-place.counter c.in-Some.next c.loop-place-test.true c.index-tokens-place.is read.1 read.2 told (rw c.of.ensures at some)

pub returns : goal.returns
returns c =
    let xs = c.requires.scanned.0 in
    let told = whole-run c.args.from c.args.tokens.now xs c.requires.forms c.requires.scanned.1 in
    let read = c.loop-place.invariant in
    let over : length c.args.tokens.now ≤ c.loop-place.place = omega arith in
    is_placed c.args.from _ xs None c.requires.scanned.1 (all_taken c.args.from c.args.tokens.now xs c.loop-place.place read.0 over read.1 told).1
