use Rattle.std.proofs.Common.{◌≡◌, ◌∙◌, ◌≤◌, sym, length, arith, Ok, refl}
use Rattle.std.proofs.lemmas.Result.{err_from_is_err_and}
use Rattle.lsys_module.specs.Views.{string_of}
use Rattle.lsys_spec.specs.Edits.{values_of}
use Rattle.lsys_module.specs.Building.{draft_of}
use Rattle.lsys_module.proofs.BuildSteps.{whole-run, form-at, can_take, taken, not_taken, all_taken, is_built}
use Rattle.lsys_module.proofs.build.build_string.Goals as goal

pub take-requires-clause-form : goal.take-requires-clause-form
take-requires-clause-form c = rw c.index-tokens-place.is (form-at c.args.tokens.now c.loop-place.place c.index-tokens-place.result c.loop-place-test.true c.requires.forms)

pub take-requires-clause-goes_on : goal.take-requires-clause-goes_on
take-requires-clause-goes_on c =
    let xs = c.requires.scanned.0 in
    let told = whole-run c.args.from c.args.tokens.now xs c.requires.forms c.requires.scanned.1 in
    can_take c.args.from c.args.tokens.now xs c.loop-place.place c.index-tokens-place.result (draft_of c.loop-place.builder) c.loop-place-test.true c.index-tokens-place.is c.loop-place.invariant told

pub returns-in_err-take : goal.returns-in_err-take
returns-in_err-take c =
    let xs = c.requires.scanned.0 in
    let told = whole-run c.args.from c.args.tokens.now xs c.requires.forms c.requires.scanned.1 in
    let p = err_from_is_err_and c.from_residual.result c.from_residual.ensures.1 in
    rw (p.1, p.2)
    (is_built c.args.from c.args.tokens.now xs _ c.requires.scanned.1
    (not_taken c.args.from c.args.tokens.now xs c.loop-place.place c.index-tokens-place.result (draft_of c.loop-place.builder) (draft_of c.take.new.self) c.in_err-take.field-0.0 c.loop-place-test.true c.index-tokens-place.is c.loop-place.invariant told c.in_err-take.ensures))

pub loop-place-preserved : goal.loop-place-preserved
loop-place-preserved c =
    let h = c.in_ok-take.ensures in
    taken c.args.from c.args.tokens.now c.loop-place.place c.index-tokens-place.result (draft_of c.loop-place.builder) (draft_of c.take.new.self) c.loop-place-test.true c.index-tokens-place.is c.loop-place.invariant h.0 h.1

pub finish-requires : goal.finish-requires
finish-requires c =
    let xs = c.requires.scanned.0 in
    let told = whole-run c.args.from c.args.tokens.now xs c.requires.forms c.requires.scanned.1 in
    let over : length c.args.tokens.now ≤ c.loop-place.place = omega arith in
    let end = all_taken c.args.from c.args.tokens.now xs c.loop-place.place (draft_of c.loop-place.builder) over c.loop-place.invariant told in
    rw end.0 refl

pub returns : goal.returns
returns c =
    let xs = c.requires.scanned.0 in
    let told = whole-run c.args.from c.args.tokens.now xs c.requires.forms c.requires.scanned.1 in
    let over : length c.args.tokens.now ≤ c.loop-place.place = omega arith in
    let end = all_taken c.args.from c.args.tokens.now xs c.loop-place.place (draft_of c.loop-place.builder) over c.loop-place.invariant told in
    let same : string_of c.in_ok-finish.field-0 ≡ values_of xs = let both = sym c.in_ok-finish.ensures ∙ end.0 in cc in
    is_built c.args.from c.args.tokens.now xs (Ok c.in_ok-finish.field-0) c.requires.scanned.1 (same, end.1)
