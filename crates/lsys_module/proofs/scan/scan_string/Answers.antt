use Rattle.std.proofs.Common.{◌≡◌, ◌∙◌, ◌≤◌, ap, sym, Some, None, length, arith, if◌then◌else◌}
use Rattle.lsys_syntax.specs.LineMachine.{stops}
use Rattle.lsys_module.specs.Scanning.{string_verdict, TellsString}
use Rattle.lsys_module.proofs.ScanSteps.{refused-turn, refused-end, found_string, found_place}
use Rattle.lsys_module.proofs.StringPlaces.{Refused, refused, read_as_string}
use Rattle.lsys_module.proofs.scan.scan_string.Goals as goal

pub returns-in-None : goal.returns-in-None
returns-in-None c =
    let tokens = c.args.tokens.now in
    let place = c.loop-place.place in
    let step = sym c.in-None.is ∙ c.after.ensures.step in
    let turn = refused-turn tokens place c.index-tokens-place.result c.loop-place.progress c.of.result None c.loop-place-test.true c.index-tokens-place.is c.of.ensures step in
    let verdict : string_verdict c.args.from tokens ≡ stops place = found_place c.args.from tokens place (c.loop-place.invariant.same ∙ turn) in
    let told : Refused tokens c.args.from place = refused tokens c.args.from place verdict in
    record {
      verdict = verdict;
      string = λ forms. tt;
      no_string = told.no_string;
      after = told.after;
      within = omega arith;
      before = told.before;
      none_goes_on = told.none_goes_on;
    }

pub loop-place-preserved : goal.loop-place-preserved
loop-place-preserved c =
    let step = sym c.in-Some.is ∙ c.after.ensures.step in
    let turn = refused-turn c.args.tokens.now c.loop-place.place c.index-tokens-place.result c.loop-place.progress c.of.result (Some c.in-Some.next) c.loop-place-test.true c.index-tokens-place.is c.of.ensures step in
    record {
      few = omega (arith, c.in-Some.ensures.few);
      same = c.loop-place.invariant.same ∙ turn;
    }

pub returns-then-not-may_end : goal.returns-then-not-may_end
returns-then-not-may_end c =
    let tokens = c.args.tokens.now in
    let end : c.loop-place.place ≡ length tokens = omega arith in
    let over : length tokens ≤ c.loop-place.place = omega arith in
    let ended = refused-end tokens c.loop-place.place c.loop-place.progress c.may_end.result over c.may_end.ensures in
    let same = c.loop-place.invariant.same ∙ ended ∙ ap (λ b. if b then None else Some c.loop-place.place) c.if-not-may_end.true in
    let verdict : string_verdict c.args.from tokens ≡ stops (length tokens) = found_place c.args.from tokens c.loop-place.place same ∙ ap stops end in
    let told : Refused tokens c.args.from (length tokens) = refused tokens c.args.from (length tokens) verdict in
    record {
      verdict = verdict;
      string = λ forms. tt;
      no_string = told.no_string;
      after = told.after;
      within = omega arith;
      before = told.before;
      none_goes_on = told.none_goes_on;
    }

pub returns : goal.returns
returns c =
    let tokens = c.args.tokens.now in
    let over : length tokens ≤ c.loop-place.place = omega arith in
    let ended = refused-end tokens c.loop-place.place c.loop-place.progress c.may_end.result over c.may_end.ensures in
    let same = c.loop-place.invariant.same ∙ ended ∙ ap (λ b. if b then None else Some c.loop-place.place) c.if-not-may_end.false in
    let is : TellsString (string_verdict c.args.from tokens) = found_string c.args.from tokens same in
    record {
      verdict = is;
      string = λ forms. read_as_string tokens c.args.from forms is.0 is.1;
      no_string = tt;
      after = tt;
      within = tt;
      before = λ forms. tt;
      none_goes_on = tt;
    }
