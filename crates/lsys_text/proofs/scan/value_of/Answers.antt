use Rattle.std.proofs.Common.{◌≡◌, ◌<◌, ◌≤◌, ◌+◌, ◌*◌, ◌-◌, ◌^◌, take, get_or, arith, ◌∙◌, sym, ap, take_all}
use Rattle.std.specs.Str.Parse.{digits_value}
use Rattle.std.proofs.lemmas.Str.Parse.{digits_value-take-le}
use Rattle.lsys_syntax.specs.Tokens.{is_digit}
use Rattle.lsys_text.proofs.Fronts.{Every-at, digit-range, value-step}
use Rattle.lsys_text.proofs.scan.value_of.Goals as goal

pub overflow_sub-digit : goal.overflow_sub-digit
overflow_sub-digit c = (digit-range _ (Every-at is_digit c.args.digits.now c.loop-digit.digit-index c.requires (omega arith))).0

pub returns-in_err-value : goal.returns-in_err-value
returns-in_err-value c =
    let over : c.loop-digit.value * 10 + (get_or c.args.digits.now c.loop-digit.digit-index 0 - 48) < 2 ^ 64 → ⊥ = c.in_err-value.ensures in
    let step : digits_value 10 (take (c.loop-digit.digit-index + 1) c.args.digits.now) ≡ c.loop-digit.value * 10 + (get_or c.args.digits.now c.loop-digit.digit-index 0 - 48) =
    value-step c.args.digits.now c.loop-digit.digit-index c.loop-digit.value c.requires (omega arith) c.loop-digit.invariant.value in
    let below : digits_value 10 (take (c.loop-digit.digit-index + 1) c.args.digits.now) ≤ digits_value 10 c.args.digits.now = digits_value-take-le 10 c.args.digits.now (c.loop-digit.digit-index + 1) (omega arith) in
    rw c.from_residual.ensures (λ fits. over (omega arith))

pub loop-digit-preserved : goal.loop-digit-preserved
loop-digit-preserved c =
    let told : (c.loop-digit.value * 10 + (get_or c.args.digits.now c.loop-digit.digit-index 0 - 48) < 2 ^ 64) × (c.in_ok-value.value ≡ c.loop-digit.value * 10 + (get_or c.args.digits.now c.loop-digit.digit-index 0 - 48)) = c.in_ok-value.ensures in
    record {
      fits = omega (arith, told.0, told.1);
      value = told.1 ∙ sym (value-step c.args.digits.now c.loop-digit.digit-index c.loop-digit.value c.requires (omega arith) c.loop-digit.invariant.value);
    }

pub returns : goal.returns
returns c =
    let all : take c.loop-digit.digit-index c.args.digits.now ≡ c.args.digits.now = take_all c.loop-digit.digit-index c.args.digits.now c.loop-digit-test.false in
    let is : c.loop-digit.value ≡ digits_value 10 c.args.digits.now = c.loop-digit.invariant.value ∙ ap (digits_value 10) all in
    (omega (arith, c.loop-digit.invariant.fits, is), is)
