use Rattle.std.proofs.Common.{◌≡◌, ◌<◌, ◌-◌, ◌^◌, ℕ, List, length, take, ◌∙◌, sym, ap, ap₂, subst}
use Rattle.std.specs.Str.Parse.{digits_value}
use Rattle.lsys_syntax.specs.Tokens.{Kind, is_digit, front, number_kind}
use Rattle.lsys_syntax.specs.Tokens as syntax
use Rattle.lsys_syntax.specs.Pieces.{Every}
use Rattle.lsys_text.specs.Tokens.{kind_of}
use Rattle.lsys_text.proofs.Fronts.{front-take, length-front, Every-front}
use Rattle.lsys_text.proofs.Longest.{number_kind-small, number_kind-big}
use Rattle.lsys_text.proofs.scan.number_at.Goals as goal
use Rattle.lsys_text.proofs.scan.number_at.Goals.{in-Some, in-None}

pub value_of-requires : goal.value_of-requires
value_of-requires c =
    let is : front is_digit c.args.text.now ≡ take c.digits_len-len.result c.args.text.now = front-take is_digit c.args.text.now ∙ ap (λ n. take n c.args.text.now) (sym c.digits_len-len.ensures.len) in
    subst (Every is_digit) is (Every-front is_digit c.args.text.now)

pub returns-clause-number : goal.returns-clause-number
returns-clause-number c =
    let text : List ℕ = front is_digit c.args.text.now in
    let is : take c.digits_len-len.result c.args.text.now ≡ text = sym (front-take is_digit c.args.text.now ∙ ap (λ n. take n c.args.text.now) (sym c.digits_len-len.ensures.len)) in
    let len : c.digits_len-len.result ≡ length text = c.digits_len-len.ensures.len ∙ sym (length-front is_digit c.args.text.now) in
    let kind : kind_of c.match-value_of.kind ≡ number_kind text =
    elim c.match-value_of.branch [
      | in-Some w ↦
          let told : (digits_value 10 (take c.digits_len-len.result c.args.text.now) < 2 ^ 64) × (w.in-Some.value ≡ digits_value 10 (take c.digits_len-len.result c.args.text.now)) = w.in-Some.ensures in
          let fits : digits_value 10 text < 2 ^ 64 = rw is at told.0 in
          ap kind_of w.kind-is ∙ ap syntax.Number (told.1 ∙ ap (digits_value 10) is) ∙ sym (number_kind-small text fits)
      | in-None w ↦
          let told : digits_value 10 (take c.digits_len-len.result c.args.text.now) < 2 ^ 64 → ⊥ = w.in-None.ensures in
          let big : digits_value 10 text < 2 ^ 64 → ⊥ = rw is at told in
          ap kind_of w.kind-is ∙ sym (number_kind-big text big)
    ] in
    ap₂ (λ (k : Kind) (n : ℕ). (k, n)) kind (ap (λ n. n - 1) len)
