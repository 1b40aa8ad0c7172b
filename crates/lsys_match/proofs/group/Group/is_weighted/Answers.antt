use Rattle.std.proofs.Common.{rules, ◌≡◌, ◌+◌, drop, true, false, ap, sym, ◌∙◌, arith, if◌then◌else◌, is_some}
use Rattle.lsys_spec.specs.Meaning.{any_weight}
use Rattle.lsys_match.specs.Groups.{meant, rules_of}
use Rattle.lsys_match.proofs.Groups.{at_place, past_end, weight_on}
use Rattle.lsys_match.proofs.group.Group.is_weighted.Goals as goal

pub returns-then-is_some : goal.returns-then-is_some
returns-then-is_some c =
    let w = weight_on (rules_of c.args.self.now) c.loop-body.place (meant c.in-Some.body.now) c.in-Some.ensures.body in
    let s : is_some (meant c.in-Some.body.now).weight ≡ true = search rules in
    sym (c.loop-body.invariant.1 ∙ w ∙ ap (λ b. if b then true else any_weight (drop (c.loop-body.place + 1) (rules_of c.args.self.now))) s)

pub loop-body-smaller : goal.loop-body-smaller
loop-body-smaller c = let a = at_place (rules_of c.args.self.now) c.loop-body.place (meant c.in-Some.body.now) c.in-Some.ensures.body in omega (arith, a.0)

pub loop-body-preserved : goal.loop-body-preserved
loop-body-preserved c =
    let a = at_place (rules_of c.args.self.now) c.loop-body.place (meant c.in-Some.body.now) c.in-Some.ensures.body in
    let w = weight_on (rules_of c.args.self.now) c.loop-body.place (meant c.in-Some.body.now) c.in-Some.ensures.body in
    let s : is_some (meant c.in-Some.body.now).weight ≡ false = search rules in
    (omega (arith, a.0), c.loop-body.invariant.1 ∙ w ∙ ap (λ b. if b then true else any_weight (drop (c.loop-body.place + 1) (rules_of c.args.self.now))) s)

pub returns : goal.returns
returns c =
    let p = past_end (rules_of c.args.self.now) c.loop-body.place (search rules) in
    sym (c.loop-body.invariant.1 ∙ ap any_weight p)
