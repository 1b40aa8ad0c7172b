use Rattle.std.proofs.Common.{rules, ◌≡◌, ◌+◌, ◌&&◌, List, length, drop, true, false, slice_get, eqb, Some, None, ap, sym, ◌∙◌, arith}
use Rattle.std.proofs.lemmas.Option.{slice_get-get_or, slice_get_past}
use Rattle.lsys_spec.specs.Equalities.{same_all, same_body}
use Rattle.lsys_bodies.specs.declared.rule.Rule.{Rule}
use Rattle.lsys_match.specs.Groups.{bodies_of, meant, rules_of}
use Rattle.lsys_match.proofs.Groups.{at_place, length_bodies, meant_at, same_on, same_short, same_end}
use Rattle.lsys_match.proofs.group.Group.is_same.Goals as goal

pub returns-in_default-get : goal.returns-in_default-get
returns-in_default-get c =
    let rs : List Rule = c.args.group.now in
    let l : slice_get rs c.loop-body.place ≡ None = ap (λ xs. slice_get xs c.loop-body.place) (sym c.rules-others.ensures.rules) ∙ slice_get_past c.rules-others.result.now c.loop-body.place c.in_default-get.ensures.lookup.3 in
    sym (c.loop-body.invariant.2 ∙ same_short (rules_of (bodies_of rs)) (rules_of c.args.self.now) c.loop-body.place (meant c.in-Some.body.now) (meant_at rs c.loop-body.place None l) c.in-Some.ensures.body)

pub returns-then-not-same : goal.returns-then-not-same
returns-then-not-same c =
    let rs : List Rule = c.args.group.now in
    let other : Rule = c.in-Some-get.other.now in
    let l : slice_get rs c.loop-body.place ≡ Some other = ap (λ xs. slice_get xs c.loop-body.place) (sym c.rules-others.ensures.rules) ∙ slice_get-get_or c.rules-others.result.now c.loop-body.place other c.in-Some-get.ensures.lookup.3.0 ∙ ap (λ r. Some r) (sym c.in-Some-get.ensures.lookup.1) in
    let s : same_body (meant other.body) (meant c.in-Some.body.now) ≡ false = search rules in
    let on = same_on (rules_of (bodies_of rs)) (rules_of c.args.self.now) c.loop-body.place (meant other.body) (meant c.in-Some.body.now) (sym (meant_at rs c.loop-body.place (Some other) l)) c.in-Some.ensures.body in
    sym (c.loop-body.invariant.2 ∙ on ∙ ap (λ b. b && same_all same_body (drop (c.loop-body.place + 1) (rules_of (bodies_of rs))) (drop (c.loop-body.place + 1) (rules_of c.args.self.now))) s)

pub loop-body-smaller : goal.loop-body-smaller
loop-body-smaller c = let a = at_place (rules_of c.args.self.now) c.loop-body.place (meant c.in-Some.body.now) c.in-Some.ensures.body in omega (arith, a.0)

pub loop-body-preserved : goal.loop-body-preserved
loop-body-preserved c =
    let rs : List Rule = c.args.group.now in
    let other : Rule = c.in-Some-get.other.now in
    let l : slice_get rs c.loop-body.place ≡ Some other = ap (λ xs. slice_get xs c.loop-body.place) (sym c.rules-others.ensures.rules) ∙ slice_get-get_or c.rules-others.result.now c.loop-body.place other c.in-Some-get.ensures.lookup.3.0 ∙ ap (λ r. Some r) (sym c.in-Some-get.ensures.lookup.1) in
    let s : same_body (meant other.body) (meant c.in-Some.body.now) ≡ true = search rules in
    let on = same_on (rules_of (bodies_of rs)) (rules_of c.args.self.now) c.loop-body.place (meant other.body) (meant c.in-Some.body.now) (sym (meant_at rs c.loop-body.place (Some other) l)) c.in-Some.ensures.body in
    let a = at_place (rules_of c.args.self.now) c.loop-body.place (meant c.in-Some.body.now) c.in-Some.ensures.body in
    let b = at_place rs c.loop-body.place other (sym l) in (
      omega (arith, a.0),
      omega (arith, b.0),
      c.loop-body.invariant.2 ∙ on ∙ ap (λ b. b && same_all same_body (drop (c.loop-body.place + 1) (rules_of (bodies_of rs))) (drop (c.loop-body.place + 1) (rules_of c.args.self.now))) s,
    )

pub returns : goal.returns
returns c =
    let rs : List Rule = c.args.group.now in
    let n : slice_get (rules_of c.args.self.now) c.loop-body.place ≡ None = search rules in
    let e : length (rules_of (bodies_of rs)) ≡ length rs = length_bodies rs in
    let k : length rs ≡ length c.rules-others.result.now = ap length (sym c.rules-others.ensures.rules) in
    sym (c.loop-body.invariant.2 ∙ same_end (rules_of (bodies_of rs)) (rules_of c.args.self.now) c.loop-body.place (omega (arith, e, c.loop-body.invariant.1)) n ∙ ap (eqb c.loop-body.place) (e ∙ k))
