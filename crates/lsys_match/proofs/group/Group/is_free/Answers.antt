use Rattle.std.proofs.Common.{rules, ◌≡◌, ◌+◌, drop, true, false, ◌∷◌, [], ap, sym, ◌∙◌, arith, ◌&&◌}
use Rattle.lsys_spec.specs.Standings.{free}
use Rattle.lsys_match.specs.Groups.{meant, rules_of}
use Rattle.lsys_match.proofs.Groups.{at_place, past_end, free_on}
use Rattle.lsys_match.proofs.group.Group.is_free.Goals as goal

pub returns-then-has_context : goal.returns-then-has_context
returns-then-has_context c =
    let w = free_on (rules_of c.args.self.now) c.loop-body.place (meant c.in-Some.body.now) c.in-Some.ensures.body in
    let s : free (meant c.in-Some.body.now ∷ []) ≡ false = search rules in
    sym (c.loop-body.invariant.1 ∙ w ∙ ap (λ b. b && free (drop (c.loop-body.place + 1) (rules_of c.args.self.now))) s)

pub loop-body-smaller : goal.loop-body-smaller
loop-body-smaller c = let a = at_place (rules_of c.args.self.now) c.loop-body.place (meant c.in-Some.body.now) c.in-Some.ensures.body in omega (arith, a.0)

pub loop-body-preserved : goal.loop-body-preserved
loop-body-preserved c =
    let a = at_place (rules_of c.args.self.now) c.loop-body.place (meant c.in-Some.body.now) c.in-Some.ensures.body in
    let w = free_on (rules_of c.args.self.now) c.loop-body.place (meant c.in-Some.body.now) c.in-Some.ensures.body in
    let s : free (meant c.in-Some.body.now ∷ []) ≡ true = search rules in
    (omega (arith, a.0), c.loop-body.invariant.1 ∙ w ∙ ap (λ b. b && free (drop (c.loop-body.place + 1) (rules_of c.args.self.now))) s)

pub returns : goal.returns
returns c =
    let p = past_end (rules_of c.args.self.now) c.loop-body.place (search rules) in
    sym (c.loop-body.invariant.1 ∙ ap free p)
