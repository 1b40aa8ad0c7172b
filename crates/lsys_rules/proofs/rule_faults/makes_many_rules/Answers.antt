use Rattle.std.proofs.Common.{◌≡◌, ◌∙◌, ◌+◌, ap, sym, arith, length, bytes_eq, nat_lt}
use Rattle.std.proofs.lemmas.List.{length-map}
use Rattle.lsys_spec.specs.Systems.{any}
use Rattle.lsys_spec.specs.Edits.{put}
use Rattle.lsys_bodies.specs.Views.{as_production, homomorphism_of}
use Rattle.lsys_rules.specs.Faults.{one_unless}
use Rattle.lsys_rules.proofs.Kept.{put_length}
use Rattle.lsys_rules.proofs.rule_faults.makes_many_rules.Goals as goal

pub returns : goal.returns
returns c = λ p e.
    let s = c.args.system.now in
    let rules : length c.rules-rules.result.now ≡ length s.rules = sym (length-map c.rules-rules.result.now as_production) ∙ ap length c.rules-rules.ensures.rules in
    let homs : length c.hom_rules.result.now ≡ length s.homomorphisms = sym (length-map c.hom_rules.result.now homomorphism_of) ∙ ap length c.hom_rules.ensures.rules in
    let has : c.has_rule.result ≡ any (λ q. bytes_eq q.label p.label) s.rules = c.has_rule.ensures ∙ ap (any (λ q. bytes_eq q.label c.args.label)) c.rules-rules.ensures.rules ∙ ap (λ l. any (λ q. bytes_eq q.label l) s.rules) e in
    let one : c.one_unless.result ≡ one_unless (any (λ q. bytes_eq q.label p.label) s.rules) = c.one_unless.ensures.value ∙ ap one_unless has in
    let same : length c.rules-rules.result.now + length c.hom_rules.result.now + c.one_unless.result ≡ length (put p s.rules) + length s.homomorphisms = omega (arith, rules, homs, one, put_length p s.rules) in
    ap (nat_lt 256) same
