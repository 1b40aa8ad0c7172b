use Rattle.std.proofs.Common.{◌≡◌, ◌∙◌, ◌+◌, ap, sym, arith, length, bytes_eq, nat_lt}
use Rattle.std.proofs.lemmas.List.{length-map}
use Rattle.lsys_spec.specs.Systems.{any}
use Rattle.lsys_spec.specs.Edits.{put_hom}
use Rattle.lsys_bodies.specs.Views.{as_production, homomorphism_of}
use Rattle.lsys_rules.specs.Faults.{one_unless}
use Rattle.lsys_rules.proofs.Kept.{put_hom_length}
use Rattle.lsys_rules.proofs.rule_faults.makes_many_homs.Goals as goal

pub returns : goal.returns
returns c = λ h e.
    let s = c.args.system.now in
    let homs : length c.hom_rules-rules.result.now ≡ length s.homomorphisms = sym (length-map c.hom_rules-rules.result.now homomorphism_of) ∙ ap length c.hom_rules-rules.ensures.rules in
    let rules : length c.rules.result.now ≡ length s.rules = sym (length-map c.rules.result.now as_production) ∙ ap length c.rules.ensures.rules in
    let has : c.has_hom_rule.result ≡ any (λ q. bytes_eq q.label h.label) s.homomorphisms = c.has_hom_rule.ensures ∙ ap (any (λ q. bytes_eq q.label c.args.label)) c.hom_rules-rules.ensures.rules ∙ ap (λ l. any (λ q. bytes_eq q.label l) s.homomorphisms) e in
    let one : c.one_unless.result ≡ one_unless (any (λ q. bytes_eq q.label h.label) s.homomorphisms) = c.one_unless.ensures.value ∙ ap one_unless has in
    let same : length c.hom_rules-rules.result.now + length c.rules.result.now + c.one_unless.result ≡ length s.rules + length (put_hom h s.homomorphisms) = omega (arith, rules, homs, one, put_hom_length h s.homomorphisms) in
    ap (nat_lt 256) same
