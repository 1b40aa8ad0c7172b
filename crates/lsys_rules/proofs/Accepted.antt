-- What is known of a command that nothing refuses.
use Rattle.std.proofs.Common.{◌≡◌, ℕ, ◌+◌, ◌≤◌, ◌&&◌, nat_lt, bytes_eq, length, Option, Some, None, List, ap, sym, subst, refl, ◌∙◌}
use Rattle.std.specs.Prelude.{not, unwrap_or}
use Rattle.lsys_syntax.specs.Limits.{nesting_bound}
use Rattle.lsys_syntax.specs.Rules.{Rule, IsRule}
use Rattle.lsys_syntax.specs.Commands as spec
use Rattle.lsys_syntax.specs.Commands.{IsCommand, nesting}
use Rattle.lsys_syntax.specs.LineMachine.{command_in}
use Rattle.lsys_syntax.specs.Sentences.{AreTokens}
use Rattle.lsys_syntax.proofs.LineSound.{sentence-spelled}
use Rattle.lsys_syntax.specs.Limits.{most_rules, most_tables}
use Rattle.lsys_syntax.specs.Checks.{rule_unknown, rule_repeated, rule_many}
use Rattle.lsys_spec.specs.Systems.{System, any, clash, tables}
use Rattle.lsys_spec.specs.Edits.{Refusal, or_else, refused_at, refused_if, refusal, changed, label_place, production_of, put, put_hom, same_label, stands_elsewhere, unknown_name, duplicate, mixed, wrong_label, many}
use Rattle.lsys_laws.specs.Sessions.{IsWell}
use Rattle.lsys_laws.proofs.Unrefused.{at_none}
use Rattle.lsys_laws.proofs.KeptWhole.{changed_kept}
use Rattle.lsys_text.specs.Tokens.{kind_row}
use Rattle.lsys_text.specs.declared.token_kind.Token.{Token}
use Rattle.lsys_reading.specs.declared.parts.LabeledRule.{LabeledRule}
use Rattle.lsys_reading.specs.declared.parts.CommandParts.{CommandParts}
use Rattle.lsys_reading.specs.declared.parts.CommandParts.TheVariants.{Production, Homomorphism}
use Rattle.lsys_reading.specs.Commands.{parts_command}
use Rattle.lsys_reading.specs.Parted.{command_of, IsParted}
use Rattle.lsys_reading.specs.RuleLines.{rule_at}
use Rattle.lsys_bodies.specs.Building.{CanBuild}
use Rattle.lsys_bodies.proofs.Named.{can-build}

-- the command that tokens spell is that of their parts
pub parted_command : (ts : List Token) (p q : CommandParts) → IsParted (kind_row ts) p → p ≡ q → command_of ts ≡ parts_command (kind_row ts) q
parted_command ts p q h e = ap (λ v. unwrap_or (command_in v) spec.quit) h.spelled ∙ ap (parts_command (kind_row ts)) e

-- it is one of the language
pub is_command : (ts : List Token) (p : CommandParts) → AreTokens (kind_row ts) → IsParted (kind_row ts) p → IsCommand (parts_command (kind_row ts) p) × (nesting (parts_command (kind_row ts) p) ≤ nesting_bound)
is_command ts p g h = let s = sentence-spelled (kind_row ts) (parts_command (kind_row ts) p) g h.spelled in (s.1, s.2)

-- a rule that nothing refuses can be built

seven_none : (a b c d e f g : Option Refusal) → or_else a (or_else b (or_else c (or_else d (or_else e (or_else f g))))) ≡ None → (a ≡ None) × (g ≡ None)
seven_none None None None None None None g h = (refl, h)
seven_none (Some r) b c d e f g h = cc
seven_none None (Some r) c d e f g h = cc
seven_none None None (Some r) d e f g h = cc
seven_none None None None (Some r) e f g h = cc
seven_none None None None None (Some r) f g h = cc
seven_none None None None None None (Some r) g h = cc

five_none : (a b c d e : Option Refusal) → or_else a (or_else b (or_else c (or_else d e))) ≡ None → (a ≡ None) × (e ≡ None)
five_none None None None None e h = (refl, h)
five_none (Some r) b c d e h = cc
five_none None (Some r) c d e h = cc
five_none None None (Some r) d e h = cc
five_none None None None (Some r) e h = cc

rule_builds : (s : System) (t : Option (List ℕ)) (l : List ℕ) (r : Rule) → IsRule r → refusal s (spec.put_production t l r) ≡ None → CanBuild r
rule_builds s t l r is h =
    let n = label_place t in
    let p = production_of t l r in
    let calm = seven_none
    (refused_at (rule_unknown (n + 2) r) unknown_name) (refused_at (rule_repeated (n + 2) r) duplicate)
    (refused_if (any (λ q. not (same_label q p) && clash q p) s.rules) mixed n) (refused_if (stands_elsewhere s p) wrong_label n)
    (refused_if (nat_lt most_tables (length (tables (put p s.rules)))) many 1) (refused_if (nat_lt most_rules (length (put p s.rules) + length s.homomorphisms)) many n)
    (refused_at (rule_many (n + 2) r) many) h in
    can-build (n + 2) (n + 2) r is (at_none (rule_unknown (n + 2) r) unknown_name calm.0) (at_none (rule_many (n + 2) r) many calm.1)

hom_rule_builds : (s : System) (l : List ℕ) (r : Rule) → IsRule r → refusal s (spec.put_homomorphism l r) ≡ None → CanBuild r
hom_rule_builds s l r is h =
    let calm = five_none
    (refused_at (rule_unknown 3 r) unknown_name) (refused_at (rule_repeated 3 r) duplicate) (refused_if (any (λ q. bytes_eq q.label l) s.rules) wrong_label 1)
    (refused_if (nat_lt most_rules (length s.rules + length (put_hom (record { label = l; rule = r }) s.homomorphisms))) many 1) (refused_at (rule_many 3 r) many) h in
    can-build 3 3 r is (at_none (rule_unknown 3 r) unknown_name calm.0) (at_none (rule_many 3 r) many calm.1)

module _ (s : System) (ts : List Token) (p : CommandParts) (line : LabeledRule) (forms : AreTokens (kind_row ts)) (parted : IsParted (kind_row ts) p) (accepted : refusal s (command_of ts) ≡ None) where
  pub production_builds : p ≡ Production line → CanBuild (rule_at (kind_row ts) line.rule)
  production_builds is =
      let own : IsCommand (parts_command (kind_row ts) (Production line)) = subst (λ q. IsCommand (parts_command (kind_row ts) q)) is (is_command ts p forms parted).0 in
      rule_builds s line.table line.label (rule_at (kind_row ts) line.rule) own.2 (ap (refusal s) (sym (parted_command ts p (Production line) parted is)) ∙ accepted)

  pub homomorphism_builds : p ≡ Homomorphism line → CanBuild (rule_at (kind_row ts) line.rule)
  homomorphism_builds is =
      let own : IsCommand (parts_command (kind_row ts) (Homomorphism line)) = subst (λ q. IsCommand (parts_command (kind_row ts) q)) is (is_command ts p forms parted).0 in
      hom_rule_builds s line.label (rule_at (kind_row ts) line.rule) own.1 (ap (refusal s) (sym (parted_command ts p (Homomorphism line) parted is)) ∙ accepted)

-- what it makes of a system is well formed and well spelled
pub well_changed : (s : System) (ts : List Token) (p : CommandParts) → AreTokens (kind_row ts) → IsParted (kind_row ts) p → IsWell s → refusal s (command_of ts) ≡ None → IsWell (changed s (command_of ts))
well_changed s ts p forms parted well accepted =
    let told = parted_command ts p p parted refl in
    let own = is_command ts p forms parted in
    subst (λ c. IsWell (changed s c)) (sym told) (changed_kept s (parts_command (kind_row ts) p) well own.0 own.1 (ap (refusal s) (sym told) ∙ accepted))
