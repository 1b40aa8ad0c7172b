-- A rule by the places of its parts, as the rule of the definitions; and what reading one answers.
use Rattle.std.specs.Prelude.{◌≡◌, ℕ, Result, Ok, Err, List}
use Rattle.lsys_syntax.specs.Tokens.{Kind}
use Rattle.lsys_syntax.specs.Rules.{Rule}
use Rattle.lsys_syntax.specs.RuleMachine.{start, rule_with}
use Rattle.lsys_module.specs.Views.{module_name}
use Rattle.lsys_syntax.specs.RulePoints.{Line, form_of, line_state, line_command, whole, at_state, verdict_at, head_with, body_with}
use Rattle.lsys_reading.specs.Lines.{IsRest}
use Rattle.lsys_reading.specs.Reads.{Refuses}
use Rattle.lsys_reading.specs.Heads.{form_in, patterns_of, formals_of}
use Rattle.lsys_reading.specs.Spans.{option_at, ConditionIsSpan}
use Rattle.lsys_reading.specs.Images.{images_at, ImagesAreAt}
use Rattle.lsys_reading.specs.declared.refusal.PartRefusal.{PartRefusal}
use Rattle.lsys_reading.specs.declared.form.Form.{Form}
use Rattle.lsys_reading.specs.declared.rule.RuleLine.{RuleLine}

-- the rule that the line spells
abbrev pub rule_at : List Kind → RuleLine → Rule
rule_at ks r =
    rule_with (body_with (head_with (patterns_of r.left.items) (module_name r.predecessor.name) (formals_of r.predecessor) (patterns_of r.right.items)) (option_at ks r.condition) (option_at ks r.weight)) (images_at ks r.successor.items)

-- Every expression of the rule stands at its span.
pub record IsRuleLine (ks : List Kind) (r : RuleLine) : Type 0 where
  pub condition : ConditionIsSpan ks r.condition
  pub weight : ConditionIsSpan ks r.weight
  pub successor : ImagesAreAt ks r.successor.items

abbrev pub IsRuleRead : Form → List Kind → ℕ → Result RuleLine PartRefusal → Type 0
IsRuleRead f ks at (Ok r) = verdict_at (form_in f) ks at (at_state start) ≡ whole (rule_at ks r)
IsRuleRead f ks at (Err e) = Refuses (form_in f) ks at (at_state start) e

-- The rest of a line from its rule on, after the colon, whatever the line's table and label are.
abbrev pub IsLineRead : Form → List Kind → ℕ → Result RuleLine PartRefusal → Type 0
IsLineRead f ks at result = (g : Line) → form_of g ≡ form_in f → IsRest ks at (line_state g start) (λ r. line_command g (rule_at ks r)) result
