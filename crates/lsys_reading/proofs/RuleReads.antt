-- A rule by its parts.
use Rattle.std.proofs.Common.{◌≡◌, ℕ, Ok, Err, List, [], drop, ap, sym, ◌∙◌}
use Rattle.std.specs.Prelude.{Result}
use Rattle.lsys_syntax.specs.Tokens.{Kind}
use Rattle.lsys_syntax.specs.RuleMachine as machine
use Rattle.lsys_syntax.specs.RuleMachine.{Successor, start, rule_with}
use Rattle.lsys_syntax.specs.LineMachine as L
use Rattle.lsys_reading.specs.declared.refusal.PartRefusal.{PartRefusal}
use Rattle.lsys_reading.specs.declared.refusal.PartRefusal.TheVariants.{Token, Deep, Memory}
use Rattle.lsys_reading.specs.declared.form.Form.{Form}
use Rattle.lsys_reading.specs.declared.head.HeadRead.{HeadRead}
use Rattle.lsys_reading.specs.declared.span.OptionRead.{OptionRead}
use Rattle.lsys_reading.specs.declared.rule.RuleLine.{RuleLine}
use Rattle.lsys_syntax.specs.RulePoints.{RuleVerdict, whole, stops, too_deep, rule_from, Line, form_of, line_state, line_verdict, at_state, after_head, after_condition, after_weight, body_with, verdict_at, Leads}
use Rattle.lsys_reading.specs.Reads.{Refuses}
use Rattle.lsys_reading.specs.Heads.{form_in, head_read, IsHeadRead}
use Rattle.lsys_reading.specs.Spans.{option_at, IsConditionRead, IsWeightRead, IsArrowRead}
use Rattle.lsys_reading.specs.Images.{IsSuccessorRead}
use Rattle.lsys_reading.specs.RuleLines.{rule_at, IsRuleRead, IsLineRead}
use Rattle.lsys_syntax.proofs.RulePoints.{state-point, line-rule, leads-on}
use Rattle.lsys_reading.proofs.ReadLaws.{refuses-on}

-- 1. each part after those before it

module _ (f : Form) (ks : List Kind) (at : ℕ) (h : HeadRead) (i : IsHeadRead f ks at (Ok h)) where
  pub refused-condition : (q : PartRefusal) → IsConditionRead ks h.end (Err q) → Refuses (form_in f) ks at (at_state start) q
  refused-condition q j = refuses-on (form_in f) ks at h.end (at_state start) (after_head (head_read h)) q i (j (form_in f) (head_read h))

  module _ (c : OptionRead) (j : IsConditionRead ks h.end (Ok c)) where
    to-weight : Leads (form_in f) ks at (at_state start) c.end (after_condition (head_read h) (option_at ks c.span))
    to-weight = leads-on (form_in f) ks at h.end c.end (at_state start) (after_head (head_read h)) (after_condition (head_read h) (option_at ks c.span)) i (j (form_in f) (head_read h))

    pub refused-weight : (q : PartRefusal) → IsWeightRead f ks c.end (Err q) → Refuses (form_in f) ks at (at_state start) q
    refused-weight q k = refuses-on (form_in f) ks at c.end (at_state start) (after_condition (head_read h) (option_at ks c.span)) q to-weight (k (head_read h) (option_at ks c.span))

    module _ (w : OptionRead) (k : IsWeightRead f ks c.end (Ok w)) where
      abbrev body : machine.Premise
      body = body_with (head_read h) (option_at ks c.span) (option_at ks w.span)

      to-arrow : Leads (form_in f) ks at (at_state start) w.end (after_weight body)
      to-arrow = leads-on (form_in f) ks at c.end w.end (at_state start) (after_condition (head_read h) (option_at ks c.span)) (after_weight body) to-weight (k (head_read h) (option_at ks c.span))

      pub refused-arrow : (q : PartRefusal) → IsArrowRead ks w.end (Err q) → Refuses (form_in f) ks at (at_state start) q
      refused-arrow q l = refuses-on (form_in f) ks at w.end (at_state start) (after_weight body) q to-arrow (l (form_in f) body)

      module _ (end : ℕ) (l : IsArrowRead ks w.end (Ok end)) where
        to-successor : Leads (form_in f) ks at (at_state start) end (at_state (Successor body []))
        to-successor = leads-on (form_in f) ks at w.end end (at_state start) (after_weight body) (at_state (Successor body [])) to-arrow (l (form_in f) body)

        pub refused-successor : (q : PartRefusal) → IsSuccessorRead f ks end (Err q) → Refuses (form_in f) ks at (at_state start) q
        refused-successor q o = refuses-on (form_in f) ks at end (at_state start) (at_state (Successor body [])) q to-successor (o body)

-- 2. the line

module _ (f : Form) (ks : List Kind) (at : ℕ) where
  on-line : (g : Line) → form_of g ≡ form_in f → (v : RuleVerdict) → verdict_at (form_in f) ks at (at_state start) ≡ v → L.verdict_from at (line_state g start) (drop at ks) ≡ line_verdict g v
  on-line g e v h =
      line-rule g (drop at ks) at start ∙ ap (λ m. line_verdict g (rule_from m at start (drop at ks))) e
      ∙ ap (line_verdict g) (sym (state-point (form_in f) at start (drop at ks)) ∙ h)

  pub line-read : (result : Result RuleLine PartRefusal) → IsRuleRead f ks at result → IsLineRead f ks at result
  line-read (Ok r) h = λ g e. on-line g e (whole (rule_at ks r)) h
  line-read (Err (Token place)) h = λ g e. on-line g e (stops place) h
  line-read (Err (Deep place)) h = λ g e. on-line g e (too_deep place) h
  line-read (Err Memory) h = λ g e. tt
